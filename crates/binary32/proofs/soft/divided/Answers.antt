-- `divided` meets its contract: an i16 over a power of two is exact. Assumes nothing.
use mir.Facts.{to_z-of_z}
use Rattle.binary32.proofs.SoftValues.{soft_size, division_exact}
use Rattle.binary32.proofs.soft.divided.Goals as goal

pub returns : goal.returns
returns c f h power =
    let fits = c.ranges.soft in
    rw (power, to_z-of_z fits) (division_exact f _ h (soft_size _ fits))
