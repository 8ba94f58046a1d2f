-- `quarter` meets its contract, by the law `quadrant_sum`. Assumes nothing.
use native.Mathlib.Omega.{arith}
use mir.Facts.{to_z-of_z}
use Rattle.phase_nearest.proofs.PhaseNearest.{phase-nearest, quadrant_sum}
use Rattle.phase_nearest.proofs.quarter.Goals as goal

pub returns : goal.returns
returns c =
    let x = c.args in
    rw (c.from-left.ensures, c.from-below.ensures, to_z-of_z c.ranges.yi, to_z-of_z c.ranges.yq, phase-nearest 2 1 x.yi x.yq (omega arith) (omega arith))
    (quadrant_sum x.yi x.yq)
