-- `unit` is 2 to the shift or more, for shifts up to 54. Assumes nothing.
use Rattle.std.proofs.Common.{arith, pow_mono}
use Rattle.exhaustive.proofs.Settings.unit.Goals as goal

pub returns : goal.returns
returns c =
    let (least, most, is) = c.power_of_two.ensures in
    (least, most, rw is (pow_mono (omega (arith, c.min.ensures))))
