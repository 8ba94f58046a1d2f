-- `Bits::count` shifts 1 by at most 6. Assumes nothing.
use Rattle.std.proofs.Common.{◌≤◌, mod-eq_of_lt, one-mul, arith, pow_pos, pow_mono}
use lib.Pow.{pow-lt}
use Rattle.exhaustive.proofs.modulations.Bits.count.Goals as goal

pub returns : goal.returns
returns c =
    let within : c.args.self.number ≤ 6 = c.args.self.within in
    rw (one-mul, mod-eq_of_lt (pow-lt {i = c.args.self.number} {j = 64} (omega (arith, within)))) (pow_pos _, pow_mono {j = 6} within)
