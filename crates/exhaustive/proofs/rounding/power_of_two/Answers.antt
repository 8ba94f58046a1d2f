-- `power_of_two` shifts 1 by at most 54, which gives that power. Assumes nothing.
use mathlib.Core.Path.{ap}
use Prim.Native.Nat.{◌^◌}
use Rattle.std.proofs.Common.{◌≤◌, mod-eq_of_lt, one-mul, arith, pow_pos, pow_mono}
use lib.Pow.{pow-lt}
use Rattle.exhaustive.proofs.rounding.power_of_two.Goals as goal

pub returns : goal.returns
returns c =
    let exponent : c.min.result ≤ 54 = omega (arith, c.min.ensures) in
    rw (one-mul, mod-eq_of_lt (pow-lt {i = c.min.result} {j = 64} (omega (arith, exponent)))) (pow_pos _, pow_mono {j = 54} exponent, ap (λ n. 2 ^ n) c.min.ensures)
