-- `power_of_two` meets its contract: the shift does not pass 32 bits, and binary32 has each power up to 2^20. Assumes nothing.
use mathlib.Core.Path.{◌≡◌}
use Prim.Native.Nat.{ℕ, ◌*◌, ◌%◌, ◌^◌, ◌≤◌}
use native.Mathlib.Nat.{one-mul, mod-eq_of_lt}
use native.Mathlib.Omega.{arith}
use lib.Dec.{T, le→leb}
use lib.IntN.{pos}
use lib.Pow.{pow-lt, pow_mono}
use lib.Ieee.{binary32, in_float}
use Rattle.binary32.specs.Conversion.{max_scale}
use Rattle.binary32.proofs.power_of_two.Goals as goal

shifted : (n : ℕ) → n ≤ max_scale → 1 * 2 ^ n % 2 ^ 32 ≡ 2 ^ n
shifted n h = rw one-mul (mod-eq_of_lt (pow-lt {j = 32} (omega arith)))

exact : (n : ℕ) → n ≤ max_scale → T (in_float binary32 (pos (2 ^ n)))
unfolding in_float
exact n h = le→leb _ _ (pow_mono {i = n} {j = 24} (omega arith))

pub int_to_float-result : goal.int_to_float-result
int_to_float-result c = rw (shifted c.args.n c.requires) (exact c.args.n c.requires)
