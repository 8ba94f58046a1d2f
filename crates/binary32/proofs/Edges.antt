-- The edges of a conversion: both zeros, and every number that is too small to pass a half, give 0; a finite number that is too large is
-- refused by 13, however large it is. Assumes nothing.
use mathlib.Core.Path.{◌≡◌, refl, sym}
use mathlib.Core.Bool.{Bool}
use Rattle.std.specs.Prelude.{Err}
use Prim.Native.Nat.{ℕ, ◌+◌, ◌*◌, ◌^◌, ◌≤◌, ◌<◌}
use native.Mathlib.Nat.{zero-mul}
use native.Mathlib.Omega.{arith}
use borrow.Author.Tests.{lt-ltb}
use lib.IntN.{ℤ, pos, nat_abs, ◌-ℤ◌, ◌*ℤ◌}
use lib.Ieee.{fin, up, down}
use Rattle.arithmetic.proofs.Integers.{diffs, as_diff}
use Rattle.constellation.specs.Ranges.{max_sample}
use Rattle.frame.specs.declared.Refusal.TheVariants.{RoundsOutOfRange}
use Rattle.binary32.specs.Conversion.{numerator, denominator, rounded, converts}
use Rattle.binary32.specs.Scaling.{refusal_for, converted_number}
use Rattle.binary32.proofs.Rounding.{rounded_is}
use Rattle.binary32.proofs.Range.{signed-size, outside_by_size}

-- the error at 0
error_at_zero : (z : ℤ) (D : ℕ) → nat_abs (pos 0 *ℤ pos D -ℤ z) ≡ nat_abs z
error_at_zero z D = rw (zero-mul D, as_diff z) (simp diffs (omega arith))

pub small_rounds : (F : ℕ) (s : Bool) (m : ℕ) (e : ℤ) → 2 * (m * up e * 2 ^ F) ≤ down e → rounded F (fin s m e) ≡ pos 0
unfolding numerator denominator
small_rounds F s m e h =
    sym (rounded_is F (fin s m e) (pos 0) (record { error = rw (error_at_zero _ (down e), signed-size s (m * up e * 2 ^ F)) h; even = λ half. refl }))

pub zero_rounds : (F : ℕ) (s : Bool) (e : ℤ) → rounded F (fin s 0 e) ≡ pos 0
zero_rounds F s e = small_rounds F s 0 e (rw (zero-mul (up e), zero-mul (2 ^ F)) (omega arith))

pub large_refused : (F : ℕ) (s : Bool) (m : ℕ) (e : ℤ) → (2 * max_sample + 1) * down e < 2 * (m * up e * 2 ^ F)
    → converted_number F (fin s m e) ≡ Err RoundsOutOfRange
unfolding converted_number converts refusal_for
large_refused F s m e h = rw (outside_by_size F s m e, lt-ltb _ _ h)
