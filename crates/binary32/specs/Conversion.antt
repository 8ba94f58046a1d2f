-- Rounding a binary32 number times 2^F to a whole number (REQUIREMENTS, "Captures in binary32"). Assumes nothing.
use Rattle.std.specs.Prelude.{◌≡◌, Bool, true, false, not, ◌&&◌, ℕ, ◌*◌, ◌%◌, ◌^◌, ◌≤◌, ℤ, pos, neg_ℤ, nat_abs, ◌-ℤ◌, ◌*ℤ◌, Float}
use Rattle.std.specs.Float.{nan, inf, fin}
use Rattle.std.specs.Float.Ieee.{up, down}
use Rattle.std.specs.Float.Ieee.Scale.{finite}
use Rattle.arithmetic.specs.Rounding.{nearest_quotient, halves_to_even}
use Rattle.frame.specs.FrameCall.{sample_outside}

-- the scale F is 0 to 20
abbrev pub max_scale : ℕ
max_scale = 20

-- ---- the value times 2^F, as a fraction of whole numbers

unfoldable pub signed : Bool → ℕ → ℤ
signed false n = pos n
signed true n = neg_ℤ (pos n)

-- a finite value is ±m·2^e, and 2^e is up e / down e
unfoldable pub numerator : ℕ → Float → ℤ
numerator F nan = pos 0
numerator F (inf s) = pos 0
numerator F (fin s m e) = signed s (m * up e * 2 ^ F)

unfoldable pub denominator : Float → ℕ
denominator nan = 1
denominator (inf s) = 1
denominator (fin s m e) = down e

-- ---- rounding

-- the value times 2^F, rounded to the nearest whole number, halves to even
unfoldable pub rounded : ℕ → Float → ℤ
rounded F x = nearest_quotient halves_to_even (numerator F x) (denominator x)

-- r is N / D rounded: twice the error is at most 1, and at a half r is even. One r alone is (proofs/Rounding, `rounds_even_unique`).
pub record RoundsEven (N : ℤ) (D : ℕ) (r : ℤ) : Type 0 where
  pub error : 2 * nat_abs (r *ℤ pos D -ℤ N) ≤ D
  pub even : 2 * nat_abs (r *ℤ pos D -ℤ N) ≡ D → nat_abs r % 2 ≡ 0

abbrev pub Rounds : ℕ → Float → ℤ → Type 0
Rounds F x r = RoundsEven (numerator F x) (denominator x) r

-- ---- a coordinate

-- it is finite, and rounds into the range of samples
unfoldable pub converts : ℕ → Float → Bool
converts F x = finite x && not (sample_outside (rounded F x))
