-- Rounding to the nearest whole number, halves to even: one number alone is it; `rounded` is, and so is what lib.Ieee rounds to.
-- Assumes nothing.
use mathlib.Core.Path.{◌≡◌, refl}
use mathlib.Core.Logic.{◌≢◌}
use mathlib.Core.Bool.{not}
use Prim.Native.Nat.{ℕ, zero, suc, ◌+◌, ◌*◌, ◌-◌, ◌/◌, ◌%◌, ◌≤◌, ◌<◌, compare, Ordering}
use native.Mathlib.Nat.{div-add-mod', mod-lt}
use native.Mathlib.Omega.{arith}
use lib.Dec.{T, is_le, compare_is_eq, leb→le, nleb→lt, lit<}
use lib.IntN.{ℤ, pos, nat_abs, ◌+ℤ◌, ◌-ℤ◌, ◌*ℤ◌}
use lib.Ieee.{Float, nan, inf, fin, nearest}
use lib.Ieee.Fits.{down_pos}
use lib.Ieee.Nearest.{closest}
use mir.Facts.{eqb_yes, eqb_no}
use Rattle.arithmetic.specs.Rounding.{halves_to_even, RoundsTo}
use Rattle.arithmetic.proofs.Integers.{diffs, as_diff, neg-pos}
use Rattle.arithmetic.proofs.Rounding.{nearest_rounds, halves_even, apart, same_place}
use Rattle.binary32.specs.Conversion.{numerator, denominator, rounded, RoundsEven, Rounds}

-- ---- one number alone

-- neighbours are not both even
not_both_even : (r s : ℤ) → nat_abs r % 2 ≡ 0 → nat_abs s % 2 ≡ 0 → nat_abs (r -ℤ s) ≢ 1
not_both_even r s = rw (as_diff r, as_diff s) (simp diffs (omega arith))

-- one number alone is N / D rounded
pub rounds_even_unique : (N : ℤ) (D : ℕ) → 0 < D → {r s : ℤ} → RoundsEven N D r → RoundsEven N D s → r ≡ s
rounds_even_unique N D h {r} {s} p q = go (nat_abs (r -ℤ s)) refl (apart r s N D)
  where
    go : (k : ℕ) → nat_abs (r -ℤ s) ≡ k → k * D ≤ nat_abs (r *ℤ pos D -ℤ N) + nat_abs (s *ℤ pos D -ℤ N) → r ≡ s
    go zero e l = same_place r s e
    go (suc zero) e l = absurd (not_both_even r s (p.even (omega arith)) (q.even (omega arith)) e)
    go (suc (suc k)) e l = absurd (omega arith)

-- ---- `rounded` rounds

pub denominator-pos : (x : Float) → 0 < denominator x
unfolding denominator
denominator-pos nan = lit< tt
denominator-pos (inf s) = lit< tt
denominator-pos (fin s m e) = down_pos e

-- the rule of `nearest_quotient` settles a half as asked
even_of_rule : {N r : ℤ} {D : ℕ} → RoundsTo halves_to_even N D r → RoundsEven N D r
even_of_rule p = record { error = p.error; even = halves_even p }

pub rounded_rounds : (F : ℕ) (x : Float) → Rounds F x (rounded F x)
unfolding rounded
rounded_rounds F x = even_of_rule (nearest_rounds halves_to_even (numerator F x) (denominator x) (denominator-pos x))

pub rounded_is : (F : ℕ) (x : Float) (r : ℤ) → Rounds F x r → r ≡ rounded F x
rounded_is F x r h = rounds_even_unique (numerator F x) (denominator x) (denominator-pos x) h (rounded_rounds F x)

-- ---- `closest` of lib.Ieee rounds

-- the error at a natural number
error_size : (n d r : ℕ) → nat_abs (pos r *ℤ pos d -ℤ pos n) ≡ (r * d - n) + (n - r * d)
error_size n d r = rw (neg-pos n) (simp diffs (omega arith))

size_rounds : (n d r : ℕ) → 2 * ((r * d - n) + (n - r * d)) ≤ d → (2 * ((r * d - n) + (n - r * d)) ≡ d → r % 2 ≡ 0)
    → RoundsEven (pos n) d (pos r)
size_rounds n d r small settled = record { error = rw (error_size n d r) small; even = rw (error_size n d r) settled }

-- a half above q goes to the even one of q and q + 1
half_rounds : (n d q m c : ℕ) → q * d + m ≡ n → m * 2 ≡ d → q % 2 ≡ c → RoundsEven (pos n) d (pos (q + c))
half_rounds n d q m zero whole half even = size_rounds n d (q + 0) (omega arith) (λ e. omega arith)
half_rounds n d q m (suc zero) whole half odd = size_rounds n d (q + 1) (omega arith) (λ e. omega arith)
half_rounds n d q m (suc (suc c)) whole half never = absurd (omega arith)

-- what `round` of lib.Ieee makes of a fraction
pub closest_rounds : (n d : ℕ) → 0 < d → RoundsEven (pos n) d (pos (closest n d))
closest_rounds n d h =
    go (n / d) (n % d) (compare (n % d * 2) d) (div-add-mod' n d) (mod-lt n h) (leb→le (n % d * 2) d) (nleb→lt (n % d * 2) d) eqb_yes eqb_no
  where
    go : (q m : ℕ) (o : Ordering) → q * d + m ≡ n → m < d → (T (is_le o) → m * 2 ≤ d) → (T (not (is_le o)) → d < m * 2)
        → (T (compare_is_eq o) → m * 2 ≡ d) → (T (not (compare_is_eq o)) → m * 2 ≢ d) → RoundsEven (pos n) d (pos (nearest q o))
    go q m Ordering.lt whole rest a b c e = size_rounds n d q (omega (arith, a tt)) (λ t. absurd (omega (arith, e tt)))
    go q m Ordering.eq whole rest a b c e = half_rounds n d q m (q % 2) whole (c tt) refl
    go q m Ordering.gt whole rest a b c e = size_rounds n d (suc q) (omega (arith, b tt)) (λ t. absurd (omega (arith, b tt)))

-- ---- a quotient moved by an even whole number

shifted_error : (N : ℤ) (D M q : ℕ) → nat_abs ((pos q -ℤ pos M) *ℤ pos D -ℤ N) ≡ nat_abs (pos q *ℤ pos D -ℤ (N +ℤ pos (M * D)))
shifted_error N D M q = rw (as_diff N, neg-pos M) (simp diffs (omega arith))

shifted_even : (M q : ℕ) → M % 2 ≡ 0 → q % 2 ≡ 0 → nat_abs (pos q -ℤ pos M) % 2 ≡ 0
shifted_even M q = rw (neg-pos M) (simp diffs (omega arith))

pub shifted_rounds : (N : ℤ) (D M q : ℕ) → M % 2 ≡ 0 → RoundsEven (N +ℤ pos (M * D)) D (pos q) → RoundsEven N D (pos q -ℤ pos M)
shifted_rounds N D M q even h =
    record { error = rw (shifted_error N D M q) h.error; even = λ e. shifted_even M q even (h.even (rw (shifted_error N D M q) at e)) }
