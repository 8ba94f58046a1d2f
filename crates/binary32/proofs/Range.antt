-- A number rounds out of the range of samples exactly where it is more than a half above it: the half goes to the even end of the range.
-- Assumes nothing.
use mathlib.Core.Path.{◌≡◌, refl, sym}
use mathlib.Core.Logic.{◌⊎◌, inl, inr}
use mathlib.Core.Bool.{Bool, true, false}
use Prim.Native.Nat.{ℕ, suc, ◌+◌, ◌*◌, ◌%◌, ◌^◌, ◌≤◌, ◌<◌}
use native.Mathlib.Nat.{eq-or-lt_of_le, mul-le-mul_right}
use native.Mathlib.Omega.{arith}
use borrow.Author.Tests.{ltb-true, ltb-false, lt-ltb, le-ltb}
use lib.Dec.{ltb}
use lib.IntN.{ℤ, pos, nat_abs, ◌-ℤ◌, ◌*ℤ◌}
use lib.Ieee.{fin, up, down}
use lib.Ieee.Fits.{down_pos}
use Rattle.arithmetic.proofs.Integers.{diffs, as_diff, pos_diff}
use Rattle.arithmetic.proofs.Ranges.{abs_neg, abs-mul}
use Rattle.constellation.specs.Ranges.{max_sample}
use Rattle.frame.specs.FrameCall.{sample_outside}
use Rattle.binary32.specs.Conversion.{signed, numerator, denominator, rounded, RoundsEven}
use Rattle.binary32.proofs.Rounding.{rounded_rounds}

-- ---- over any even bound B

-- the sizes of r·D and of N lie apart by at most the error
near_above : (r N : ℤ) (D : ℕ) → nat_abs r * D ≤ nat_abs N + nat_abs (r *ℤ pos D -ℤ N)
near_above r N D = rw (← abs-mul r (pos D), as_diff r, as_diff N, pos_diff D) (simp diffs (omega arith))

near_below : (r N : ℤ) (D : ℕ) → nat_abs N ≤ nat_abs r * D + nat_abs (r *ℤ pos D -ℤ N)
near_below r N D = rw (← abs-mul r (pos D), as_diff r, as_diff N, pos_diff D) (simp diffs (omega arith))

-- an error of a half at the size B + 1 is ruled out: B + 1 is odd
outside : (B D : ℕ) {N r : ℤ} → B % 2 ≡ 0 → 0 < D → RoundsEven N D r → B < nat_abs r → (2 * B + 1) * D < 2 * nat_abs N
outside B D {N} {r} even h p above = go (eq-or-lt_of_le above) (eq-or-lt_of_le p.error) (near_above r N D)
  where
    error : ℕ
    error = nat_abs (r *ℤ pos D -ℤ N)

    go : (suc B ≡ nat_abs r) ⊎ (suc B < nat_abs r) → (2 * error ≡ D) ⊎ (2 * error < D) → nat_abs r * D ≤ nat_abs N + error
        → (2 * B + 1) * D < 2 * nat_abs N
    go (inl e) (inl half) near = absurd (omega (arith, p.even half))
    go (inl e) (inr less) near = let n : suc B * D ≤ nat_abs N + error = rw e near in omega arith
    go (inr l) half near = omega (arith, mul-le-mul_right D l, p.error)

inside : (B D : ℕ) {N r : ℤ} → RoundsEven N D r → nat_abs r ≤ B → 2 * nat_abs N ≤ (2 * B + 1) * D
inside B D {N} {r} p below = omega (arith, near_below r N D, mul-le-mul_right D below, p.error)

outside_same : (B D : ℕ) {N r : ℤ} → B % 2 ≡ 0 → 0 < D → RoundsEven N D r → ltb B (nat_abs r) ≡ ltb ((2 * B + 1) * D) (2 * nat_abs N)
outside_same B D {N} {r} even h p = go (ltb B (nat_abs r)) refl
  where
    go : (b : Bool) → ltb B (nat_abs r) ≡ b → b ≡ ltb ((2 * B + 1) * D) (2 * nat_abs N)
    go true e = sym (lt-ltb _ _ (outside B D even h p (ltb-true _ _ e)))
    go false e = sym (le-ltb _ _ (inside B D p (ltb-false _ _ e)))

-- ---- the range of samples

pub signed-size : (s : Bool) (n : ℕ) → nat_abs (signed s n) ≡ n
unfolding signed
signed-size false n = refl
signed-size true n = abs_neg (pos n)

pub outside_by_size : (F : ℕ) (s : Bool) (m : ℕ) (e : ℤ)
    → sample_outside (rounded F (fin s m e)) ≡ ltb ((2 * max_sample + 1) * down e) (2 * (m * up e * 2 ^ F))
unfolding numerator denominator
outside_by_size F s m e = rw signed-size at (outside_same max_sample (down e) refl (down_pos e) (rounded_rounds F (fin s m e)))
