-- Soft values: none is larger than the limit, a difference of 0 has the soft value 0, a negated difference has the negated one, and the
-- size of a soft value in unsigned arithmetic.
-- Assumes nothing.
use mathlib.Core.Path.{◌≡◌, sym, ap, ◌∙◌}
use mathlib.Core.Logic.{◌≢◌}
use mathlib.Core.Bool.{Bool, true, false, not, cond}
use Prim.Native.Nat.{ℕ, zero, suc, ◌+◌, ◌*◌, ◌-◌, ◌/◌, ◌%◌, ◌^◌, ◌≤◌, ◌<◌, min, zero-le}
use native.Mathlib.Nat.{div-add-mod', mod-lt, div-eq_of_lt-le}
use native.Mathlib.Omega.{arith}
use lib.Dec.{T, ltb, eqb, ltb→lt, nltb→le}
use lib.IntN.{ℤ, pos, neg_ℤ, nat_abs, ◌*ℤ◌, zero-*ℤ}
use lib.Pow.{pow_pos}
use lib.Signed.{lt_z, ◌≤ℤ◌, ◌<ℤ◌, lt_z_yes, lt_z_no}
use mir.Facts.{eqb_yes, eqb_no}
use Rattle.arithmetic.specs.Rounding.{halves_away, half_up, nearest_size, nearest_quotient}
use Rattle.arithmetic.proofs.Integers.{diff, as_diff, diffs, pos_diff, diff_neg, neg-pos, neg_ℤ-*ℤ}
use Rattle.arithmetic.proofs.Rounding.{nearest_of_zero, nearest_negates}
use Rattle.demapper.specs.Soft.{held_within, soft_value, signed_by}

-- ---- holding within a limit

-- of the two parts of a difference, one of which is 0, each is held below the limit
held_diff : (L p n : ℕ) → held_within L (diff p n) ≡ diff (min L (p - n)) (min L (n - p))
unfolding held_within
held_diff L p n = rw (neg-pos L, pos_diff L) (go (lt_z (diff L 0) (diff p n)) (lt_z (diff p n) (diff 0 L)) lt_z_yes lt_z_no lt_z_yes lt_z_no)
  where
    go : (a b : Bool) → (T a → diff L 0 <ℤ diff p n) → (T (not a) → diff p n ≤ℤ diff L 0) → (T b → diff p n <ℤ diff 0 L)
        → (T (not b) → diff 0 L ≤ℤ diff p n) → cond a (diff L 0) (cond b (diff 0 L) (diff p n)) ≡ diff (min L (p - n)) (min L (n - p))
    go true b f g h k = simp diffs (omega (arith, simp diffs at (f tt)))
    go false true f g h k = simp diffs (omega (arith, simp diffs at (h tt)))
    go false false f g h k = simp diffs (omega (arith, simp diffs at (g tt), simp diffs at (k tt)))

pub held_size : (L : ℕ) (z : ℤ) → nat_abs (held_within L z) ≤ L
held_size L z = rw (as_diff z) (simp (held_diff, diffs) (omega arith))

pub held_inside : (L : ℕ) (z : ℤ) → nat_abs z ≤ L → held_within L z ≡ z
held_inside L z = rw (as_diff z) (simp (held_diff, diffs) (omega arith))

pub held_natural : (L n : ℕ) → held_within L (pos n) ≡ pos (min L n)
held_natural L n = rw (pos_diff n) (simp (held_diff, diffs) (omega arith))

pub held_negates : (L : ℕ) (z : ℤ) → held_within L (neg_ℤ z) ≡ neg_ℤ (held_within L z)
held_negates L z = rw (as_diff z) (simp (diff_neg, held_diff))

-- ---- rounding

-- halves away from zero are halves up on sizes
pub nearest_half_up : (n d : ℕ) → 0 < d → nearest_size halves_away n d ≡ (n + d / 2) / d
unfolding nearest_size halves_away half_up
nearest_half_up n d h =
    sym (go (ltb d (2 * (n % d))) (eqb (2 * (n % d)) d) (ltb→lt d (2 * (n % d))) (nltb→le d (2 * (n % d))) eqb_yes eqb_no)
  where
    up : (c : ℕ) → c * d ≤ n % d + d / 2 → n % d + d / 2 < suc c * d → (n + d / 2) / d ≡ n / d + c
    up c l u = div-eq_of_lt-le d (omega (arith, div-add-mod' n d)) (omega (arith, div-add-mod' n d))

    go : (above half : Bool) → (T above → d < 2 * (n % d)) → (T (not above) → 2 * (n % d) ≤ d) → (T half → 2 * (n % d) ≡ d)
        → (T (not half) → 2 * (n % d) ≢ d) → (n + d / 2) / d ≡ n / d + cond above 1 (cond half 1 0)
    go true half a b c e = up 1 (omega (arith, a tt)) (omega (arith, mod-lt n h))
    go false true a b c e = up 1 (omega (arith, c tt)) (omega (arith, mod-lt n h))
    go false false a b c e = up 0 (omega arith) (omega (arith, b tt, e tt))

-- ---- soft values

pub soft_size : (w shift L : ℕ) (N : ℤ) → nat_abs (soft_value w shift L N) ≤ L
unfolding soft_value
soft_size w shift L N = held_size L _

pub soft_of_zero : (w shift L : ℕ) → soft_value w shift L (pos 0) ≡ pos 0
unfolding soft_value
soft_of_zero w shift L = rw (zero-*ℤ, nearest_of_zero halves_away (2 ^ shift) (pow_pos shift)) (held_inside L (pos 0) zero-le)

pub soft_negates : (w shift L : ℕ) (N : ℤ) → soft_value w shift L (neg_ℤ N) ≡ neg_ℤ (soft_value w shift L N)
unfolding soft_value
soft_negates w shift L N = rw (neg_ℤ-*ℤ, nearest_negates halves_away (N *ℤ pos w) (2 ^ shift) (pow_pos shift), held_negates)

pub soft_of_natural : (w shift L n : ℕ) → soft_value w shift L (pos n) ≡ pos (min L ((n * w + 2 ^ shift / 2) / 2 ^ shift))
unfolding soft_value nearest_quotient
soft_of_natural w shift L n = rw (nearest_half_up (n * w) (2 ^ shift) (pow_pos shift), held_natural)

-- the size is rounded and held, and the sign put on last
pub soft_signed : (w shift L b n : ℕ) → soft_value w shift L (signed_by b n) ≡ signed_by b (min L ((n * w + 2 ^ shift / 2) / 2 ^ shift))
unfolding signed_by
soft_signed w shift L zero n = soft_of_natural w shift L n
soft_signed w shift L (suc b) n = soft_negates w shift L (pos n) ∙ ap neg_ℤ (soft_of_natural w shift L n)
