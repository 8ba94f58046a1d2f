-- Laws of the rounded quotient: nearest_quotient rounds, nothing else does, it treats both signs alike, and each rule does what its name says.
-- Assumes nothing.
use mathlib.Core.Path.{◌≡◌, refl, sym, ap, ◌∙◌}
use mathlib.Core.Logic.{◌≢◌}
use mathlib.Core.Bool.{Bool, true, false, not, cond}
use Prim.Native.Nat.{ℕ, zero, suc, ◌+◌, ◌*◌, ◌-◌, ◌/◌, ◌%◌, ◌≤◌, ◌<◌}
use native.Mathlib.Nat.{div-add-mod', mod-lt, lt-div-mul-add}
use native.Mathlib.Omega.{arith}
use lib.Dec.{T, ltb, eqb, ltb→lt, nltb→le}
use lib.IntN.{ℤ, pos, negsuc, neg_ℤ, nat_abs, ◌-ℤ◌, ◌*ℤ◌}
use mir.Facts.{eqb_yes, eqb_no}
use Rattle.arithmetic.specs.Rounding.{TieRule, halves_away, halves_to_even, half_up, nearest_size, nearest_quotient, RoundsTo}
use Rattle.arithmetic.proofs.Integers.{diffs, as_diff, pos_diff, neg-pos}
use Rattle.arithmetic.proofs.Ranges.{abs_neg, abs-mul}

-- ---- the two signs

-- the error of the negated quotient of the negated number
error_neg : (r z : ℤ) (d : ℕ) → nat_abs (neg_ℤ r *ℤ pos d -ℤ neg_ℤ z) ≡ nat_abs (r *ℤ pos d -ℤ z)
error_neg r z d = rw (as_diff r, as_diff z, pos_diff d) (simp diffs (omega arith))

pub rounds_negate : {tie : TieRule} {z r : ℤ} {d : ℕ} → RoundsTo tie z d r → RoundsTo tie (neg_ℤ z) d (neg_ℤ r)
rounds_negate {z} {r} {d} p =
    record { error = rw (error_neg r z d) p.error; half = rw (error_neg r z d, abs_neg r, abs_neg z) p.half }

-- ---- nearest_quotient rounds

-- the error at q + c, where q is the whole part of n / d and m what remains
error_size : (n d q m c : ℕ) → q * d + m ≡ n → nat_abs (pos (q + c) *ℤ pos d -ℤ pos n) ≡ (c * d - m) + (m - c * d)
error_size n d q m c whole = rw (neg-pos n, pos_diff) (simp diffs (omega arith))

size_rounds : (tie : TieRule) (n d c : ℕ) → 2 * ((c * d - n % d) + (n % d - c * d)) ≤ d
    → (2 * ((c * d - n % d) + (n % d - c * d)) ≡ d → c ≡ half_up tie (n / d)) → RoundsTo tie (pos n) d (pos (n / d + c))
size_rounds tie n d c small settled =
    let size = error_size n d (n / d) (n % d) c (div-add-mod' n d) in
    record { error = rw size small; half = λ e. ap (λ (k : ℕ). n / d + k) (settled (rw size at e)) }

-- at a half, both neighbours are a half away
half_error : (tie : TieRule) (q d m : ℕ) → 2 * m ≡ d → 2 * ((half_up tie q * d - m) + (m - half_up tie q * d)) ≤ d
unfolding half_up
half_error tie q d m e = go (tie q)
  where
    go : (b : Bool) → 2 * ((cond b 1 0 * d - m) + (m - cond b 1 0 * d)) ≤ d
    go true = omega arith
    go false = omega arith

nearest_size_rounds : (tie : TieRule) (n d : ℕ) → 0 < d → RoundsTo tie (pos n) d (pos (nearest_size tie n d))
unfolding nearest_size
nearest_size_rounds tie n d h =
    go (ltb d (2 * (n % d))) (eqb (2 * (n % d)) d) (ltb→lt d (2 * (n % d))) (nltb→le d (2 * (n % d))) eqb_yes eqb_no
  where
    rest : n % d < d
    rest = mod-lt n h

    go : (above half : Bool) → (T above → d < 2 * (n % d)) → (T (not above) → 2 * (n % d) ≤ d) → (T half → 2 * (n % d) ≡ d)
        → (T (not half) → 2 * (n % d) ≢ d)
        → RoundsTo tie (pos n) d (pos (n / d + cond above 1 (cond half (half_up tie (n / d)) 0)))
    go true half a b c e = size_rounds tie n d 1 (omega (arith, a tt, rest)) (λ t. absurd (omega (arith, a tt, rest)))
    go false true a b c e = size_rounds tie n d (half_up tie (n / d)) (half_error tie (n / d) d (n % d) (c tt)) (λ t. refl)
    go false false a b c e = size_rounds tie n d 0 (omega (arith, b tt)) (λ t. absurd (omega (arith, e tt)))

pub nearest_rounds : (tie : TieRule) (z : ℤ) (d : ℕ) → 0 < d → RoundsTo tie z d (nearest_quotient tie z d)
unfolding nearest_quotient
nearest_rounds tie (pos n) d h = nearest_size_rounds tie n d h
nearest_rounds tie (negsuc n) d h = rounds_negate (nearest_size_rounds tie (suc n) d h)

-- ---- nothing else does

-- two quotients lie apart by at most the sum of their errors
pub apart : (r s z : ℤ) (d : ℕ) → nat_abs (r -ℤ s) * d ≤ nat_abs (r *ℤ pos d -ℤ z) + nat_abs (s *ℤ pos d -ℤ z)
apart r s z d = rw (← abs-mul (r -ℤ s) (pos d), as_diff r, as_diff s, as_diff z, pos_diff d) (simp diffs (omega arith))

pub same_place : (r s : ℤ) → nat_abs (r -ℤ s) ≡ 0 → r ≡ s
same_place r s = rw (as_diff r, as_diff s) (simp diffs (omega arith))

-- two integers of one size are not neighbours
not_neighbours : (r s : ℤ) → nat_abs r ≡ nat_abs s → nat_abs (r -ℤ s) ≡ 1 → ⊥
not_neighbours r s = rw (as_diff r, as_diff s) (simp diffs (omega arith))

pub rounds_unique : (tie : TieRule) (z : ℤ) (d : ℕ) → 0 < d → {r s : ℤ} → RoundsTo tie z d r → RoundsTo tie z d s → r ≡ s
rounds_unique tie z d h {r} {s} p t = go (nat_abs (r -ℤ s)) refl (apart r s z d)
  where
    go : (k : ℕ) → nat_abs (r -ℤ s) ≡ k → k * d ≤ nat_abs (r *ℤ pos d -ℤ z) + nat_abs (s *ℤ pos d -ℤ z) → r ≡ s
    go zero e l = same_place r s e
    go (suc zero) e l = absurd (not_neighbours r s (p.half (omega arith) ∙ sym (t.half (omega arith))) e)
    go (suc (suc k)) e l = absurd (omega arith)

pub nearest_negates : (tie : TieRule) (z : ℤ) (d : ℕ) → 0 < d → nearest_quotient tie (neg_ℤ z) d ≡ neg_ℤ (nearest_quotient tie z d)
nearest_negates tie z d h = rounds_unique tie (neg_ℤ z) d h (nearest_rounds tie (neg_ℤ z) d h) (rounds_negate (nearest_rounds tie z d h))

pub nearest_of_zero : (tie : TieRule) (d : ℕ) → 0 < d → nearest_quotient tie (pos 0) d ≡ pos 0
nearest_of_zero tie d h =
    rounds_unique tie (pos 0) d h (nearest_rounds tie (pos 0) d h)
    (record { error = omega arith; half = λ e. absurd (omega arith) })

-- ---- the two rules

-- a half goes to the size above
pub halves_away_lem : {z r : ℤ} {d : ℕ} → 0 < d → RoundsTo halves_away z d r → 2 * nat_abs (r *ℤ pos d -ℤ z) ≡ d → nat_abs z < nat_abs r * d
unfolding halves_away half_up
halves_away_lem {z} {r} {d} h p e = rw (p.half e) (omega (arith, lt-div-mul-add {a = nat_abs z} h))

-- a half goes to the even size
pub halves_even : {z r : ℤ} {d : ℕ} → RoundsTo halves_to_even z d r → 2 * nat_abs (r *ℤ pos d -ℤ z) ≡ d → nat_abs r % 2 ≡ 0
unfolding halves_to_even half_up
halves_even {z} {r} {d} p e = rw (p.half e) (go (nat_abs z / d) (eqb (nat_abs z / d % 2) 1) eqb_yes eqb_no)
  where
    go : (q : ℕ) (b : Bool) → (T b → q % 2 ≡ 1) → (T (not b) → q % 2 ≢ 1) → (q + cond b 1 0) % 2 ≡ 0
    go q true odd even = omega (arith, odd tt)
    go q false odd even = omega (arith, even tt)
