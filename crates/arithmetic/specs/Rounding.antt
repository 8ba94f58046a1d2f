-- Rounding a quotient of whole numbers to the nearest whole number, over a rule for halves: as a function, and as a relation.
-- Laws: proofs/Rounding. Assumes nothing.
use Rattle.std.specs.Prelude.{◌≡◌, Bool, true, cond, ℕ, suc, ◌+◌, ◌*◌, ◌/◌, ◌%◌, ◌≤◌, ltb, eqb, ℤ, pos, negsuc, neg_ℤ, nat_abs, ◌-ℤ◌, ◌*ℤ◌}

-- A rule for halves: whether a half above the size q is rounded to q + 1. A rule speaks of sizes, so it treats both signs alike.
abbrev pub TieRule : Type 0
TieRule = ℕ → Bool

-- halves away from zero
unfoldable pub halves_away : TieRule
halves_away q = true

-- halves to even
unfoldable pub halves_to_even : TieRule
halves_to_even q = eqb (q % 2) 1

-- 1 where the half above the size q is rounded up, and else 0
unfoldable pub half_up : TieRule → ℕ → ℕ
half_up tie q = cond (tie q) 1 0

-- n / d rounded to the nearest whole number; d is above 0
unfoldable pub nearest_size : TieRule → ℕ → ℕ → ℕ
nearest_size tie n d =
    n / d + cond (ltb d (2 * (n % d))) 1 (cond (eqb (2 * (n % d)) d) (half_up tie (n / d)) 0)

-- z / d rounded to the nearest whole number; d is above 0
unfoldable pub nearest_quotient : TieRule → ℤ → ℕ → ℤ
nearest_quotient tie (pos n) d = pos (nearest_size tie n d)
nearest_quotient tie (negsuc n) d = neg_ℤ (pos (nearest_size tie (suc n) d))

-- r is z / d rounded: twice the error, in units of 1 / d, is at most 1, and a half is settled by the rule.
-- nearest_quotient is the one r of which this holds (proofs/Rounding, `nearest_rounds` and `rounds_unique`).
pub record RoundsTo (tie : TieRule) (z : ℤ) (d : ℕ) (r : ℤ) : Type 0 where
  pub error : 2 * nat_abs (r *ℤ pos d -ℤ z) ≤ d
  pub half : 2 * nat_abs (r *ℤ pos d -ℤ z) ≡ d → nat_abs r ≡ nat_abs z / d + half_up tie (nat_abs z / d)
