-- The least of costs: over any set as a relation, over a list and over the numbers below a bound as functions.
-- Laws: proofs/Least. Assumes nothing.
use Rattle.std.specs.Prelude.{◌≡◌, cond, List, [], ◌∷◌, ℕ, zero, suc, ℤ, pos, ◌≤ℤ◌}
use Rattle.std.specs.Int.Signed.{le_z, lt_z}

-- v is the least cost over the set `In`: a member has it, and no member has less.
pub record Least {A : Type 0} (In : A → Type 0) (cost : A → ℤ) (v : ℤ) : Type 0 where
  pub best : A
  pub member : In best
  pub attained : cost best ≡ v
  pub bound : (a : A) → In a → v ≤ℤ cost a

unfoldable pub min_ℤ : ℤ → ℤ → ℤ
min_ℤ a b = cond (le_z a b) a b

-- the least cost over the indices of a list; 0 for the empty list
unfoldable pub least_cost : (ℕ → ℤ) → List ℕ → ℤ
least_cost cost [] = pos 0
least_cost cost (k ∷ []) = cost k
least_cost cost (k ∷ j ∷ ks) = min_ℤ (cost k) (least_cost cost (j ∷ ks))

-- the smallest of the indices below n whose cost is least; 0 where n is 0
unfoldable pub first_least : (ℕ → ℤ) → ℕ → ℕ
first_least cost zero = 0
first_least cost (suc n) = let k = first_least cost n in cond (lt_z (cost n) (cost k)) n k
