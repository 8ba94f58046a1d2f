-- Differences and soft values (REQUIREMENTS, "Soft values"). Plus leans to 0, minus to 1. Assumes nothing.
use Rattle.std.specs.Prelude.{cond, List, ℕ, zero, suc, ◌^◌, eqb, ℤ, pos, neg_ℤ, ◌-ℤ◌, ◌*ℤ◌}
use Rattle.std.specs.Int.Signed.{lt_z}
use Rattle.arithmetic.specs.Lists.{first, keep}
use Rattle.arithmetic.specs.Least.{least_cost}
use Rattle.arithmetic.specs.Rounding.{nearest_quotient, halves_away}
use Rattle.constellation.specs.Parts.{Part}

-- the indices of a part whose label bit i is β
unfoldable pub indices_with : Part → ℕ → ℕ → List ℕ
indices_with p i β = keep (λ k. eqb (p.bit i k) β) (first (λ k. k) p.points)

-- the least cost over the points of a part whose label bit i is β
unfoldable pub least_with : Part → ℕ → ℕ → ℤ
least_with p i β = least_cost p.cost (indices_with p i β)

-- N: the least cost over points with the bit 1 minus that over points with the bit 0 (001, equation 2)
unfoldable pub cost_difference : Part → ℕ → ℤ
cost_difference p i = least_with p i 1 -ℤ least_with p i 0

-- z held within −T to T
unfoldable pub held_within : ℕ → ℤ → ℤ
held_within T z = cond (lt_z (pos T) z) (pos T) (cond (lt_z z (neg_ℤ (pos T))) (neg_ℤ (pos T)) z)

-- weight w, shift s + e and limit T
pub record Scale : Type 0 where
  pub weight : ℕ
  pub shift : ℕ
  pub limit : ℕ

-- the soft value of N at weight w, shift s + e and limit T: N·w / 2^(s+e), rounded with halves away from zero, then held within −T to T
unfoldable pub soft_value : ℕ → ℕ → ℕ → ℤ → ℤ
soft_value w shift T N = held_within T (nearest_quotient halves_away (N *ℤ pos w) (2 ^ shift))

-- an integer by its size and a bit: plus for 0, minus for 1
unfoldable pub signed_by : ℕ → ℕ → ℤ
signed_by zero n = pos n
signed_by (suc b) n = neg_ℤ (pos n)

abbrev pub max_weight : ℕ
max_weight = 4095

abbrev pub max_shift : ℕ
max_shift = 40

-- the largest limit T, which a soft value of 16 bits holds
abbrev pub max_limit : ℕ
max_limit = 32767
