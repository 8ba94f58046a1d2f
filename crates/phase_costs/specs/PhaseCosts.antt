-- The costs of the nearest phase and of its counter-hypotheses by the sizes of the sample's coordinates alone, as the code computes them: p is
-- 2·g·|yI| and q is 2·g·|yQ|. Nobody has to believe this file to read a promise: proofs/PhaseCosts shows that these are the requirements' costs.
-- Assumes nothing.
use Rattle.std.specs.Prelude.{List, [], ◌∷◌, ℕ, zero, suc, ◌+◌, ◌*◌, ◌≤◌, max, min, ℤ, pos, ◌-ℤ◌}
use Rattle.constellation.specs.Ranges.{max_phase_bits, max_weighted}

-- with m bits, from 1 to 4: the cost of the nearest phase, and of the counter-hypotheses of bits 0, 1, .., and 0 up to five entries. Of 16 points the octant
-- of the sample holds two, an outer and an inner one.
unfoldable pub costs_by_sizes : (m p q : ℕ) → List ℤ
costs_by_sizes zero p q = []
costs_by_sizes (suc zero) p q = (pos 0 -ℤ pos (0 * p + 16384 * q)) ∷ (pos (16384 * q) -ℤ pos (0 * p)) ∷ pos 0 ∷ pos 0 ∷ pos 0 ∷ []
costs_by_sizes (suc (suc zero)) p q =
    (pos 0 -ℤ pos (11585 * p + 11585 * q))
    ∷ (pos (11585 * q) -ℤ pos (11585 * p))
    ∷ (pos (11585 * p) -ℤ pos (11585 * q))
    ∷ pos 0
    ∷ pos 0
    ∷ []
costs_by_sizes (suc (suc (suc zero))) p q =
    let large = max p q in
    let small = min p q in
    (pos 0 -ℤ pos (15137 * large + 6270 * small))
    ∷ (pos (6270 * q) -ℤ pos (15137 * p))
    ∷ (pos (6270 * p) -ℤ pos (15137 * q))
    ∷ (pos 0 -ℤ pos (6270 * large + 15137 * small))
    ∷ pos 0
    ∷ []
costs_by_sizes (suc (suc (suc (suc m)))) p q =
    let large = max p q in
    let small = min p q in
    let outer = 16069 * large + 3196 * small in
    let inner = 13623 * large + 9102 * small in
    (pos 0 -ℤ pos (max outer inner))
    ∷ (pos (3196 * q) -ℤ pos (16069 * p))
    ∷ (pos (3196 * p) -ℤ pos (16069 * q))
    ∷ (pos 0 -ℤ pos (9102 * large + 13623 * small))
    ∷ (pos 0 -ℤ pos (min outer inner))
    ∷ []

-- what the code asks of them
pub record SizesInRange (m p q : ℕ) : Type 0 where
  pub some : 1 ≤ m
  pub few : m ≤ max_phase_bits
  pub small_p : p ≤ max_weighted
  pub small_q : q ≤ max_weighted

-- u and v are coordinates of a point, and x and y such sizes
pub record ProductInRange (u x v y : ℕ) : Type 0 where
  pub point_u : u ≤ 16384
  pub point_v : v ≤ 16384
  pub small_x : x ≤ max_weighted
  pub small_y : y ≤ max_weighted
