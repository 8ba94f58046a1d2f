-- The points of a whole symbol (REQUIREMENTS, "Cost of a point" and "Soft values"): a point has an index of each part, for QAM one on each axis, and its
-- cost is the sum over the parts. That N of a bit, as its own part has it, is the difference of least costs over all these points is proofs/Points.
-- Assumes nothing.
use Rattle.std.specs.Prelude.{◌≡◌, ℕ, ◌<◌, ℤ, pos, ◌+ℤ◌, ◌-ℤ◌, get_or}
use mathlib.Core.List.{List, [], ◌∷◌, ◌++◌, flat_map}
use Rattle.arithmetic.specs.Least.{Least}
use Rattle.arithmetic.specs.Lists.{first}
use Rattle.constellation.specs.Parts.{Part, part_label}
use Rattle.demapper.specs.Soft.{cost_difference}

-- a point by its indices, one below the number of points of each part
pub data PointOf : List Part → List ℕ → Type 0 where
  none : PointOf [] []
  more : {p : Part} {ps : List Part} {k : ℕ} {ks : List ℕ} → k < p.points → PointOf ps ks → PointOf (p ∷ ps) (k ∷ ks)

-- the cost of a point: the sum of its parts' costs. (Lists of other lengths are no points.)
unfoldable pub point_cost : List Part → List ℕ → ℤ
point_cost [] ks = pos 0
point_cost (p ∷ ps) [] = pos 0
point_cost (p ∷ ps) (k ∷ ks) = p.cost k +ℤ point_cost ps ks

-- the label of a point: its parts' labels, one after the other
unfoldable pub point_label : List Part → List ℕ → List ℕ
point_label [] ks = []
point_label (p ∷ ps) [] = []
point_label (p ∷ ps) (k ∷ ks) = part_label p k ++ point_label ps ks

-- the points whose label bit i is β
pub record PointWith (parts : List Part) (i β : ℕ) (point : List ℕ) : Type 0 where
  pub in_symbol : PointOf parts point
  pub bit : get_or (point_label parts point) i 0 ≡ β

-- N of each bit, label by label, as the parts have it
unfoldable pub bit_differences : List Part → List ℤ
bit_differences parts = flat_map (λ p. first (cost_difference p) p.bits) parts

-- N of bit i is the least cost over all points with the bit 1 minus that over all points with it 0
pub record DifferenceOverPoints (parts : List Part) (i : ℕ) (N : ℤ) : Type 0 where
  pub one : ℤ
  pub zero : ℤ
  pub one_least : Least (PointWith parts i 1) (point_cost parts) one
  pub zero_least : Least (PointWith parts i 0) (point_cost parts) zero
  pub difference : N ≡ one -ℤ zero
