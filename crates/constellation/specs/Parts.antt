-- The parts of a received symbol: what has an index, a label and a cost of its own (REQUIREMENTS, "Cost of a point").
-- Words, probes, soft values and demand 3 know of a part what the record `Part` holds, and no more. Assumes nothing.
use Rattle.std.specs.Prelude.{List, ◌∷◌, ℕ, ◌-◌, ◌^◌, ℤ}
use Rattle.arithmetic.specs.Lists.{first}
use Rattle.arithmetic.specs.Least.{first_least}
use Rattle.constellation.specs.Gray.{complement, label_bit, index_of_label}
use Rattle.constellation.specs.Levels.{axis_cost}
use Rattle.constellation.specs.Psk.{phase_cost}
use Rattle.constellation.specs.Counter.{axis_counter, phase_counter}

pub record Part : Type 0 where
  -- how many bits its label has, and how many points it has: its indices are the numbers below
  pub bits : ℕ
  pub points : ℕ
  -- the cost of index k
  pub cost : ℕ → ℤ
  -- label bit i of index k, and the index with a label
  pub bit : ℕ → ℕ → ℕ
  pub index : List ℕ → ℕ
  -- the nearest index k*, and the indices that are probed
  pub nearest : ℕ
  pub probed : List ℕ

-- a part with the complement of its labels; all else is the same
unfoldable pub complemented : Part → Part
complemented p =
    record {
      bits = p.bits;
      points = p.points;
      cost = p.cost;
      bit = λ i k. 1 - p.bit i k;
      index = λ label. p.index (complement label);
      nearest = p.nearest;
      probed = p.probed;
    }

-- the label of index k of a part
unfoldable pub part_label : Part → ℕ → List ℕ
part_label p k = first (λ i. p.bit i k) p.bits

-- the hard bits of a part: the label of its nearest index
unfoldable pub part_hard : Part → List ℕ
part_hard p = part_label p p.nearest

-- a part of 2 ^ m points with Gray labels, whose nearest index is k. Probed are k and, for each bit i, its counter-hypothesis `counter k i`.
unfoldable pub gray_part : (m : ℕ) (cost : ℕ → ℤ) (k : ℕ) (counter : ℕ → ℕ → ℕ) → Part
gray_part m cost k counter =
    record {
      bits = m;
      points = 2 ^ m;
      cost = cost;
      bit = label_bit m;
      index = index_of_label;
      nearest = k;
      probed = k ∷ first (counter k) m;
    }

-- an axis, and a phase, with m bits, received at the gain g. Of the indices that cost least the smallest is the nearest.
unfoldable pub axis : (m g : ℕ) (y : ℤ) → Part
axis m g y = gray_part m (axis_cost m g y) (first_least (axis_cost m g y) (2 ^ m)) (axis_counter m)

unfoldable pub phase : (m g : ℕ) (y_i y_q : ℤ) → Part
phase m g y_i y_q = gray_part m (phase_cost m g y_i y_q) (first_least (phase_cost m g y_i y_q) (2 ^ m)) (phase_counter m)
