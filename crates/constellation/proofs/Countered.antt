-- Lemmas 2 and 3 of 001 as one: the counter-hypothesis of bit i has the other bit, and no index with the other bit costs less.
-- Assumes nothing.
use mathlib.Core.Path.{◌≡◌}
use mathlib.Core.Logic.{◌≢◌}
use Prim.Native.Nat.{ℕ, ◌-◌, ◌^◌, ◌<◌}
use lib.IntN.{ℤ}
use lib.Signed.{◌≤ℤ◌}
use Rattle.constellation.specs.Gray.{label_bit}
use Rattle.constellation.specs.Levels.{axis_cost}
use Rattle.constellation.specs.Psk.{phase_cost}
use Rattle.constellation.specs.Counter.{axis_counter, phase_counter}
use Rattle.constellation.proofs.PskTables.{phase_counter_below, phase_counter_other_bit}
use Rattle.constellation.specs.Nearest.{IsNearest}
use Rattle.constellation.proofs.AxisCounter.{axis_counter_below, axis_counter_other_bit, axis_counter_least}
use Rattle.constellation.proofs.PhaseCounter.{phase_counter_least}

-- `counter` gives the counter-hypotheses of Gray labels of m bits at this cost
pub record Countered (m : ℕ) (cost : ℕ → ℤ) (counter : ℕ → ℕ → ℕ) : Type 0 where
  pub below : (k i : ℕ) → k < 2 ^ m → i < m → counter k i < 2 ^ m
  pub other_bit : (k i : ℕ) → k < 2 ^ m → i < m → label_bit m i (counter k i) ≡ 1 - label_bit m i k
  pub least : (k i : ℕ) → i < m → IsNearest (2 ^ m) cost k → (j : ℕ) → j < 2 ^ m → label_bit m i j ≢ label_bit m i k
      → cost (counter k i) ≤ℤ cost j

-- an axis of any size
pub axis_countered : (m g : ℕ) (y : ℤ) → Countered m (axis_cost m g y) (axis_counter m)
axis_countered m g y =
    record {
      below = λ k i b l. axis_counter_below m k i l b;
      other_bit = λ k i b l. axis_counter_other_bit m k i l b;
      least = axis_counter_least m g y;
    }

-- a phase with 1 to 4 bits, for which the requirements have points
pub phase_countered : (m g : ℕ) (y_i y_q : ℤ) → 0 < m → m < 5 → Countered m (phase_cost m g y_i y_q) (phase_counter m)
phase_countered m g y_i y_q low high =
    record {
      below = λ k i. phase_counter_below m k i low high;
      other_bit = λ k i. phase_counter_other_bit m k i low high;
      least = λ k i. phase_counter_least m g y_i y_q k i low high;
    }
