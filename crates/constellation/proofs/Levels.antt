-- The levels of an axis: neighbours are 2 apart, they are symmetric about 0, and none is beyond 2^m − 1. The cost on an axis by the height of the sample.
-- Assumes nothing.
use mathlib.Core.Path.{◌≡◌, ap}
use Prim.Native.Nat.{ℕ, suc, ◌*◌, ◌-◌, ◌^◌, ◌≤◌, ◌<◌}
use native.Mathlib.Nat.{mul-le-mul}
use native.Mathlib.Omega.{arith}
use lib.IntN.{ℤ, pos, neg_ℤ, nat_abs, ◌+ℤ◌}
use lib.Pow.{pow_pos, pow_mono}
use Rattle.arithmetic.proofs.Integers.{as_diff, diffs}
use Rattle.arithmetic.proofs.Ranges.{abs-add}
use Rattle.constellation.specs.Ranges.{max_gain, AxisInRange}
use Rattle.constellation.specs.Levels.{level, squared, axis_cost}
use Rattle.constellation.specs.Heights.{axis_height, cost_by_height, HeightInRange}

pub level_step : (m k : ℕ) → level m (suc k) ≡ level m k +ℤ pos 2
unfolding level
level_step m k = simp diffs (omega arith)

pub level_mirror : (m k : ℕ) → k < 2 ^ m → level m (2 ^ m - suc k) ≡ neg_ℤ (level m k)
unfolding level
level_mirror m k h = simp diffs (omega (arith, pow_pos m))

pub level-size : (m k : ℕ) → k < 2 ^ m → nat_abs (level m k) ≤ 2 ^ m - 1
unfolding level
level-size m k h = simp diffs (omega arith)

-- ---- the cost by the height of the sample

pub cost_by_height_lem : (m g : ℕ) (y : ℤ) (k : ℕ) → cost_by_height (axis_height m g y) (pos (2 * g)) k ≡ axis_cost m g y k
unfolding cost_by_height axis_height axis_cost level
cost_by_height_lem m g y k = ap squared (rw (as_diff y) (simp diffs (omega (arith, pow_pos m))))

-- the lowest level, the gain in it
pub lowest_size : {m g : ℕ} {y : ℤ} → AxisInRange m g y → g * (2 ^ m - 1) ≤ max_gain * 63
lowest_size {m} h = mul-le-mul {m₂ = 63} h.gain (omega (arith, pow_mono {j = 6} h.few))

pub height_in_range : {m g : ℕ} {y : ℤ} {k : ℕ} → AxisInRange m g y → k < 2 ^ m → HeightInRange (axis_height m g y) (pos (2 * g)) k
unfolding axis_height
height_in_range {m} {g} {y} h l =
    record {
      high = omega (arith, abs-add y (pos (g * (2 ^ m - 1))), lowest_size h, h.sample);
      wide = omega (arith, h.gain);
      below = omega (arith, pow_mono {j = 6} h.few);
    }
