-- The cost on an axis by the height of the sample above the lowest level, as the code computes it. Nobody has to believe this file to read a promise:
-- proofs/Levels shows that it is the requirements' cost. Assumes nothing.
use Rattle.std.specs.Prelude.{ℕ, ◌+◌, ◌*◌, ◌-◌, ◌^◌, ◌≤◌, ◌<◌, ℤ, pos, nat_abs, ◌+ℤ◌, ◌-ℤ◌, ◌*ℤ◌}
use Rattle.constellation.specs.Ranges.{max_axis_bits, max_gain, max_sample}
use Rattle.constellation.specs.Levels.{squared}

-- y less the lowest level, −(2^m − 1), times the gain
unfoldable pub axis_height : ℕ → ℕ → ℤ → ℤ
axis_height m g y = y +ℤ pos (g * (2 ^ m - 1))

-- level k lies k steps above the lowest
unfoldable pub cost_by_height : ℤ → ℤ → ℕ → ℤ
cost_by_height height step k = squared (height -ℤ step *ℤ pos k)

abbrev pub max_height : ℕ
max_height = max_sample + max_gain * (2 ^ max_axis_bits - 1)

-- what the code asks of them
pub record HeightInRange (height step : ℤ) (k : ℕ) : Type 0 where
  pub high : nat_abs height ≤ max_height
  pub wide : nat_abs step ≤ 2 * max_gain
  pub below : k < 2 ^ max_axis_bits
