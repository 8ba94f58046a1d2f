-- Levels of PAM and of each QAM axis, and their cost (REQUIREMENTS, "Points and labels" and "Cost of a point"). Assumes nothing.
use Rattle.std.specs.Prelude.{ℕ, ◌*◌, ◌-◌, ◌^◌, ℤ, pos, ◌-ℤ◌, ◌*ℤ◌}

-- the level of index k among 2 ^ m: a = 2k − (2^m − 1)
unfoldable pub level : ℕ → ℕ → ℤ
level m k = pos (2 * k) -ℤ pos (2 ^ m - 1)

unfoldable pub squared : ℤ → ℤ
squared z = z *ℤ z

-- the cost of index k on an axis with m bits, for the gain g and the sample y: (y − g·a)²
unfoldable pub axis_cost : ℕ → ℕ → ℤ → ℕ → ℤ
axis_cost m g y k = squared (y -ℤ pos g *ℤ level m k)
