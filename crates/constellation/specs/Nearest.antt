-- A nearest index (REQUIREMENTS, "Cost of a point"). Assumes nothing.
use Rattle.std.specs.Prelude.{ℕ, ◌<◌, ℤ, ◌≤ℤ◌}

-- k is a nearest index among so many points: none costs less. This has no rule for ties, and lemmas 2 and 3 of 001 need none.
pub record IsNearest (points : ℕ) (cost : ℕ → ℤ) (k : ℕ) : Type 0 where
  pub below : k < points
  pub least : (j : ℕ) → j < points → cost k ≤ℤ cost j
