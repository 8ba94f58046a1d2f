-- What is probed of a phase, in two lists. Nobody has to believe this file to read a promise: it only says what the functions that read a phase hand
-- to each other. Assumes nothing.
use Rattle.std.specs.Prelude.{◌≡◌, List, ℕ, suc, ◌≤◌, ℤ, pos, take, get_or}
use Rattle.constellation.specs.Ranges.{PhaseInRange}
use Rattle.constellation.specs.Parts.{phase}

-- the lists begin with the indices that are probed of a phase received at the gain g as (y_i, y_q), and with their costs
pub record PhaseProbes (m g : ℕ) (y_i y_q : ℤ) (indices : List ℕ) (costs : List ℤ) : Type 0 where
  pub in_range : PhaseInRange m g y_i y_q
  pub probed : take (suc m) indices ≡ (phase m g y_i y_q).probed
  pub cost : (n : ℕ) → n ≤ m → get_or costs n (pos 0) ≡ (phase m g y_i y_q).cost (get_or (phase m g y_i y_q).probed n 0)

-- of some such phase
abbrev pub SomePhaseProbes : ℕ → List ℕ → List ℤ → Type 0
SomePhaseProbes m indices costs = (g : ℕ) × (y_i : ℤ) × (y_q : ℤ) × PhaseProbes m g y_i y_q indices costs
