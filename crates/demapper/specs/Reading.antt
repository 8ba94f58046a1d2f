-- What reading one part leaves in the four lent buffers (REQUIREMENTS, "Frames"). Assumes nothing.
use Rattle.std.specs.Prelude.{◌≡◌, List, ℕ, suc, ◌+◌, ◌*◌, ◌≤◌, ◌<◌, ℤ, length}
use Rattle.arithmetic.specs.Lists.{first, over, spread}
use Rattle.constellation.specs.Parts.{Part}
use Rattle.demapper.specs.Probes.{part_probes, probe_indices, probe_costs}
use Rattle.demapper.specs.Soft.{Scale, cost_difference, soft_value}

-- what the four lent buffers hold
pub record Buffers : Type 0 where
  pub hard : List ℕ
  pub soft : List ℤ
  pub indices : List ℕ
  pub costs : List ℤ

abbrev pub buffers : List ℕ → List ℤ → List ℕ → List ℤ → Buffers
buffers h s i c = record { hard = h; soft = s; indices = i; costs = c }

-- the soft value of bit i of a part, and those of all its bits
abbrev pub bit_soft : Scale → Part → ℕ → ℤ
bit_soft scale p i = soft_value scale.weight scale.shift scale.limit (cost_difference p i)

unfoldable pub part_soft : Scale → Part → List ℤ
part_soft scale p = first (bit_soft scale p) p.bits

-- room for the bits of a part with m bits at the positions `at`, `at` + `apart` and so on, and for its probes from the position `start` on
pub record PartFits (m at apart start : ℕ) (lent : Buffers) : Type 0 where
  pub hard : (i : ℕ) → i < m → at + i * apart < length lent.hard
  pub soft : (i : ℕ) → i < m → at + i * apart < length lent.soft
  pub indices : start + suc m ≤ length lent.indices
  pub costs : start + suc m ≤ length lent.costs

-- the part's hard bits and soft values are written there, and its probes
pub record PartRead (p : Part) (scale : Scale) (at apart start : ℕ) (lent out : Buffers) : Type 0 where
  pub hard : out.hard ≡ spread lent.hard at apart (λ i. p.bit i p.nearest) p.bits
  pub soft : out.soft ≡ spread lent.soft at apart (bit_soft scale p) p.bits
  pub indices : out.indices ≡ over lent.indices start (probe_indices (part_probes p))
  pub costs : out.costs ≡ over lent.costs start (probe_costs (part_probes p))
