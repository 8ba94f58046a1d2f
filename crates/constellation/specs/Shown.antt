-- What makes a part one that words, probes and soft values can be trusted with. Crate frame proves demand 3 from this alone, and proofs/Shown
-- proves it of an axis and of a phase. Assumes nothing.
use Rattle.std.specs.Prelude.{◌≡◌, List, [], ◌∷◌, ℕ, ◌<◌, length, get_or, ◌≤ℤ◌}
use Rattle.constellation.specs.Gray.{Label}
use Rattle.constellation.specs.Parts.{Part, part_label}
use Rattle.constellation.specs.Nearest.{IsNearest}

-- the indices of a part whose label bit i is β
pub record IndexWith (p : Part) (i β k : ℕ) : Type 0 where
  pub below : k < p.points
  pub bit : p.bit i k ≡ β

-- the index at position n of those that are probed
abbrev pub probed_at : Part → ℕ → ℕ
probed_at p n = get_or p.probed n 0

-- the probe for β of bit i: a probed index that has the bit, and costs no more than any index of the part that has it
pub record ProbeFor (p : Part) (i β : ℕ) : Type 0 where
  pub position : ℕ
  pub in_list : position < length p.probed
  pub has : IndexWith p i β (probed_at p position)
  pub least : (j : ℕ) → IndexWith p i β j → p.cost (probed_at p position) ≤ℤ p.cost j

pub record Shown (p : Part) : Type 0 where
  -- index and label are inverse
  pub labels : (k : ℕ) → k < p.points → Label p.bits (part_label p k)
  pub indices : (label : List ℕ) → Label p.bits label → p.index label < p.points
  pub index_of_label : (k : ℕ) → k < p.points → p.index (part_label p k) ≡ k
  pub label_of_index : (label : List ℕ) → Label p.bits label → part_label p (p.index label) ≡ label
  -- the nearest index is in range and least
  pub nearest : IsNearest p.points p.cost p.nearest
  -- what is probed is in range, and has the least for each value of each bit
  pub probed : (n : ℕ) → n < length p.probed → probed_at p n < p.points
  pub probes : (i β : ℕ) → i < p.bits → β < 2 → ProbeFor p i β

pub data AllShown : List Part → Type 0 where
  none : AllShown []
  more : {p : Part} {ps : List Part} → Shown p → AllShown ps → AllShown (p ∷ ps)
