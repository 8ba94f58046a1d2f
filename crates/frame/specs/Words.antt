-- Candidate words of a frame and their cost (REQUIREMENTS, "Words": rival words; demand 3).
-- A word is cut into parts, each with any number of places and any cost on its bits; that a part of a symbol is such is `word_part`.
-- Assumes nothing.
use Rattle.std.specs.Prelude.{◌≡◌, List, [], ◌∷◌, ℕ, ◌+◌, ℤ, pos, ◌+ℤ◌, ◌*ℤ◌, get_or, take, drop}
use Rattle.constellation.specs.Gray.{Label}
use Rattle.constellation.specs.Parts.{Part}

pub record WordPart : Type 0 where
  pub places : ℕ
  pub cost_of : List ℕ → ℤ

-- a part of a symbol with the weight w: its label's places, and the cost of the point with that label, multiplied by the weight
unfoldable pub word_part : ℕ → Part → WordPart
word_part w p = record { places = p.bits; cost_of = λ label. pos w *ℤ p.cost (p.index label) }

unfoldable pub word_length : List WordPart → ℕ
word_length [] = 0
word_length (p ∷ ps) = p.places + word_length ps

-- a candidate word: any bits, padding included, that fill all symbols
abbrev pub CandidateWord : List WordPart → List ℕ → Type 0
CandidateWord ps word = Label (word_length ps) word

-- one whose bit i is β
pub record CandidateWith (ps : List WordPart) (i β : ℕ) (word : List ℕ) : Type 0 where
  pub candidate : CandidateWord ps word
  pub given : get_or word i 0 ≡ β

-- the cost of a word that stands label by label: the sum of its parts' costs
unfoldable pub word_cost : List WordPart → List ℕ → ℤ
word_cost [] word = pos 0
word_cost (p ∷ ps) word = p.cost_of (take p.places word) +ℤ word_cost ps (drop p.places word)
