-- The order in which bits are sent (REQUIREMENTS, "Words" and "Frames"). The labels of a symbol's parts stand one after the other; a symbol's word
-- has their bits in the order sent. Hard bits, soft values, words, places and mapping go through this. Assumes nothing.
use Rattle.std.specs.Prelude.{List, ℕ, ◌+◌, ◌*◌, ◌/◌, ◌%◌, length, get_or}
use Rattle.arithmetic.specs.Lists.{first}
use Rattle.constellation.specs.declared.Modulation.{Modulation}
use Rattle.constellation.specs.Schemes.{bits_per_symbol, sent_place, label_place}

-- place i of a frame whose symbols have b bits each, moved within its own symbol
unfoldable pub in_symbol : ℕ → (ℕ → ℕ) → ℕ → ℕ
in_symbol b place i = i / b * b + place (i % b)

-- place i of the frame's word is place `sent_at q i` of its labels, and their place i is place `label_at q i` of the word
abbrev pub sent_at : Modulation → ℕ → ℕ
sent_at q i = in_symbol (bits_per_symbol q) (sent_place q) i

abbrev pub label_at : Modulation → ℕ → ℕ
label_at q i = in_symbol (bits_per_symbol q) (label_place q) i

-- a list whose entry i is the entry at place `place i` of another
unfoldable pub rearranged : {A : Type 0} → (ℕ → ℕ) → A → List A → List A
rearranged place none l = first (λ i. get_or l (place i) none) (length l)

-- what stands label by label, in the order sent; and a word, label by label
abbrev pub as_sent : {A : Type 0} → Modulation → A → List A → List A
as_sent q none l = rearranged (sent_at q) none l

abbrev pub as_labels : Modulation → List ℕ → List ℕ
as_labels q word = rearranged (label_at q) 0 word
