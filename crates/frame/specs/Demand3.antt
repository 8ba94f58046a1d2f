-- Demand 3 as one claim about a whole frame and what is handed out for it. Assumes nothing.
use Rattle.std.specs.Prelude.{◌≡◌, false, cond, List, [], ◌∷◌, map, ℕ, ◌+◌, ◌*◌, ◌-◌, ◌/◌, ◌≤◌, ◌<◌, ltb, ℤ, pos, ◌-ℤ◌, ◌*ℤ◌, length, get_or, take, ◌≤ℤ◌}
use Rattle.arithmetic.specs.Least.{Least}
use Rattle.arithmetic.specs.Lists.{joined}
use Rattle.constellation.specs.Parts.{Part}
use Rattle.demapper.specs.Probes.{probe_indices, probe_costs}
use Rattle.demapper.specs.Reading.{Buffers}
use Rattle.frame.specs.Frame.{Frame, is_weighted, modulation, symbol_count, parts_of_symbol, frame_parts, nearest_word, symbol_weight, softened, probe_list}
use Rattle.constellation.specs.Schemes.{bits_per_symbol, probes_per_symbol}
use Rattle.frame.specs.Sent.{sent_at, as_labels}
use Rattle.frame.specs.Words.{WordPart, word_part, CandidateWord, CandidateWith, word_cost}

-- where place i of the parts' labels stands: the bit as its part's labels have it, by the index, and where the part's probes begin and end
pub record Place : Type 0 where
  pub bit_of : ℕ → ℕ
  pub probes_from : ℕ
  pub probes_to : ℕ

unfoldable pub place_of : List Part → ℕ → Place
place_of [] i = record { bit_of = λ k. 0; probes_from = 0; probes_to = 0 }
place_of (p ∷ ps) i =
    let later = place_of ps (i - p.bits) in
    let probes = length p.probed in
    cond (ltb i p.bits)
    (record { bit_of = p.bit i; probes_from = 0; probes_to = probes })
    (record { bit_of = later.bit_of; probes_from = probes + later.probes_from; probes_to = probes + later.probes_to })

-- position n of a list of probe indices belongs to the place's part (a symbol, for QAM an axis), and its label has the place's bit β
pub record ProbeWith (place : Place) (indices : List ℕ) (β n : ℕ) : Type 0 where
  pub from : place.probes_from ≤ n
  pub to : n < place.probes_to
  pub label : place.bit_of (get_or indices n 0) ≡ β

-- the parts of the frame's words, where the cost of symbol n is multiplied by `weight n`
unfoldable pub frame_places : (ℕ → ℕ) → Frame → List WordPart
frame_places weight f = joined (λ n. map (word_part (weight n)) (parts_of_symbol f n)) (symbol_count f)

-- the cost of a word, whose bits stand in the order sent: the sum of its symbols' costs, each multiplied by its weight
abbrev pub sent_cost : (ℕ → ℕ) → Frame → List ℕ → ℤ
sent_cost weight f word = word_cost (frame_places weight f) (as_labels (modulation f) word)

-- where bit i of the frame's word stands
abbrev pub bit_place : Frame → ℕ → Place
bit_place f i = place_of (frame_parts f) (sent_at (modulation f) i)

-- the symbol of bit i
abbrev pub symbol_of_bit : Frame → ℕ → ℕ
symbol_of_bit f i = i / bits_per_symbol (modulation f)

-- what demand 3 says of payload bit i, where the cost of symbol n is multiplied by `weight n` in the sums, and differences of sums by w
pub record BitShown (weight : ℕ → ℕ) (w : ℕ) (f : Frame) (out : Buffers) (i : ℕ) : Type 0 where
  -- the least costs of the candidate words with the bit 1, and with it 0
  pub one : ℤ
  pub zero : ℤ
  pub one_least : Least (CandidateWith (frame_places weight f) i 1) (sent_cost weight f) one
  pub zero_least : Least (CandidateWith (frame_places weight f) i 0) (sent_cost weight f) zero
  -- the soft value handed out is made from their difference
  pub soft : get_or out.soft i (pos 0) ≡ softened f w (one -ℤ zero)
  -- the costs of the bit's probe for 1 and of its probe for 0 in the list handed back have that difference too, multiplied by the weight of their symbol
  pub probe_one : ℤ
  pub probe_zero : ℤ
  pub probe_for_one : Least (ProbeWith (bit_place f i) out.indices 1) (λ n. get_or out.costs n (pos 0)) probe_one
  pub probe_for_zero : Least (ProbeWith (bit_place f i) out.indices 0) (λ n. get_or out.costs n (pos 0)) probe_zero
  pub same_difference : pos (weight (symbol_of_bit f i)) *ℤ (probe_one -ℤ probe_zero) ≡ one -ℤ zero

-- the claim, of the lists handed out and the count in the answer
pub record CostsShown (weight : ℕ → ℕ) (w : ℕ) (f : Frame) (out : Buffers) (count : ℕ) : Type 0 where
  -- the hard bits are the payload part of the word of the nearest points, which is a candidate word and which none beats
  pub hard : out.hard ≡ take f.header.payload (nearest_word f)
  pub nearest_is_candidate : CandidateWord (frame_places weight f) (nearest_word f)
  pub none_beats : (word : List ℕ) → CandidateWord (frame_places weight f) word → sent_cost weight f (nearest_word f) ≤ℤ sent_cost weight f word
  -- each payload bit has a soft value, and is shown
  pub soft_length : length out.soft ≡ f.header.payload
  pub each_bit : (i : ℕ) → i < f.header.payload → BitShown weight w f out i
  -- the list handed back is the probe list entry by entry, and the count is its length: so many probes for each symbol
  pub indices : out.indices ≡ probe_indices (probe_list f)
  pub costs : out.costs ≡ probe_costs (probe_list f)
  pub count_is_length : count ≡ length out.indices
  pub count_by_symbols : count ≡ symbol_count f * probes_per_symbol (modulation f)

-- each symbol counts once
abbrev pub once : ℕ → ℕ
once n = 1

-- demand 3
pub record Demand3 (f : Frame) (out : Buffers) (count : ℕ) : Type 0 where
  -- of sums of weighted costs, with the weights of the symbols, which are all the same in a plain frame; rounding and limit follow
  pub weighted : CostsShown (symbol_weight f) 1 f out count
  -- and, of a plain frame, of sums of the costs alone; the weight, rounding and limit follow
  pub plain : is_weighted f.header.kind ≡ false → CostsShown once f.header.weight f out count
