-- A frame and what it stands for (REQUIREMENTS, "Frames", "Words", "Probes" and "Soft values"). Assumes nothing.
use mathlib.Core.List.{List, flat_map}
use Rattle.std.specs.Prelude.{Bool, cond, ℕ, zero, suc, ◌+◌, ◌*◌, ◌-◌, ◌/◌, leb, ℤ, pos, get_or, take}
use Rattle.arithmetic.specs.Lists.{joined}
use Rattle.constellation.specs.declared.Modulation.{Modulation}
use Rattle.constellation.specs.declared.Modulation.TheVariants.{Pam, Qam, Psk, Cellular}
use Rattle.constellation.specs.Parts.{Part, part_hard}
use Rattle.constellation.specs.Schemes.{symbol_parts, bits_per_symbol, fraction_bits}
use Rattle.demapper.specs.Probes.{Probe, part_probes}
use Rattle.demapper.specs.Soft.{Scale, soft_value}
use Rattle.demapper.specs.Reading.{part_soft}
use Rattle.frame.specs.declared.Header.{Header}
use Rattle.frame.specs.declared.Signal.{Signal}
use Rattle.frame.specs.Sent.{as_sent}

-- a frame as it is handed in. In one that is accepted the list of weights has one for each symbol, and is empty for plain kinds.
pub record Frame : Type 0 where
  pub header : Header
  pub gains : List ℕ
  pub weights : List ℕ
  pub y_i : List ℤ
  pub y_q : List ℤ

abbrev pub header_from : ℕ → ℕ → ℕ → ℕ → ℕ → ℕ → ℕ → Header
header_from k i q p w s t = record { kind = k; bits_i = i; bits_q = q; payload = p; weight = w; shift = s; limit = t }

abbrev pub frame_from : Header → List ℕ → List ℕ → List ℤ → List ℤ → Frame
frame_from h g w i q = record { header = h; gains = g; weights = w; y_i = i; y_q = q }

abbrev pub frame_of : Header → Signal → Frame
frame_of h s = frame_from h s.gains.now s.weights.now s.yi.now s.yq.now

-- a kind number with 80 hexadecimal added says that each symbol has a weight of its own; the kind less 80 says the modulation
abbrev pub weighted_kinds : ℕ
weighted_kinds = 128

unfoldable pub is_weighted : ℕ → Bool
is_weighted kind = leb weighted_kinds kind

unfoldable pub plain_kind : ℕ → ℕ
plain_kind kind = cond (is_weighted kind) (kind - weighted_kinds) kind

-- the modulation of a kind number: 0 PAM, 1 QAM, 2 PSK, 3 cellular labels (kinds above 3 are refused, and so is 3 where m_q is not m_i)
unfoldable pub modulation_of : ℕ → ℕ → ℕ → Modulation
modulation_of zero m_i m_q = Pam m_i
modulation_of (suc zero) m_i m_q = Qam m_i m_q
modulation_of (suc (suc zero)) m_i m_q = Psk m_i
modulation_of (suc (suc (suc n))) m_i m_q = Cellular m_i

abbrev pub header_modulation : Header → Modulation
header_modulation h = modulation_of (plain_kind h.kind) h.bits_i h.bits_q

abbrev pub modulation : Frame → Modulation
modulation f = header_modulation f.header

-- the symbols that are just enough for a payload, with b bits each
unfoldable pub symbols_for : ℕ → ℕ → ℕ
symbols_for b payload = (payload + (b - 1)) / b

abbrev pub header_symbols : Header → ℕ
header_symbols h = symbols_for (bits_per_symbol (header_modulation h)) h.payload

-- how many weights a header's symbols have: one each, or none
unfoldable pub header_weights : Header → ℕ
header_weights h = cond (is_weighted h.kind) (header_symbols h) 0

unfoldable pub symbol_count : Frame → ℕ
symbol_count f = header_symbols f.header

-- the parts of symbol n
unfoldable pub parts_of_symbol : Frame → ℕ → List Part
parts_of_symbol f n = symbol_parts (modulation f) (get_or f.gains n 0) (get_or f.y_i n (pos 0)) (get_or f.y_q n (pos 0))

-- the parts of the frame's symbols
unfoldable pub frame_parts : Frame → List Part
frame_parts f = joined (parts_of_symbol f) (symbol_count f)

-- the labels of the nearest indices, one after the other, padding included
unfoldable pub nearest_labels : List Part → List ℕ
nearest_labels parts = flat_map part_hard parts

-- the word of the nearest points
unfoldable pub nearest_word : Frame → List ℕ
nearest_word f = as_sent (modulation f) 0 (nearest_labels (frame_parts f))

-- the weight of symbol n: its own from the list of weights, and where that has none, as for plain kinds, the header's, which is one for all
unfoldable pub symbol_weight : Frame → ℕ → ℕ
symbol_weight f n = get_or f.weights n f.header.weight

-- shift s + e and limit T of a frame, with a weight
abbrev pub frame_scale : Frame → ℕ → Scale
frame_scale f w = record { weight = w; shift = f.header.shift + fraction_bits (modulation f); limit = f.header.limit }

-- what the frame makes of a difference, multiplied by a weight
unfoldable pub softened : Frame → ℕ → ℤ → ℤ
softened f w N = soft_value w (frame_scale f w).shift (frame_scale f w).limit N

-- the soft values of symbol n, label by label, padding included: differences of its costs, multiplied by its weight
unfoldable pub symbol_softs : Frame → ℕ → List ℤ
symbol_softs f n = flat_map (part_soft (frame_scale f (symbol_weight f n))) (parts_of_symbol f n)

-- what is handed out: the payload's hard bits and soft values, padding dropped, and the probes of every part
unfoldable pub hard_bits : Frame → List ℕ
hard_bits f = take f.header.payload (nearest_word f)

unfoldable pub soft_values : Frame → List ℤ
soft_values f = take f.header.payload (as_sent (modulation f) (pos 0) (joined (symbol_softs f) (symbol_count f)))

unfoldable pub probe_list : Frame → List Probe
probe_list f = flat_map part_probes (frame_parts f)
