-- Worked cases of REQUIREMENTS, "Cellular labels": the labels of 64QAM, lines and their answers, a frame, and messages. Each row has what the definitions give,
-- by which the calls promise, and what the requirements say. The rows are shown equal in proofs/Cellular. Assumes nothing.
use mathlib.Core.List.{List, [], ◌∷◌, ◌++◌, flat_map}
use Rattle.std.specs.Prelude.{ℕ, ℤ, pos}
use Rattle.arithmetic.specs.Lists.{first}
use Rattle.constellation.specs.Parts.{Part, part_label}
use Rattle.constellation.specs.Schemes.{symbol_parts}
use Rattle.frame.specs.Frame.{Frame, modulation_of, hard_bits, soft_values}
use Rattle.frame.specs.Mapping.{Message, message_from, mapped_i, mapped_q}
use Rattle.worked_cases.specs.Cases.{Case, case, naturals, minus, single, probed, line, answer_to}

-- the labels of each axis of 64QAM, from level −7 upward, one after the other
abbrev qam64_labels : List ℤ
qam64_labels = naturals (flat_map (λ (p : Part). flat_map (part_label p) (first (λ k. k) 8)) (symbol_parts (modulation_of 3 3 3) 1 (pos 0) (pos 0)))

abbrev published_labels : List ℕ
published_labels =
    1 ∷ 1 ∷ 1
    ∷ 1 ∷ 1 ∷ 0
    ∷ 1 ∷ 0 ∷ 0
    ∷ 1 ∷ 0 ∷ 1
    ∷ 0 ∷ 0 ∷ 1
    ∷ 0 ∷ 0 ∷ 0
    ∷ 0 ∷ 1 ∷ 0
    ∷ 0 ∷ 1 ∷ 1
    ∷ []

-- 16QAM, w = 1, s = 2, T = 32767, one symbol with g = 5, y_i = 3, y_q = −20
abbrev qam16 : Frame
qam16 = single 3 2 2 4 1 2 32767 5 (pos 3) (minus 20 ∷ [])

-- messages of 16QAM at the gain 5, whose second symbol has three bits of padding, and of 64QAM at the gain 1, with one
abbrev message16 : Message
message16 = message_from 3 2 2 5 (0 ∷ 1 ∷ 1 ∷ 0 ∷ 1 ∷ [])

abbrev message64 : Message
message64 = message_from 3 3 3 1 (1 ∷ 0 ∷ 1 ∷ 0 ∷ 0 ∷ [])

-- the labels of the in-phase axis of 64QAM as words, the quadrature axis's bits being 0
abbrev in_phase_words : List ℕ
in_phase_words =
    1 ∷ 0 ∷ 1 ∷ 0 ∷ 1 ∷ 0
    ∷ 1 ∷ 0 ∷ 1 ∷ 0 ∷ 0 ∷ 0
    ∷ 1 ∷ 0 ∷ 0 ∷ 0 ∷ 0 ∷ 0
    ∷ 1 ∷ 0 ∷ 0 ∷ 0 ∷ 1 ∷ 0
    ∷ 0 ∷ 0 ∷ 0 ∷ 0 ∷ 1 ∷ 0
    ∷ 0 ∷ 0 ∷ 0 ∷ 0 ∷ 0 ∷ 0
    ∷ 0 ∷ 0 ∷ 1 ∷ 0 ∷ 0 ∷ 0
    ∷ 0 ∷ 0 ∷ 1 ∷ 0 ∷ 1 ∷ 0
    ∷ []

unfoldable pub cellular_cases : List Case
cellular_cases =
    case qam64_labels (naturals (published_labels ++ published_labels))
    ∷ case (mapped_i (message_from 3 3 3 1 in_phase_words)) (minus 7 ∷ minus 5 ∷ minus 3 ∷ minus 1 ∷ pos 1 ∷ pos 3 ∷ pos 5 ∷ pos 7 ∷ [])
    ∷ case (soft_values qam16) (pos 15 ∷ minus 150 ∷ pos 35 ∷ minus 50 ∷ [])
    ∷ case (naturals (hard_bits qam16)) (pos 0 ∷ pos 1 ∷ pos 0 ∷ pos 1 ∷ [])
    ∷ case (probed qam16) (pos 2 ∷ pos 1 ∷ pos 3 ∷ pos 0 ∷ pos 2 ∷ pos 1 ∷ [])
    ∷ case (mapped_i message16) (pos 15 ∷ minus 5 ∷ [])
    ∷ case (mapped_q message16) (minus 5 ∷ pos 5 ∷ [])
    ∷ case (mapped_i message64) (minus 5 ∷ [])
    ∷ case (mapped_q message64) (pos 3 ∷ [])
    ∷ []

-- lines: the frame above; of its payload three bits; 64QAM; axes with different bit counts; four bits on each axis; and the first kind number that is none
unfoldable pub cellular_lines : List Case
cellular_lines =
    case (answer_to (line 40 0x03020200040001027FFF000500000003FFFFFFEC)) (naturals (line 22 0x000006000FFF6A0023FFCE))
    ∷ case (answer_to (line 40 0x03020200030001027FFF000500000003FFFFFFEC)) (naturals (line 18 0x000006000FFF6A0023))
    ∷ case (answer_to (line 40 0x0303030006000104007F000A0000002DFFFFFFC4)) (naturals (line 30 0x000008007FFF81FFF3FFCE00260000))
    ∷ case (answer_to (line 40 0x03020300040001027FFF000500000003FFFFFFEC)) (naturals (line 2 0x05))
    ∷ case (answer_to (line 40 0x03040400040001027FFF000500000003FFFFFFEC)) (naturals (line 2 0x05))
    ∷ case (answer_to (line 40 0x04020200040001027FFF000500000003FFFFFFEC)) (naturals (line 2 0x04))
    ∷ []
