-- What the frame call answers and leaves in the four lent buffers (REQUIREMENTS, "Frames" and "Refusals"; demands 1 and 2).
-- Assumes nothing.
use Rattle.std.specs.Prelude.{Bool, true, false, not, ◌||◌, List, [], ◌∷◌, ◌++◌, ℕ, ltb, eqb, ℤ, pos, nat_abs, length, get_or, Result, Ok, Err}
use Rattle.arithmetic.specs.Lists.{joined, over}
use Rattle.constellation.specs.Ranges.{max_gain, max_sample}
use Rattle.constellation.specs.Schemes.{quadrature_length}
use Rattle.demapper.specs.Probes.{probe_indices, probe_costs}
use Rattle.demapper.specs.Soft.{max_weight, max_shift}
use Rattle.demapper.specs.Reading.{Buffers}
use Rattle.frame.specs.declared.Header.{Header}
use Rattle.frame.specs.declared.Fault.{Fault}
use Rattle.frame.specs.declared.Refusal.TheVariants.{Weight, Shift, Limit, InputLength, OutputTooShort, Gain, Sample, HeaderWeight}
use Rattle.frame.specs.declared.Room.{Room}
use Rattle.frame.specs.declared.Served.{Served}
use Rattle.frame.specs.Verdicts.{Verdict, Passed}
use Rattle.frame.specs.declared.Limits.{Limits}
use Rattle.frame.specs.Frame.{Frame, is_weighted, plain_kind, modulation, symbol_count, header_weights, hard_bits, soft_values, probe_list}
use Rattle.frame.specs.Checks.{Check, check, check_at, verdict_of, outside, modulation_checks}

-- the room of lent buffers
abbrev pub room_in : Buffers → Room
room_in lent = record { hard = length lent.hard; soft = length lent.soft; indices = length lent.indices; costs = length lent.costs }

abbrev pub sample_outside : ℤ → Bool
sample_outside y = ltb max_sample (nat_abs y)

-- 10, 7 and 11 of symbol n; where the list of weights has no entry n, 1 stands for it, and where y_q has none, 0: neither is refused then
unfoldable pub symbol_checks : (gains weights : List ℕ) → (y_i y_q : List ℤ) → ℕ → List Check
symbol_checks gains weights y_i y_q n =
    check_at n (ltb max_gain (get_or gains n 0)) Gain
    ∷ check_at n (outside 1 max_weight (get_or weights n 1)) Weight
    ∷ check_at n (sample_outside (get_or y_i n (pos 0)) || sample_outside (get_or y_q n (pos 0))) Sample
    ∷ []

-- 16: not one gain and one y_i for each symbol, or not as many weights as the kind has, or y_q not as many as the modulation has
unfoldable pub input_lengths_differ : Frame → Bool
input_lengths_differ f =
    not (eqb (length f.gains) (symbol_count f))
    || not (eqb (length f.weights) (header_weights f.header))
    || not (eqb (length f.y_i) (symbol_count f))
    || not (eqb (length f.y_q) (quadrature_length (modulation f) (symbol_count f)))

-- 15: a lent buffer with fewer entries than the list for it
unfoldable pub outputs_too_short : Frame → Room → Bool
outputs_too_short f room =
    ltb room.hard f.header.payload
    || ltb room.soft f.header.payload
    || ltb room.indices (length (probe_list f))
    || ltb room.costs (length (probe_list f))

-- 18 where each symbol has a weight of its own: the header's is not 0; and else 7 in its place: the header's is one for all, and out of its range
unfoldable pub weight_check_by : Bool → ℕ → Check
weight_check_by true w = check (not (eqb w 0)) HeaderWeight
weight_check_by false w = check (outside 1 max_weight w) Weight

unfoldable pub weight_check : Header → Check
weight_check h = weight_check_by (is_weighted h.kind) h.weight

-- 4 to 6, of the kind less 80 hexadecimal where that is added, 7 or 18, 8 and 9
unfoldable pub header_checks : Limits → Header → List Check
header_checks limits h =
    modulation_checks limits (plain_kind h.kind) h.bits_i h.bits_q h.payload
    ++ (weight_check h
    ∷ check (ltb max_shift h.shift) Shift
    ∷ check (outside 1 limits.soft h.limit) Limit
    ∷ [])

-- 16, 15, then symbol by symbol 10, 7, 11
unfoldable pub input_checks : Frame → Room → List Check
input_checks f room =
    check (input_lengths_differ f) InputLength
    ∷ check (outputs_too_short f room) OutputTooShort
    ∷ joined (symbol_checks f.gains f.weights f.y_i f.y_q) (symbol_count f)

-- the order for a frame
unfoldable pub frame_checks : Limits → Frame → Room → List Check
frame_checks limits f room = header_checks limits f.header ++ input_checks f room

unfoldable pub frame_verdict : Limits → Frame → Buffers → Verdict
frame_verdict limits f lent = verdict_of (frame_checks limits f (room_in lent))

-- the answer: the refusal with the symbol's number, or the number of probes
unfoldable pub answer_for : Verdict → Frame → Result Served Fault
answer_for Passed f = Ok (record { probes = length (probe_list f) })
answer_for (Err fault) f = Err fault

unfoldable pub frame_answer : Limits → Frame → Buffers → Result Served Fault
frame_answer limits f lent = answer_for (frame_verdict limits f lent) f

-- the lists handed out for an accepted frame
unfoldable pub handed_out : Frame → Buffers
handed_out f =
    record {
      hard = hard_bits f;
      soft = soft_values f;
      indices = probe_indices (probe_list f);
      costs = probe_costs (probe_list f);
    }

-- the buffers after the call: as lent where the frame is refused, else with those lists written over their starts
unfoldable pub buffers_for : Verdict → Frame → Buffers → Buffers
buffers_for Passed f lent =
    record {
      hard = over lent.hard 0 (handed_out f).hard;
      soft = over lent.soft 0 (handed_out f).soft;
      indices = over lent.indices 0 (handed_out f).indices;
      costs = over lent.costs 0 (handed_out f).costs;
    }
buffers_for (Err fault) f lent = lent

unfoldable pub buffers_after : Limits → Frame → Buffers → Buffers
buffers_after limits f lent = buffers_for (frame_verdict limits f lent) f lent
