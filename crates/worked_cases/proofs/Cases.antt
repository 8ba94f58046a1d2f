-- Each row of the table of worked cases: what the definitions give is what the requirements say. One computation; and one each for further edges of binary32
-- and of lines.
-- Assumes nothing.
use mathlib.Core.Path.{◌≡◌, refl}
use mathlib.Core.List.{map, flat_map, map-append}
use lib.IntN.{ℤ}
use lib.Ieee.{round, of_bits, to_bits}
use Rattle.arithmetic.specs.Lists.{first, joined, keep}
use Rattle.arithmetic.specs.Least.{min_ℤ, least_cost, first_least}
use Rattle.arithmetic.specs.Tests.{all_below}
use Rattle.arithmetic.specs.Rounding.{halves_away, halves_to_even, half_up, nearest_size, nearest_quotient}
use Rattle.constellation.specs.Gray.{xor, digit, label_bit, gray_label}
use Rattle.constellation.specs.Levels.{level, squared, axis_cost}
use Rattle.constellation.specs.Psk.{psk_halves, psk_quarters, turned, psk_point, phase_cost}
use Rattle.constellation.specs.Parts.{gray_part, axis, phase}
use Rattle.constellation.specs.Schemes.{symbol_parts, bits_per_symbol, quadrature_length, fraction_bits, sent_place, has_quadrature}
use Rattle.constellation.specs.Counter.{axis_counter, phase_counter}
use Rattle.demapper.specs.Probes.{probe_at, part_probes}
use Rattle.demapper.specs.Soft.{indices_with, least_with, cost_difference, held_within, soft_value}
use Rattle.demapper.specs.Reading.{part_soft}
use Rattle.frame.specs.Frame.{is_weighted, plain_kind, modulation_of, symbols_for, header_weights, symbol_count, parts_of_symbol, frame_parts, symbol_weight, softened, symbol_softs, soft_values, probe_list}
use Rattle.frame.specs.Points.{bit_differences}
use Rattle.frame.specs.Sent.{in_symbol, rearranged}
use Rattle.frame.specs.Refusals.{refusal_number}
use Rattle.frame.specs.Checks.{verdict_of, bits_outside, modulation_checks}
use Rattle.frame.specs.FrameCall.{weight_check, weight_check_by, header_checks, symbol_checks}
use Rattle.hexadecimal.specs.Digits.{is_digit, all_digits, digit_value, digit_of, number_at, digits_of}
use Rattle.hexadecimal.specs.TwosComplement.{signed_of, unsigned_of, signed_at, signed_digits}
use Rattle.line_text.specs.Line.{line_header, digits_before, digits_by, gain_at, in_phase_at, quadrature_at, line_length, line_frame}
use Rattle.line_text.specs.Answer.{accepted_text, frame_text, refused_text, text_for}
use Rattle.line_text.specs.LineCall.{length_refused, text_checks, size_checks, frame_symbol_checks, line_checks, line_verdict, line_text}
use Rattle.binary32.specs.Conversion.{signed, numerator, denominator, rounded}
use Rattle.binary32.specs.SoftFloat.{negative, soft_float}
use Rattle.capture.specs.Samples.{coordinate_checks, coordinates, sample_checks, sample_verdict, sample_answer_for, sample_answer, sample_status, sample_values}
use Rattle.worked_cases.specs.Cases.{Case, early_cases, late_cases, cases, edges, line_edges}
use Rattle.worked_cases.proofs.GainZero.{silent_worked}

-- the rows that are closed, each part by one computation
early_worked : map (λ (c : Case). c.computed) early_cases ≡ map (λ (c : Case). c.stated) early_cases
unfolding flat_map first joined keep min_ℤ least_cost first_least halves_away half_up nearest_size nearest_quotient xor digit label_bit gray_label level
    squared axis_cost gray_part axis symbol_parts bits_per_symbol axis_counter probe_at part_probes indices_with least_with cost_difference bit_differences
    held_within soft_value is_weighted plain_kind modulation_of symbols_for symbol_count parts_of_symbol frame_parts fraction_bits softened part_soft
    sent_place in_symbol rearranged symbol_weight symbol_softs soft_values probe_list early_cases
early_worked = refl

late_worked : map (λ (c : Case). c.computed) late_cases ≡ map (λ (c : Case). c.stated) late_cases
unfolding flat_map first joined keep min_ℤ least_cost first_least halves_away halves_to_even half_up nearest_size nearest_quotient xor digit label_bit
    gray_label level squared axis_cost psk_halves psk_quarters turned psk_point phase_cost gray_part axis phase symbol_parts bits_per_symbol axis_counter
    phase_counter probe_at part_probes indices_with least_with cost_difference bit_differences held_within soft_value is_weighted plain_kind modulation_of
    symbols_for symbol_count parts_of_symbol frame_parts fraction_bits softened part_soft sent_place in_symbol rearranged symbol_weight symbol_softs
    soft_values probe_list of_bits refusal_number verdict_of signed numerator denominator rounded coordinate_checks coordinates sample_checks sample_verdict
    sample_answer_for sample_answer sample_status sample_values number_at digit_value is_digit all_digits digit_of digits_of signed_of unsigned_of signed_at
    signed_digits all_below line_header digits_before digits_by header_weights gain_at in_phase_at quadrature_at line_length line_frame accepted_text
    frame_text refused_text text_for length_refused text_checks size_checks frame_symbol_checks line_checks line_verdict line_text bits_outside
    modulation_checks weight_check weight_check_by header_checks symbol_checks has_quadrature quadrature_length late_cases
late_worked = refl

-- the table, whatever the sample of the row that has any
pub worked : (y : ℤ) → map (λ (c : Case). c.computed) (cases y) ≡ map (λ (c : Case). c.stated) (cases y)
unfolding cases
worked y = simp (map-append, early_worked, silent_worked y, late_worked)

pub edges_worked : map (λ (c : Case). c.computed) edges ≡ map (λ (c : Case). c.stated) edges
unfolding flat_map halves_to_even half_up nearest_size nearest_quotient round of_bits to_bits refusal_number verdict_of signed numerator denominator rounded
    negative soft_float coordinate_checks coordinates sample_checks sample_verdict sample_answer_for sample_answer sample_status sample_values edges
edges_worked = refl

pub line-edges_worked : map (λ (c : Case). c.computed) line_edges ≡ map (λ (c : Case). c.stated) line_edges
unfolding flat_map first joined keep min_ℤ least_cost first_least halves_away half_up nearest_size nearest_quotient xor digit label_bit level squared
    axis_cost gray_part axis symbol_parts bits_per_symbol axis_counter probe_at part_probes indices_with least_with cost_difference held_within soft_value
    is_weighted plain_kind modulation_of symbols_for symbol_count parts_of_symbol frame_parts fraction_bits softened part_soft sent_place in_symbol rearranged
    symbol_weight symbol_softs soft_values probe_list refusal_number verdict_of number_at digit_value is_digit all_digits digit_of digits_of signed_of
    unsigned_of signed_at signed_digits all_below line_header digits_before digits_by header_weights gain_at in_phase_at quadrature_at line_length line_frame
    accepted_text frame_text refused_text text_for length_refused text_checks size_checks frame_symbol_checks line_checks line_verdict line_text bits_outside
    modulation_checks weight_check weight_check_by header_checks symbol_checks has_quadrature quadrature_length line_edges
line-edges_worked = refl
