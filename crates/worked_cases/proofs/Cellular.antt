-- Each row of the worked cases of cellular labels: what the definitions give is what the requirements say. One computation each for frames and messages, and for
-- lines. Assumes nothing.
use mathlib.Core.Path.{◌≡◌, refl}
use mathlib.Core.List.{map, flat_map}
use Rattle.arithmetic.specs.Lists.{first, joined, keep}
use Rattle.arithmetic.specs.Least.{min_ℤ, least_cost, first_least}
use Rattle.arithmetic.specs.Tests.{all_below}
use Rattle.arithmetic.specs.Rounding.{halves_away, half_up, nearest_size, nearest_quotient}
use Rattle.constellation.specs.Gray.{xor, complement, digit, label_bit, index_from, index_of_label}
use Rattle.constellation.specs.Levels.{level, squared, axis_cost}
use Rattle.constellation.specs.Parts.{complemented, part_label, part_hard, gray_part, axis}
use Rattle.constellation.specs.Schemes.{by_columns, symbol_parts, bits_per_symbol, quadrature_length, fraction_bits, sent_place, label_place, has_quadrature, sample_i, sample_q}
use Rattle.constellation.specs.Counter.{axis_counter}
use Rattle.demapper.specs.Probes.{probe_at, part_probes}
use Rattle.demapper.specs.Soft.{indices_with, least_with, cost_difference, held_within, soft_value}
use Rattle.demapper.specs.Reading.{part_soft}
use Rattle.frame.specs.Frame.{is_weighted, plain_kind, modulation_of, symbols_for, header_weights, symbol_count, parts_of_symbol, frame_parts, nearest_labels, nearest_word, hard_bits, symbol_weight, symbol_softs, soft_values, probe_list}
use Rattle.frame.specs.Sent.{in_symbol, rearranged}
use Rattle.frame.specs.Mapping.{message_symbols, symbol_label, mapped_i, mapped_q}
use Rattle.frame.specs.Refusals.{refusal_number}
use Rattle.frame.specs.Checks.{verdict_of, bits_outside, modulation_checks}
use Rattle.frame.specs.FrameCall.{weight_check, weight_check_by, header_checks, symbol_checks}
use Rattle.hexadecimal.specs.Digits.{is_digit, all_digits, digit_value, digit_of, number_at, digits_of}
use Rattle.hexadecimal.specs.TwosComplement.{signed_of, unsigned_of, signed_at, signed_digits}
use Rattle.line_text.specs.Line.{line_header, digits_before, digits_by, gain_at, in_phase_at, quadrature_at, line_length, line_frame}
use Rattle.line_text.specs.Answer.{accepted_text, frame_text, refused_text, text_for}
use Rattle.line_text.specs.LineCall.{length_refused, text_checks, size_checks, frame_symbol_checks, line_checks, line_verdict, line_text}
use Rattle.worked_cases.specs.Cases.{Case}
use Rattle.worked_cases.specs.Cellular.{cellular_cases, cellular_lines}

pub cellular_worked : map (λ (c : Case). c.computed) cellular_cases ≡ map (λ (c : Case). c.stated) cellular_cases
unfolding flat_map first joined keep min_ℤ least_cost first_least halves_away half_up nearest_size nearest_quotient xor complement digit label_bit index_from
    index_of_label level squared axis_cost complemented part_label part_hard gray_part axis by_columns symbol_parts bits_per_symbol quadrature_length
    fraction_bits sent_place label_place has_quadrature sample_i sample_q axis_counter probe_at part_probes indices_with least_with cost_difference
    held_within soft_value part_soft is_weighted plain_kind modulation_of symbols_for symbol_count parts_of_symbol frame_parts nearest_labels nearest_word
    hard_bits symbol_weight symbol_softs soft_values probe_list in_symbol rearranged message_symbols symbol_label mapped_i mapped_q cellular_cases
cellular_worked = refl

pub cellular_lines_worked : map (λ (c : Case). c.computed) cellular_lines ≡ map (λ (c : Case). c.stated) cellular_lines
unfolding flat_map first joined keep min_ℤ least_cost first_least halves_away half_up nearest_size nearest_quotient xor digit label_bit level squared
    axis_cost complemented gray_part axis by_columns symbol_parts bits_per_symbol quadrature_length fraction_bits sent_place has_quadrature axis_counter
    probe_at part_probes indices_with least_with cost_difference held_within soft_value part_soft is_weighted plain_kind modulation_of symbols_for
    symbol_count parts_of_symbol frame_parts symbol_weight symbol_softs soft_values probe_list in_symbol rearranged refusal_number verdict_of bits_outside
    modulation_checks weight_check weight_check_by header_checks symbol_checks number_at digit_value is_digit all_digits digit_of digits_of signed_of unsigned_of signed_at
    signed_digits all_below line_header digits_before digits_by header_weights gain_at in_phase_at quadrature_at line_length line_frame accepted_text
    frame_text refused_text text_for length_refused text_checks size_checks frame_symbol_checks line_checks line_verdict line_text cellular_lines
cellular_lines_worked = refl
