-- The worked case of 8-PAM at gain 0 with any sample, which has no closed computation: the soft values are 0 and the probes 0, 4, 2 and 1.
-- Assumes nothing.
use mathlib.Core.Path.{◌≡◌}
use mathlib.Core.List.{map, flat_map}
use Prim.Native.Nat.{ℕ, ◌<◌}
use lib.Dec.{lit<}
use lib.IntN.{ℤ, pos}
use Rattle.arithmetic.specs.Lists.{first, joined}
use Rattle.constellation.specs.Gray.{digit}
use Rattle.constellation.specs.Counter.{axis_counter}
use Rattle.constellation.specs.Parts.{gray_part, axis}
use Rattle.constellation.specs.Schemes.{symbol_parts, bits_per_symbol, fraction_bits, sent_place}
use Rattle.constellation.proofs.Shown.{axis_shown}
use Rattle.demapper.specs.Probes.{probe_at, part_probes}
use Rattle.demapper.specs.Soft.{cost_difference, soft_value}
use Rattle.demapper.specs.Reading.{part_soft}
use Rattle.demapper.proofs.GainZero.{axis_costs_equal, axis_at_gain_zero, soft_at_equal_costs}
use Rattle.frame.specs.Sent.{in_symbol, rearranged}
use Rattle.frame.specs.Frame.{is_weighted, plain_kind, modulation_of, symbols_for, symbol_count, parts_of_symbol, frame_parts, symbol_weight, symbol_softs, soft_values, probe_list}
use Rattle.worked_cases.specs.Cases.{Case, silent_cases}

gain_zero_soft : (y : ℤ) (w shift T i : ℕ) → i < 3 → soft_value w shift T (cost_difference (axis 3 0 y) i) ≡ pos 0
unfolding axis gray_part
gain_zero_soft y w shift T i h = soft_at_equal_costs (axis_shown 3 0 y) (axis_costs_equal 3 y) i h w shift T

pub silent_worked : (y : ℤ) → map (λ (c : Case). c.computed) (silent_cases y) ≡ map (λ (c : Case). c.stated) (silent_cases y)
unfolding silent_cases symbol_weight symbol_softs soft_values probe_list frame_parts symbol_count symbols_for is_weighted plain_kind modulation_of
    parts_of_symbol symbol_parts bits_per_symbol fraction_bits sent_place in_symbol rearranged part_soft part_probes probe_at axis gray_part axis_counter
    digit flat_map first joined
silent_worked y =
    rw (gain_zero_soft y 1 3 127 0 (lit< tt), gain_zero_soft y 1 3 127 1 (lit< tt), gain_zero_soft y 1 3 127 2 (lit< tt), axis_at_gain_zero 3 y)
