-- `write_points` meets its contract. The loop's invariant: the bits before bit i are read, of any phase with these probes. Assumes nothing.
use Prim.Native.Nat.{◌+◌}
use native.Mathlib.Omega.{arith}
use lib.IntN.{pos}
use lib.ListN.{get_or}
use Rattle.constellation.specs.Counter.{phase_counter}
use Rattle.constellation.specs.Parts.{gray_part, phase}
use Rattle.part_reading.proofs.PartReading.{nearest-below, nearest-fits, counter_fits, Turn, turn_bit_below, turn_difference, read_none, read_more, read_all}
use Rattle.phase_reading.proofs.PhaseReading.{probes_found, probes_turn}
use Rattle.phase_reading.proofs.write_points.Goals as goal
use Rattle.phase_reading.proofs.write_points.Goals.{After-label_bit-bit}

pub loop-i-init : goal.loop-i-init
loop-i-init c = λ g y_i y_q h. read_none

-- the nearest index is one of the phase
pub label_bit-bit-requires : goal.label_bit-bit-requires
unfolding phase gray_part
label_bit-bit-requires c =
    let h = c.requires.0.3 in
    record {
      few = omega (arith, h.in_range.few);
      below = nearest-below (probes_found h).in_range (probes_found h).index;
      in_label = omega arith;
    }

-- what a turn writes
pub loop-i-preserved : goal.loop-i-preserved
unfolding phase gray_part
loop-i-preserved c =
    let l = c.loop-i in
    λ g y_i y_q h.
    read_more
    c.requires.1
    (omega arith)
    (probes_turn h l.i (omega arith) c.label_bit-bit.ensures)
    (record { sfits = c.soft_value.type_inv })
    c.soft_value.ensures
    (l.invariant g y_i y_q h)

-- and no operation on the way fails: at bit i, in some phase with these probes
some_turn : (c : After-label_bit-bit) → let a = c.args in let i = c.loop-i.i in let h = c.requires.0 in
    Turn (phase a.bits h.0 h.1 h.2) (phase_counter a.bits) i (get_or a.k 0 0) (get_or a.k (i + 1) 0) c.label_bit-bit.result (get_or a.cost 0 (pos 0)) (get_or a.cost (i + 1) (pos 0))
some_turn c = probes_turn c.requires.0.3 c.loop-i.i (omega arith) c.label_bit-bit.ensures

pub overflow_cast-hard : goal.overflow_cast-hard
overflow_cast-hard c = omega (arith, turn_bit_below (some_turn (goal.at.overflow_cast-hard c).After-label_bit-bit))

pub overflow_sub-other : goal.overflow_sub-other
overflow_sub-other c = (turn_difference (some_turn (goal.at.overflow_sub-other c).After-label_bit-bit)).fits

pub overflow_cast-other : goal.overflow_cast-other
overflow_cast-other c =
    let d = turn_difference (some_turn (goal.at.overflow_cast-other c).After-label_bit-bit) in
    (d.positive, omega (arith, d.small))

pub soft_value-requires : goal.soft_value-requires
soft_value-requires c =
    let t = some_turn (goal.at.soft_value-requires c).After-label_bit-bit in
    ((turn_difference t).small, turn_bit_below t)

pub overflow_cast-indices : goal.overflow_cast-indices
overflow_cast-indices c =
    let t = some_turn (goal.at.overflow_cast-indices c).After-label_bit-bit in
    counter_fits t.found t.in_label t.other_is

pub overflow_cast-indices-2 : goal.overflow_cast-indices-2
overflow_cast-indices-2 c = nearest-fits (probes_found c.requires.0.3)

pub returns-clause-read : goal.returns-clause-read
unfolding phase gray_part
returns-clause-read c = λ g y_i y_q h. read_all c.requires.1 (probes_found h) (omega arith) (c.loop-i.invariant g y_i y_q h)
