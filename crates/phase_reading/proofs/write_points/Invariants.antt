-- What the loop of `write_points` keeps, and what it has left to do.
use Prim.Native.Nat.{ℕ}
use lib.IntN.{ℤ}
use Rattle.constellation.specs.Parts.{phase}
use Rattle.constellation.specs.Counter.{phase_counter}
use Rattle.demapper.specs.Reading.{buffers}
use Rattle.demapper.specs.Rounding.{scale_of}
use Rattle.phase_reading.specs.PhaseProbes.{PhaseProbes}
use Rattle.part_reading.proofs.PartReading.{ReadUpTo}
use Rattle.phase_reading.proofs.write_points.Given as goal

abbrev pub invariant-loop-i : goal.invariant-loop-i
invariant-loop-i l =
    let lent = buffers l.initial.hard l.initial.soft l.initial.indices l.initial.costs in
    let now = buffers l.hard l.soft l.indices l.costs in
    (g : ℕ) (y_i y_q : ℤ) → PhaseProbes l.bits g y_i y_q l.k l.cost
    → ReadUpTo (phase l.bits g y_i y_q) (phase_counter l.bits) (scale_of l.rounding) l.at 1 l.start lent now l.i
