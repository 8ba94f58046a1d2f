-- What the loop of `write_phase` keeps: the coordinates of the symbols passed stand at the start of the two buffers.
use Rattle.arithmetic.proofs.Lists.{Filled}
use Rattle.map_call.specs.SamplesWritten.{phase_point}
use Rattle.map_call.proofs.write_phase.Given as goal

abbrev pub invariant-loop-n : goal.invariant-loop-n
invariant-loop-n l =
    Filled l.initial.yi 0 (λ n. (phase_point l.bits.bytes.now l.m n).u) l.n l.yi
    × Filled l.initial.yq 0 (λ n. (phase_point l.bits.bytes.now l.m n).v) l.n l.yq
