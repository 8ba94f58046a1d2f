-- What the loop of `write_axis` keeps: the samples of the symbols passed stand at the start of the buffer.
use Rattle.arithmetic.proofs.Lists.{Filled}
use Rattle.map_call.specs.SamplesWritten.{axis_sample}
use Rattle.map_call.proofs.write_axis.Given as goal

abbrev pub invariant-loop-n : goal.invariant-loop-n
invariant-loop-n l = Filled l.initial.out 0 (axis_sample l.message l.label) l.n l.out
