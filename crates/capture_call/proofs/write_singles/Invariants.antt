-- What the loop of `write_singles` keeps: the whole numbers of the numbers passed stand at the start of the buffer.
use lib.ListN.{get_or}
use lib.Ieee.{nan}
use Rattle.arithmetic.proofs.Lists.{Filled}
use Rattle.binary32.specs.Conversion.{rounded}
use Rattle.capture_call.proofs.write_singles.Given as goal

abbrev pub invariant-loop-n : goal.invariant-loop-n
invariant-loop-n l = Filled l.initial.yi 0 (λ k. rounded l.scaling.scale (get_or l.numbers k nan)) l.n l.yi
