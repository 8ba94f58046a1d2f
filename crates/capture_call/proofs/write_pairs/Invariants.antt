-- What the loop of `write_pairs` keeps: the whole numbers of the pairs passed stand at the start of the two buffers.
use Prim.Native.Nat.{◌+◌, ◌*◌}
use lib.ListN.{get_or}
use lib.Ieee.{nan}
use Rattle.arithmetic.proofs.Lists.{Filled}
use Rattle.binary32.specs.Conversion.{rounded}
use Rattle.capture_call.proofs.write_pairs.Given as goal

abbrev pub invariant-loop-n : goal.invariant-loop-n
invariant-loop-n l =
    Filled l.initial.yi 0 (λ k. rounded l.scaling.scale (get_or l.numbers (k * 2) nan)) l.n l.yi
    × Filled l.initial.yq 0 (λ k. rounded l.scaling.scale (get_or l.numbers (k * 2 + 1) nan)) l.n l.yq
