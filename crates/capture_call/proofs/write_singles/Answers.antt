-- `write_singles` meets its contract. Assumes nothing.
use native.Mathlib.Omega.{arith}
use Rattle.arithmetic.proofs.Lists.{filled_none}
use Rattle.capture_call.proofs.Filling.{number_more}
use Rattle.capture_call.proofs.write_singles.Goals as goal

pub loop-n-init : goal.loop-n-init
loop-n-init c = filled_none

pub loop-n-preserved : goal.loop-n-preserved
loop-n-preserved c =
    let r = c.round_scaled in
    number_more c.loop-n.invariant (omega arith) (record { sfits = r.type_inv }) r.ensures
