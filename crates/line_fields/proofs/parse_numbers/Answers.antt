-- `parse_numbers` meets its contract: each field lies inside the line, and the loop is the definition's list. Assumes nothing.
use mathlib.Core.Path.{refl}
use native.Mathlib.Omega.{arith}
use Rattle.arithmetic.proofs.Lists.{filled_none, filled_more}
use Rattle.line_fields.proofs.Filling.{filled_whole}
use Rattle.line_fields.proofs.parse_numbers.Goals as goal

pub returns : goal.returns
returns c = filled_whole c.loop-n.invariant (omega arith)

pub loop-n-init : goal.loop-n-init
loop-n-init c = filled_none

pub loop-n-preserved : goal.loop-n-preserved
loop-n-preserved c = filled_more c.loop-n.invariant c.loop-n.n (omega arith) refl (omega arith) c.number.ensures.value
