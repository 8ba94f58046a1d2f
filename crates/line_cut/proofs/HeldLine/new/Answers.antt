-- `new` meets its contract: no character is held. Assumes nothing.
use mathlib.Core.Path.{refl}
use Rattle.line_cut.proofs.Pending.{nothing_held}
use Rattle.line_cut.proofs.HeldLine.new.Goals as goal

pub returns-clause-held : goal.returns-clause-held
returns-clause-held g c = nothing_held refl
