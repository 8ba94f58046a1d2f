-- `weight_outside` meets its contract: where the list has no weight for the symbol, 1 stands for it. Assumes nothing.
use mathlib.Core.Path.{◌≡◌, ◌∙◌}
use borrow.Author.Rules.{rules}
use lib.ListN.{get_or}
use Rattle.frame_checks.proofs.weight_outside.Goals as goal

pub returns : goal.returns
returns c =
    let own : c.map_or.result ≡ get_or c.args.weights.now c.args.n 1 = search rules in
    c.is_outside.ensures ∙ rw own
