-- `Demapper::for_symbol` meets its contract: the weight that it finds is that of the symbol. Assumes nothing.
use mathlib.Core.Path.{◌≡◌, ◌∙◌}
use borrow.Author.Rules.{rules}
use lib.ListN.{get_or}
use Rattle.symbol_reading.proofs.Demapper.for_symbol.Goals as goal

pub returns-in-Some-clause-scale : goal.returns-in-Some-clause-scale
returns-in-Some-clause-scale c =
    let own : c.in-Some.weight.now ≡ get_or c.args.weights.now c.args.n c.args.self.rounding.scale.weight = search rules in
    c.weighing.ensures ∙ rw own
