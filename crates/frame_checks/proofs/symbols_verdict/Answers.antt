-- `symbols_verdict` meets its contract: where nothing is outside, every check is kept. Assumes nothing.
use mathlib.Core.Path.{sym, ◌∙◌}
use Rattle.frame_checks.proofs.SymbolChecks.{weight_inside, none_outside}
use Rattle.frame_checks.proofs.symbols_verdict.Goals as goal

pub returns-then-weights_inside : goal.returns-then-weights_inside
returns-then-weights_inside c =
    sym (none_outside _ _ _ _ _ (weight_inside c.args.symbols.weights.now (sym c.weights_inside.ensures ∙ c.if-weights_inside.true)) (sym c.outside_count.ensures ∙ c.if-outside_count-eq0.true))
