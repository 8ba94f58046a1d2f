-- `weight_verdict` meets its contract: where each symbol has a weight of its own, one in the header gives 18; and else it is in its range. Assumes nothing.
use mathlib.Core.Path.{◌≡◌, refl, sym, ap, ◌∙◌}
use mathlib.Core.Bool.{true, false}
use mathlib.Core.List.{[], ◌∷◌}
use Rattle.std.specs.Prelude.{◌≢◌, Err}
use borrow.Author.Tests.{ne_eqb}
use Rattle.frame.specs.declared.Header.{Header}
use Rattle.frame.specs.declared.Refusal.TheVariants.{HeaderWeight}
use Rattle.demapper.specs.Soft.{max_weight}
use Rattle.frame.specs.Verdicts.{Passed, Failed}
use Rattle.frame.specs.Frame.{is_weighted}
use Rattle.frame.specs.Checks.{outside, verdict_of}
use Rattle.frame.specs.FrameCall.{weight_check, weight_check_by}
use Rattle.header_checks.proofs.weight_verdict.Goals as goal

header_weight_refused : (h : Header) → is_weighted h.kind ≡ true → h.weight ≢ 0 → Failed HeaderWeight 0 ≡ verdict_of (weight_check h ∷ [])
unfolding verdict_of weight_check weight_check_by
header_weight_refused h e n = rw (e, ne_eqb _ _ n) refl

header_weight_kept : (h : Header) → is_weighted h.kind ≡ false → outside 1 max_weight h.weight ≡ false → Passed ≡ verdict_of (weight_check h ∷ [])
unfolding verdict_of weight_check weight_check_by
header_weight_kept h e n = rw e (rw n refl)

pub returns-then-header-ne0 : goal.returns-then-header-ne0
returns-then-header-ne0 c =
    ap Err c.into.ensures ∙ header_weight_refused c.args.header (sym c.is_weighted.ensures ∙ c.if-is_weighted.true) c.if-header-ne0.true

pub returns-else-is_outside : goal.returns-else-is_outside
returns-else-is_outside c =
    header_weight_kept c.args.header (sym c.is_weighted.ensures ∙ c.if-is_weighted.false) (sym c.is_outside.ensures ∙ c.if-is_outside.false)
