-- `convert_single` meets its contract: the sample of what the number converts to. Assumes nothing.
use mathlib.Core.Path.{◌≡◌, ap, ◌∙◌}
use lib.IntN.{ℤ}
use Rattle.std.specs.Prelude.{Result, Ok, Err, MatchResult, IsOkAnd}
use Rattle.frame.specs.declared.Refusal.{Refusal}
use Rattle.capture.specs.declared.Sample.{Sample}
use Rattle.capture.specs.declared.Sample.TheVariants.{Single}
use Rattle.capture.proofs.Checking.{single_answer, single_answer_lem}
use Rattle.capture.proofs.convert_single.Goals as goal

mapped : (v : Result ℤ Refusal) {w : Result (Sample ℤ) Refusal}
    → MatchResult v (λ x. IsOkAnd w (λ s. s ≡ Single x)) (λ r. w ≡ Err r) → w ≡ single_answer v
mapped (Err r) e = e
mapped (Ok x) {w = Ok s} e = ap Ok e
mapped (Ok x) {w = Err r} e = elim e [ ]

pub returns : goal.returns
returns c = mapped _ c.map.ensures.cases ∙ single_answer_lem _ _ c.convert_number.ensures
