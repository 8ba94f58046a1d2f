-- `convert_sample` meets its contract: F decides first, and then the coordinates. Assumes nothing.
use mathlib.Core.Path.{◌≡◌, ◌∙◌}
use Prim.Native.Nat.{ℕ, ◌≤◌, ◌<◌}
use borrow.Author.Tests.{lt-ltb, le-ltb}
use lib.Dec.{ltb}
use lib.IntN.{ℤ, pos}
use lib.Ieee.{Float}
use lib.ListN.{get_or}
use Rattle.std.specs.Prelude.{Result, Err}
use Rattle.frame.specs.declared.Refusal.{Refusal}
use Rattle.frame.specs.declared.Refusal.TheVariants.{Scale}
use Rattle.frame.specs.Verdicts.{Verdict, Passed}
use Rattle.frame.specs.Checks.{check, verdict_of}
use Rattle.frame.proofs.Checks.{verdict_broken, verdict_kept}
use Rattle.frame.proofs.Refusals.{refusal_not-zero}
use Rattle.binary32.specs.Conversion.{max_scale}
use Rattle.binary32.proofs.Rounding.{rounded_rounds}
use Rattle.capture.specs.declared.Sample.{Sample}
use Rattle.capture.specs.declared.Sample.TheVariants.{Single, Pair}
use Rattle.capture.specs.Samples.{sample_checks, sample_verdict, sample_answer_for, sample_answer}
use Rattle.capture.specs.Samples.{sample_status, sample_values, SampleRounds, SamplePromise}
use Rattle.capture.proofs.convert_sample.Goals as goal

served : (F : ℕ) (s : Sample Float) (v : Verdict)
    → (let values = sample_values (sample_answer_for v F s) in
    sample_status (sample_answer_for v F s) ≡ 0 → SampleRounds F s (get_or values 0 (pos 0)) (get_or values 1 (pos 0)))
unfolding sample_answer_for sample_status sample_values SampleRounds
served F (Single x) Passed h = rounded_rounds F x
served F (Pair p) Passed h = (rounded_rounds F p.in_phase, rounded_rounds F p.quadrature)
served F s (Err fault) h = absurd (refusal_not-zero fault.refusal h)

promised : (F : ℕ) (s : Sample Float) {answer : Result (Sample ℤ) Refusal} → answer ≡ sample_answer F s → SamplePromise F s answer
unfolding sample_answer
promised F s e = record { answered = e; served_rounds = rw e (served F s (sample_verdict F s)) }

scale_refused : (F : ℕ) (s : Sample Float) → max_scale < F → Err Scale ≡ sample_answer F s
unfolding sample_answer sample_verdict sample_answer_for
scale_refused F s h = rw (verdict_broken (check (ltb max_scale F) Scale) (sample_checks F 0 s) (lt-ltb max_scale F h))

coordinates_answer : (F : ℕ) (s : Sample Float) → F ≤ max_scale → sample_answer_for (verdict_of (sample_checks F 0 s)) F s ≡ sample_answer F s
unfolding sample_answer sample_verdict
coordinates_answer F s h = rw (verdict_kept (check (ltb max_scale F) Scale) (sample_checks F 0 s) (le-ltb max_scale F h))

-- by a scaling's scale, and a shape of the sample
answer_promised : {F G : ℕ} {s t : Sample Float} {answer : Result (Sample ℤ) Refusal} → F ≤ max_scale → G ≡ F → s ≡ t
    → answer ≡ sample_answer_for (verdict_of (sample_checks G 0 t)) G t → SamplePromise F s answer
answer_promised {F} {s} h scale shape e = promised F s (rw (scale, ← shape) at e ∙ coordinates_answer F s h)

pub returns-then-scale-gt-MAX_SCALE : goal.returns-then-scale-gt-MAX_SCALE
returns-then-scale-gt-MAX_SCALE c = promised _ _ (scale_refused _ _ c.if-scale-gt-MAX_SCALE.true)

pub returns-in-Single : goal.returns-in-Single
returns-in-Single c = answer_promised c.if-scale-gt-MAX_SCALE.false c.scaling_of-scaling.ensures c.in-Single.is c.convert_single.ensures

pub returns-in-Pair : goal.returns-in-Pair
returns-in-Pair c = answer_promised c.if-scale-gt-MAX_SCALE.false c.scaling_of-scaling.ensures c.in-Pair.is c.convert_pair.ensures
