-- The sizes that a header calls for are those of every frame with it, and few. Assumes nothing.
use Rattle.std.specs.Prelude.{Result, Err}
use mathlib.Core.Path.{◌≡◌, refl}
use Rattle.frame.specs.declared.Header.{Header}
use Rattle.frame.specs.declared.Limits.{Limits}
use Rattle.frame.specs.declared.Refusal.{Refusal}
use Rattle.frame.specs.Verdicts.{Verdict, Passed}
use Rattle.frame.specs.Frame.{Frame, symbol_count}
use Rattle.frame.specs.Checks.{verdict_of}
use Rattle.frame.specs.FrameCall.{header_checks}
use Rattle.frame.proofs.Parts.{probe_count}
use Rattle.frame.proofs.Refusals.{refusal_not-zero}
use Rattle.line_text.proofs.AnswerText.{frame_text_length}
use Rattle.line_text.proofs.LineChecks.{header_accepted}
use Rattle.line_text.proofs.PrintedLine.{length_printed}
use Rattle.sizes.specs.declared.Sizes.{Sizes}
use Rattle.sizes.specs.Sizes.{header_probes, answer_length, sized, sizes_for, sizes_answer, sizes_status, sizes_values}
use Rattle.sizes.specs.Promise.{lengths_of, SizesPromise}

module _ (limits : Limits) (h : Header) where
  -- a header that passes: its sizes are the lengths of each of its frames
  passed_fits : verdict_of (header_checks limits h) ≡ Passed → (f : Frame) → f.header ≡ h → sizes_values (sizes_for Passed limits h) ≡ lengths_of limits f
  unfolding sizes_values sizes_for sized lengths_of header_probes answer_length symbol_count
  passed_fits passed f e =
      let accepted = header_accepted limits f.header (rw e passed) in
      rw (probe_count f, length_printed f, frame_text_length limits f accepted.bits_ok, e) refl

  -- by the verdict of the header
  verdict_fits : (v : Verdict) → verdict_of (header_checks limits h) ≡ v → sizes_status (sizes_for v limits h) ≡ 0 → (f : Frame) → f.header ≡ h
      → sizes_values (sizes_for v limits h) ≡ lengths_of limits f
  unfolding sizes_for sizes_status
  verdict_fits Passed passed served = passed_fits passed
  verdict_fits (Err fault) failed served = absurd (refusal_not-zero fault.refusal served)

  -- so the answer is as promised
  pub sizes_promised : {answer : Result Sizes Refusal} → answer ≡ sizes_answer limits h → SizesPromise limits h answer
  unfolding sizes_answer
  sizes_promised e = record { answered = e; served_fits = λ served f same. rw e (verdict_fits _ refl (rw e at served) f same) }
