-- What the verdict of a line makes of the call's answer and of the lent buffer. Assumes nothing.
use Rattle.std.specs.Prelude.{Ok, Err}
use mathlib.Core.Path.{◌≡◌, refl, ap}
use mathlib.Core.List.{List}
use Prim.Native.Nat.{ℕ, ◌-◌}
use lib.ListN.{length}
use Rattle.arithmetic.specs.Lists.{over}
use Rattle.frame.specs.declared.Refusal.{Refusal}
use Rattle.frame.specs.Verdicts.{Passed, Failed}
use Rattle.frame.specs.declared.Limits.{Limits}
use Rattle.frame.proofs.Refusals.{refusal_not-zero}
use Rattle.line_text.specs.Line.{line_frame}
use Rattle.line_text.specs.Answer.{frame_text}
use Rattle.line_text.specs.LineCall.{line_verdict, line_answer_for, line_answer, line_status}
use Rattle.line_call.specs.AnsweredAt.{LineAnsweredAt}

-- a refused line leaves the buffer as it is
pub refused_at : {limits : Limits} {line lent : List ℕ} {at : ℕ} {r : Refusal} {n : ℕ} → line_verdict limits line (length lent - at) ≡ Failed r n
    → LineAnsweredAt limits line lent lent at (Err (record { refusal = r; symbol = n }))
unfolding line_answer line_answer_for line_status
refused_at {r} e = record { answered = rw e; refused_keeps = λ d. refl; served_writes = λ d. absurd (refusal_not-zero r d) }

-- of an accepted line the text is written
pub answered_at : {limits : Limits} {line lent out : List ℕ} {at n : ℕ} → line_verdict limits line (length lent - at) ≡ Passed
    → n ≡ length (frame_text limits (line_frame line)) → out ≡ over lent at (frame_text limits (line_frame line)) → LineAnsweredAt limits line lent out at (Ok n)
unfolding line_answer line_answer_for line_status
answered_at e long w = record { answered = rw e (ap Ok long); refused_keeps = λ d. absurd (d refl); served_writes = λ d. w }
