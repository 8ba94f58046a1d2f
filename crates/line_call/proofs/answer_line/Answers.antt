-- `answer_line` meets its contract: it answers from the start of the buffer on, and what the buffer begins with meets demand 3. Assumes nothing.
use Rattle.std.specs.Prelude.{Result, Err}
use mathlib.Core.Path.{◌≡◌, refl, sym, ap, ◌∙◌}
use mathlib.Core.List.{List}
use Prim.Native.Nat.{ℕ}
use native.Mathlib.Nat.{sub-zero}
use lib.ListN.{length, take}
use Rattle.arithmetic.proofs.Lists.{take_over}
use Rattle.frame.specs.Verdicts.{Verdict, Passed}
use Rattle.frame.specs.declared.Limits.{Limits}
use Rattle.frame.proofs.Refusals.{refusal_not-zero}
use Rattle.frame.specs.declared.Fault.{Fault}
use Rattle.line_text.specs.Line.{line_frame}
use Rattle.line_text.specs.Answer.{frame_text}
use Rattle.line_text.specs.LineCall.{line_verdict, line_answer_for, line_answer, line_status, line_characters}
use Rattle.line_text.specs.Shown.{TextShows}
use Rattle.line_text.specs.Within.{Servable}
use Rattle.line_call.specs.Promise.{LinePromise}
use Rattle.line_call.specs.AnsweredAt.{LineAnsweredAt}
use Rattle.line_text.proofs.AnswerText.{full_servable, text_shows}
use Rattle.line_text.proofs.LineChecks.{accepted_header, line_weights_counted}
use Rattle.line_call.proofs.answer_line.Goals as goal

-- a line is served where it passes, and its answer counts the characters of its text
served_passed : (limits : Limits) (v : Verdict) (line : List ℕ) {answer : Result ℕ Fault} → answer ≡ line_answer_for limits v line → line_status answer ≡ 0
    → (v ≡ Passed) × (line_characters answer ≡ length (frame_text limits (line_frame line)))
unfolding line_answer_for line_status line_characters
served_passed limits Passed line e s = (refl, ap line_characters e)
served_passed limits (Err fault) line e s = absurd (refusal_not-zero fault.refusal (sym (ap line_status e) ∙ s))

module _ {limits : Limits} {line lent out : List ℕ} {answer : Result ℕ Fault} (served : Servable limits) (p : LineAnsweredAt limits line lent out 0 answer) where
  answered : answer ≡ line_answer limits line (length lent)
  answered = rw sub-zero at p.answered

  shows : line_status answer ≡ 0 → TextShows limits (line_frame line) (take (line_characters answer) out)
  unfolding line_answer line_frame
  shows e =
      let (passed, long) = served_passed limits (line_verdict limits line (length lent)) line answered e in
      rw (p.served_writes e, long, take_over) (text_shows served (line_frame line) (line_weights_counted line) (accepted_header limits line (length lent) passed))

  from_start : LinePromise limits line lent out answer
  from_start = record { answered = answered; refused_keeps = p.refused_keeps; served_writes = p.served_writes; served_shows = shows }

pub returns : goal.returns
returns c = from_start full_servable (rw c.full_limits.ensures at c.answer_at.ensures)
