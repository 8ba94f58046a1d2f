-- `write_line` meets its contract: the text of a refusal, or that of the answer which stands there already, and a newline behind it.
-- Assumes nothing.
use Rattle.std.specs.Prelude.{Result, Ok, Err}
use mathlib.Core.Path.{◌≡◌, refl, sym, ap, ◌∙◌}
use mathlib.Core.List.{List, [], ◌∷◌, ◌++◌}
use Prim.Native.Nat.{ℕ, ◌+◌, ◌-◌, ◌≤◌, ◌<◌}
use native.Mathlib.Nat.{zero-add}
use native.Mathlib.Omega.{arith}
use lib.ListN.{length, set, length-append}
use Rattle.arithmetic.specs.Lists.{over}
use Rattle.arithmetic.proofs.Lists.{over_step}
use Rattle.frame.specs.Verdicts.{Verdict, Passed}
use Rattle.frame.specs.declared.Limits.{Limits}
use Rattle.frame.specs.Limits.{full_limits}
use Rattle.frame.specs.declared.Fault.{Fault}
use Rattle.line_text.specs.Line.{line_frame}
use Rattle.line_text.specs.Answer.{frame_text, refused_text, text_for}
use Rattle.line_text.specs.LineCall.{line_answer_for, line_answer, line_status, line_verdict, line_text}
use Rattle.frame.proofs.Refusals.{refusal_not-zero}
use Rattle.line_call.specs.AnsweredAt.{LineAnsweredAt}
use Rattle.line_cut.specs.Lines.{newline}
use Rattle.line_stream.specs.Stream.{answer_line}
use Rattle.line_stream.specs.Feeding.{max_answer_line, Answered}
use Rattle.line_stream.proofs.AnswerLines.{refused_short, answer_line_short}
use Rattle.line_stream.proofs.Written.{enough_room, written}
use Rattle.line_stream.proofs.write_line.Goals as goal

-- the text that an answer stands for
refused_text_lem : (line : List ℕ) (v : Verdict) {fault : Fault} → line_answer_for full_limits v line ≡ Err fault → text_for full_limits v (line_frame line) ≡ refused_text fault.refusal
unfolding line_answer_for text_for
refused_text_lem line Passed e = absurd (let z : ◌≡◌ {A = ℕ} 0 1 = cc in omega arith)
refused_text_lem line (Err first) {fault} e = let same : first ≡ fault = cc in ap (λ (f : Fault). refused_text f.refusal) same

served_text : (line : List ℕ) (v : Verdict) {n : ℕ} → line_answer_for full_limits v line ≡ Ok n
    → (text_for full_limits v (line_frame line) ≡ frame_text full_limits (line_frame line)) × (n ≡ length (frame_text full_limits (line_frame line)))
unfolding line_answer_for text_for
served_text line Passed e = (refl, cc)
served_text line (Err fault) e = absurd (let z : ◌≡◌ {A = ℕ} 0 1 = cc in omega arith)

in_full : {limits : Limits} {line lent out : List ℕ} {answer : Result ℕ Fault} → limits ≡ full_limits → LineAnsweredAt limits line lent out 0 answer
    → LineAnsweredAt full_limits line lent out 0 answer
in_full e a = rw (← e) a

-- where a longest answer has room
module _ {line lent mid : List ℕ} {answer : Result ℕ Fault} (room : max_answer_line ≤ length lent) (a : LineAnsweredAt full_limits line lent mid 0 answer) where
  by_room : answer ≡ line_answer_for full_limits (line_verdict full_limits line (length (frame_text full_limits (line_frame line)))) line
  unfolding line_answer
  by_room = a.answered ∙ ap (λ (v : Verdict). line_answer_for full_limits v line) (enough_room line (length lent - 0) (omega arith))

  refused : {fault : Fault} → answer ≡ Err fault → line_text full_limits line ≡ refused_text fault.refusal
  unfolding line_text
  refused e = refused_text_lem line _ (sym by_room ∙ e)

  served : {n : ℕ} → answer ≡ Ok n → (line_text full_limits line ≡ frame_text full_limits (line_frame line)) × (n ≡ length (frame_text full_limits (line_frame line)))
  unfolding line_text
  served e = served_text line _ (sym by_room ∙ e)

  served_short : {n : ℕ} → answer ≡ Ok n → n < max_answer_line
  unfolding answer_line
  served_short {n} e =
      let (text, count) = served e in
      let all : length (answer_line line) ≡ n + 1 = rw (text, count) (simp length-append) in
      omega (arith, all, answer_line_short line)

  refused_written : {out : List ℕ} {count : ℕ} {fault : Fault} → answer ≡ Err fault → out ≡ over mid 0 (refused_text fault.refusal ++ (newline ∷ []))
      → count ≡ 3 → Answered (line ∷ []) lent out count
  unfolding line_status
  refused_written {fault = fault} e contents end =
      written (refused_text fault.refusal) room (refused e) (rw (a.refused_keeps (λ s. refusal_not-zero fault.refusal (sym (ap line_status e) ∙ s))) at contents) (rw refused_short (omega arith))

  served_written : {n : ℕ} → answer ≡ Ok n → Answered (line ∷ []) lent (set mid n newline) (n + 1)
  unfolding line_status
  served_written {n} e =
      let (text, count) = served e in
      let s = frame_text full_limits (line_frame line) in
      let fits : 0 + length s < length lent = omega (arith, served_short e, count) in
      let set_behind : set (over lent 0 s) (length s) newline ≡ over lent 0 (s ++ (newline ∷ [])) = sym (rw zero-add at (over_step lent 0 s newline fits)) in
      written s room text (rw (a.served_writes (ap line_status e), count) set_behind) (rw count refl)

pub bounds-out-length : goal.bounds-out-length
bounds-out-length c =
    omega (arith, c.requires, c.answer_at.auto.answer, served_short c.requires (in_full c.full_limits.ensures c.in-Ok.ensures) refl)

pub overflow_add-result : goal.overflow_add-result
overflow_add-result c = omega (arith, served_short c.requires (in_full c.full_limits.ensures c.in-Ok.ensures) refl)

pub returns-in-Err : goal.returns-in-Err
returns-in-Err c =
    refused_written c.requires (in_full c.full_limits.ensures c.in-Err.ensures) refl c.write_refusal.ensures.text c.write_refusal.ensures.count

pub returns-in-Ok : goal.returns-in-Ok
returns-in-Ok c = served_written c.requires (in_full c.full_limits.ensures c.in-Ok.ensures) refl
