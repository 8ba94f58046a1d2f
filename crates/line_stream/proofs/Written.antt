-- What is written for a line: with room for a longest answer the room does not matter, and the answer is the text with a newline behind it.
-- Assumes nothing.
use Rattle.std.specs.Prelude.{Err}
use mathlib.Core.Path.{◌≡◌, refl, sym, ◌∙◌}
use mathlib.Core.List.{List, [], ◌∷◌, ◌++◌, flat_map, append-nil}
use Prim.Native.Nat.{ℕ, ◌+◌, ◌≤◌}
use native.Mathlib.Nat.{le_refl}
use native.Mathlib.Omega.{arith}
use borrow.Author.Tests.{le-ltb}
use lib.ListN.{length, length-append}
use Rattle.arithmetic.specs.Lists.{over}
use Rattle.frame.specs.Verdicts.{Verdict, Passed}
use Rattle.frame.specs.Limits.{full_limits}
use Rattle.frame.specs.Checks.{Check, verdict_of}
use Rattle.frame.specs.FrameCall.{header_checks}
use Rattle.frame.proofs.Checks.{verdict_front, accepted_append}
use Rattle.line_text.specs.Line.{line_header, line_frame}
use Rattle.line_text.specs.Answer.{frame_text}
use Rattle.line_text.specs.LineCall.{text_checks, size_checks, frame_symbol_checks, line_checks, line_verdict, line_text}
use Rattle.line_cut.specs.Lines.{newline}
use Rattle.line_stream.specs.Stream.{answer_line, answers_to}
use Rattle.line_stream.specs.Feeding.{max_answer_line, Answered}
use Rattle.line_stream.proofs.AnswerLines.{accepted_short, answer_line_short}

-- more room than the text takes makes no difference to the checks
sizes_same : (line : List ℕ) (room : ℕ) → length (frame_text full_limits (line_frame line)) ≤ room
    → size_checks full_limits line room ≡ size_checks full_limits line (length (frame_text full_limits (line_frame line)))
unfolding size_checks
sizes_same line room h = let n = length (frame_text full_limits (line_frame line)) in rw (le-ltb room n h, le-ltb n n (le_refl n))

-- with room for a longest answer the verdict is that with just the room for the answer
pub enough_room : (line : List ℕ) (room : ℕ) → max_answer_line ≤ room
    → line_verdict full_limits line room ≡ line_verdict full_limits line (length (frame_text full_limits (line_frame line)))
unfolding line_verdict line_checks
enough_room line room h = go (verdict_of front) refl
  where
    front : List Check
    front = text_checks full_limits line ++ header_checks full_limits (line_header line)

    go : (v : Verdict) → verdict_of front ≡ v
        → verdict_of (front ++ size_checks full_limits line room ++ frame_symbol_checks (line_frame line))
        ≡ verdict_of (front ++ size_checks full_limits line (length (frame_text full_limits (line_frame line))) ++ frame_symbol_checks (line_frame line))
    go Passed e =
        let passed = ((accepted_append (text_checks full_limits line) _).0 e).1 in
        let fits : length (frame_text full_limits (line_frame line)) ≤ room = omega (arith, accepted_short line passed) in
        rw (sizes_same line room fits)
    go (Err fault) e = verdict_front _ _ (verdict_front front _ e) ∙ sym (verdict_front _ _ (verdict_front front _ e))

-- a text and a newline behind it
pub written : {line lent out : List ℕ} {count : ℕ} (text : List ℕ) → max_answer_line ≤ length lent → line_text full_limits line ≡ text
    → out ≡ over lent 0 (text ++ (newline ∷ [])) → count ≡ length text + 1 → Answered (line ∷ []) lent out count
unfolding answer_line flat_map
written {line} text room is contents end =
    let one : answers_to (line ∷ []) ≡ answer_line line = append-nil (answer_line line) in
    let long : length (answer_line line) ≡ length text + 1 = rw is (simp length-append) in
    record {
      answered = rw (one, is) contents;
      counted = rw (one, long) end;
      room = omega (arith, long, answer_line_short line);
    }
