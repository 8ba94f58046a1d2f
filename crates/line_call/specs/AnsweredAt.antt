-- What answering a line from any position of a buffer leaves. Nobody has to believe this file to read the line call's promise (specs/Promise).
-- Assumes nothing.
use Rattle.std.specs.Prelude.{◌≡◌, ◌≢◌, List, ℕ, ◌-◌, length, Result}
use Rattle.arithmetic.specs.Lists.{over}
use Rattle.frame.specs.declared.Limits.{Limits}
use Rattle.frame.specs.declared.Fault.{Fault}
use Rattle.line_text.specs.Line.{line_frame}
use Rattle.line_text.specs.Answer.{frame_text}
use Rattle.line_text.specs.LineCall.{line_answer, line_status}

-- a line answered from the position `at` of a lent buffer on. Nothing is said of the lists that the symbols are parsed into: they hold anything afterwards,
-- also where the line is refused by a symbol's 10, 7 or 11, which come after the symbols are parsed.
pub record LineAnsweredAt (limits : Limits) (line lent out : List ℕ) (at : ℕ) (answer : Result ℕ Fault) : Type 0 where
  pub answered : answer ≡ line_answer limits line (length lent - at)
  pub refused_keeps : line_status answer ≢ 0 → out ≡ lent
  pub served_writes : line_status answer ≡ 0 → out ≡ over lent at (frame_text limits (line_frame line))
