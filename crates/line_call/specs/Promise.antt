-- What the line call promises, of what was handed in and out, for every input of its types. Assumes nothing.
use Rattle.std.specs.Prelude.{◌≡◌, ◌≢◌, List, ℕ, length, take, Result}
use Rattle.arithmetic.specs.Lists.{over}
use Rattle.frame.specs.declared.Limits.{Limits}
use Rattle.frame.specs.declared.Fault.{Fault}
use Rattle.line_text.specs.Line.{line_frame}
use Rattle.line_text.specs.Answer.{frame_text}
use Rattle.line_text.specs.LineCall.{line_answer, line_status, line_characters}
use Rattle.line_text.specs.Shown.{TextShows}

-- the line call of a host with these limits: the lent buffer before it and after it, and its answer
pub record LinePromise (limits : Limits) (line lent out : List ℕ) (answer : Result ℕ Fault) : Type 0 where
  -- demand 1: the refusal of the first check that fails, or the number of characters
  pub answered : answer ≡ line_answer limits line (length lent)
  pub refused_keeps : line_status answer ≢ 0 → out ≡ lent
  -- demand 2: the text of the definition, and behind it what was there
  pub served_writes : line_status answer ≡ 0 → out ≡ over lent 0 (frame_text limits (line_frame line))
  -- demand 3, of the text handed out
  pub served_shows : line_status answer ≡ 0 → TextShows limits (line_frame line) (take (line_characters answer) out)
