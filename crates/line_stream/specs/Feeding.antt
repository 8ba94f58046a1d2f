-- What a step of answering a stream promises. Assumes nothing.
use Rattle.std.specs.Prelude.{◌≡◌, List, ℕ, ◌+◌, ◌*◌, ◌<◌, ◌≤◌, length, take}
use Rattle.arithmetic.specs.Lists.{over}
use Rattle.constellation.specs.Ranges.{max_symbol_bits}
use Rattle.frame.specs.Limits.{full_limits}
use Rattle.line_text.specs.Answer.{softs_at}
use Rattle.line_cut.specs.Lines.{ended_lines, pending_after, last_line}
use Rattle.line_cut.specs.declared.HeldLine.{HeldLine}
use Rattle.line_cut.specs.Cut.{Holds}
use Rattle.line_stream.specs.declared.Progress.{Progress}
use Rattle.line_stream.specs.Stream.{answers_to}

-- the longest answer line: what comes before the soft values, those of the longest frame, and a newline; 12,295 characters
abbrev pub max_answer_line : ℕ
max_answer_line = softs_at + max_symbol_bits * full_limits.symbols * full_limits.digits + 1

-- lines are answered, one behind the other: the buffer for answers before and after, and how many characters were written
pub record Answered (lines : List (List ℕ)) (lent out : List ℕ) (written : ℕ) : Type 0 where
  pub answered : out ≡ over lent 0 (answers_to lines)
  pub counted : written ≡ length (answers_to lines)
  pub room : written ≤ length lent

-- a piece of input, or its beginning, is answered: the buffer for answers before and after, what is held after, and what is said of the progress
pub record Fed {size : ℕ} (pending piece lent out : List ℕ) (line : HeldLine size) (r : Progress) : Type 0 where
  pub inside : r.taken ≤ length piece
  -- the answers to all lines that end within what is taken, and behind them what was there
  pub answered : out ≡ over lent 0 (answers_to (ended_lines pending (take r.taken piece)))
  pub counted : r.written ≡ length (answers_to (ended_lines pending (take r.taken piece)))
  pub room : r.written ≤ length lent
  pub kept : Holds line (pending_after pending (take r.taken piece))
  -- a part of the piece is left only where the buffer has no room for a longest answer any more
  pub stopped : r.taken < length piece → length lent < r.written + max_answer_line
  -- where it never has room for one, nothing is taken
  pub idle : length lent < max_answer_line → (r.taken ≡ 0) × (r.written ≡ 0)

-- the last line is answered, where it has a character
abbrev pub Finished : List ℕ → List ℕ → List ℕ → ℕ → Type 0
Finished pending lent out written = Answered (last_line pending) lent out written
