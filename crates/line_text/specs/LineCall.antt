-- The order of checks for a line, and what the line call answers (REQUIREMENTS, "Lines" and "Refusals"). Assumes nothing.
use Rattle.std.specs.Prelude.{Bool, not, ◌||◌, List, [], ◌∷◌, ◌++◌, ℕ, ◌+◌, ◌*◌, ◌%◌, ltb, eqb, length, Result, Ok, Err}
use Rattle.arithmetic.specs.Lists.{joined}
use Rattle.hexadecimal.specs.Digits.{all_digits}
use Rattle.frame.specs.declared.Fault.{Fault}
use Rattle.frame.specs.declared.Refusal.TheVariants.{LineLength, LineCharacter, LineLengthForHeader, OutputTooShort}
use Rattle.frame.specs.Verdicts.{Verdict, Passed}
use Rattle.frame.specs.declared.Limits.{Limits}
use Rattle.frame.specs.Refusals.{refusal_number}
use Rattle.frame.specs.Frame.{Frame, symbol_count}
use Rattle.frame.specs.Checks.{Check, check, verdict_of, outside}
use Rattle.frame.specs.FrameCall.{header_checks, symbol_checks}
use Rattle.line_text.specs.Line.{header_digits, line_header, line_length, line_frame}
use Rattle.line_text.specs.Answer.{frame_text, text_for}

-- 1: length odd, below 20 or above that of the longest line
unfoldable pub length_refused : Limits → ℕ → Bool
length_refused limits n = eqb (n % 2) 1 || outside header_digits limits.line n

-- 1 and 2
unfoldable pub text_checks : Limits → List ℕ → List Check
text_checks limits line = check (length_refused limits (length line)) LineLength ∷ check (not (all_digits line)) LineCharacter ∷ []

-- 3 and 15
unfoldable pub size_checks : Limits → List ℕ → ℕ → List Check
size_checks limits line room =
    check (not (eqb (length line) (line_length (line_header line)))) LineLengthForHeader
    ∷ check (ltb room (length (frame_text limits (line_frame line)))) OutputTooShort
    ∷ []

-- symbol by symbol 10, 7, 11
unfoldable pub frame_symbol_checks : Frame → List Check
frame_symbol_checks f = joined (symbol_checks f.gains f.weights f.y_i f.y_q) (symbol_count f)

-- the order for a line: 1, 2, those of the header, 3, 15, then the symbols
unfoldable pub line_checks : Limits → List ℕ → ℕ → List Check
line_checks limits line room =
    text_checks limits line ++ header_checks limits (line_header line) ++ size_checks limits line room ++ frame_symbol_checks (line_frame line)

-- with so much room for the answer
unfoldable pub line_verdict : Limits → List ℕ → ℕ → Verdict
line_verdict limits line room = verdict_of (line_checks limits line room)

-- the answer: the refusal with the symbol's number, or the number of characters written
unfoldable pub line_answer_for : Limits → Verdict → List ℕ → Result ℕ Fault
line_answer_for limits Passed line = Ok (length (frame_text limits (line_frame line)))
line_answer_for limits (Err fault) line = Err fault

unfoldable pub line_answer : Limits → List ℕ → ℕ → Result ℕ Fault
line_answer limits line room = line_answer_for limits (line_verdict limits line room) line

-- what each case of an answer stands for: the status, which is the refusal's number, or 0 for none; the symbol's number; and the number of characters
unfoldable pub line_status : Result ℕ Fault → ℕ
line_status (Err fault) = refusal_number fault.refusal
line_status (Ok count) = 0

unfoldable pub line_symbol : Result ℕ Fault → ℕ
line_symbol (Err fault) = fault.symbol
line_symbol (Ok count) = 0

unfoldable pub line_characters : Result ℕ Fault → ℕ
line_characters (Err fault) = 0
line_characters (Ok count) = count

-- the number that stands for an answer: the refusal, 0 for none, plus 256 times the symbol's number
unfoldable pub line_number : Result ℕ Fault → ℕ
unfolding line_status line_symbol
line_number answer = line_status answer + 256 * line_symbol answer

-- the text that answers a line where there is room enough for it, refused lines included
unfoldable pub line_text : Limits → List ℕ → List ℕ
line_text limits line = text_for limits (line_verdict limits line (length (frame_text limits (line_frame line)))) (line_frame line)
