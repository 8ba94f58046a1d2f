-- The answers to the lines of an input (REQUIREMENTS, "Lines"). A line of any length is answered by the definition, one longer than 6,164 digits by 01 like every
-- other that is refused by its length. Laws: proofs/Pieces and proofs/Printed. Assumes nothing.
use mathlib.Core.List.{List, [], ◌∷◌, ◌++◌, flat_map}
use Rattle.std.specs.Prelude.{ℕ}
use Rattle.frame.specs.Limits.{full_limits}
use Rattle.line_text.specs.LineCall.{line_text}
use Rattle.line_cut.specs.Lines.{newline, lines_of, piecewise_lines}

-- an answer line for each line
unfoldable pub answer_line : List ℕ → List ℕ
answer_line line = line_text full_limits line ++ (newline ∷ [])

abbrev pub answers_to : List (List ℕ) → List ℕ
answers_to lines = flat_map answer_line lines

-- the whole output for a whole input
unfoldable pub stream_answers : List ℕ → List ℕ
stream_answers input = answers_to (lines_of input)

-- the same, given piece by piece
unfoldable pub piecewise_answers : List ℕ → List (List ℕ) → List ℕ
piecewise_answers pending pieces = answers_to (piecewise_lines pending pieces)
