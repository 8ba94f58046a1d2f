-- The lines of an input (REQUIREMENTS, "Lines"). The newline isn't part of the line; a last line without one counts if it has a character.
-- Laws: proofs/Cutting. Assumes nothing.
use Rattle.std.specs.Prelude.{cond, List, [], ◌∷◌, ◌++◌, ℕ, eqb}

abbrev pub newline : ℕ
newline = 10

-- the lines that end within an input, and the characters behind the last newline; `pending` are those before the input that no newline has followed
unfoldable pub ended_lines : List ℕ → List ℕ → List (List ℕ)
ended_lines pending [] = []
ended_lines pending (c ∷ cs) = cond (eqb c newline) (pending ∷ ended_lines [] cs) (ended_lines (pending ++ (c ∷ [])) cs)

unfoldable pub pending_after : List ℕ → List ℕ → List ℕ
pending_after pending [] = pending
pending_after pending (c ∷ cs) = cond (eqb c newline) (pending_after [] cs) (pending_after (pending ++ (c ∷ [])) cs)

-- the last line, where it has a character
unfoldable pub last_line : List ℕ → List (List ℕ)
last_line [] = []
last_line (c ∷ cs) = (c ∷ cs) ∷ []

unfoldable pub lines_of : List ℕ → List (List ℕ)
lines_of input = ended_lines [] input ++ last_line (pending_after [] input)

-- the same, of an input that is given piece by piece
unfoldable pub piecewise_lines : List ℕ → List (List ℕ) → List (List ℕ)
piecewise_lines pending [] = last_line pending
piecewise_lines pending (p ∷ ps) = ended_lines pending p ++ piecewise_lines (pending_after pending p) ps
