-- Where a line that was found has to lie to be answered. Nobody has to believe this file to read what a step promises (specs/Feeding). Assumes nothing.
use Rattle.std.specs.Prelude.{List, ℕ, ◌≤◌, length, Option, Some, None}
use Rattle.line_cut.specs.declared.Found.{Found}
use Rattle.line_cut.specs.declared.Found.TheVariants.{InPiece, InBuffer, TooLong}

-- inside the piece, or the line buffer
abbrev pub FoundInside : List ℕ → List ℕ → Option Found → Type 0
FoundInside piece buffer None = 0 ≤ 0
FoundInside piece buffer (Some (InPiece end)) = end ≤ length piece
FoundInside piece buffer (Some (InBuffer n)) = n ≤ length buffer
FoundInside piece buffer (Some TooLong) = 0 ≤ 0
