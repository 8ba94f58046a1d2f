-- What a step of cutting an input into lines holds and hands back. Nobody has to believe this file to read a promise about a whole input. Assumes nothing.
use Rattle.std.specs.Prelude.{◌≡◌, List, [], ◌∷◌, ℕ, ◌<◌, ◌≤◌, length, take, Option, Some, None}
use Rattle.line_cut.specs.declared.Found.{Found}
use Rattle.line_cut.specs.declared.Found.TheVariants.{InPiece, InBuffer, TooLong}
use Rattle.line_cut.specs.declared.Cut.{Cut}
use Rattle.line_cut.specs.declared.Held.{Held}
use Rattle.line_cut.specs.declared.Held.TheVariants.{Within, Beyond}
use Rattle.line_cut.specs.declared.HeldLine.{HeldLine}
use Rattle.line_cut.specs.Lines.{ended_lines, pending_after}

-- what is held is more than there is room for
abbrev pub Overlong : Held → ℕ → Type 0
Overlong (Within n) room = room < n
Overlong Beyond room = Unit

-- what is held of the pending characters: all of them, at the start of the line buffer; or, where they are more than it has room for, that they are.
-- Every value holds some.
pub data HoldsIn (held : Held) (buffer pending : List ℕ) : Type 0 where
  whole : {n : ℕ} → held ≡ Within n → n ≤ length buffer → pending ≡ take n buffer → HoldsIn held buffer pending
  too_long : Overlong held (length buffer) → length buffer < length pending → HoldsIn held buffer pending

-- with an array as the line buffer
abbrev pub Holds : {room : ℕ} → HeldLine room → List ℕ → Type 0
Holds line pending = HoldsIn line.held line.characters pending

-- the lines that a step hands back: none or one, which stands at the start of the piece, or of the line buffer, or is longer than that
abbrev pub HandedBack : List ℕ → List ℕ → Option Found → List (List ℕ) → Type 0
HandedBack piece buffer None lines = lines ≡ []
HandedBack piece buffer (Some (InPiece end)) lines = (end ≤ length piece) × (lines ≡ take end piece ∷ [])
HandedBack piece buffer (Some (InBuffer n)) lines = (n ≤ length buffer) × (lines ≡ take n buffer ∷ [])
HandedBack piece buffer (Some TooLong) lines = (line : List ℕ) × (lines ≡ line ∷ []) × (length buffer < length line)

-- the step goes on in the piece, hands back the line that ends in what it has passed, and holds what is pending behind it
pub record CutFromIn (pending piece : List ℕ) (held : Held) (buffer : List ℕ) (r : Cut) : Type 0 where
  pub further : 0 < r.next
  pub inside : r.next ≤ length piece
  pub lines : HandedBack piece buffer r.found (ended_lines pending (take r.next piece))
  pub kept : HoldsIn held buffer (pending_after pending (take r.next piece))

-- with an array as the line buffer
abbrev pub CutFrom : {room : ℕ} → List ℕ → List ℕ → HeldLine room → Cut → Type 0
CutFrom pending piece line r = CutFromIn pending piece line.held line.characters r
