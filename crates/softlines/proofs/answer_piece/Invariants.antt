-- What the loop of `answer_piece` keeps: the part taken lies inside the piece, the buffer for answers keeps its length, and what is pending behind the part
-- is held. What it has left to do is what is left of the piece.
use Rattle.std.proofs.Common.{◌-◌, ◌≡◌, List, ℕ, ◌≤◌, length, take}
use Rattle.line_cut.specs.Lines.{pending_after}
use Rattle.line_cut.specs.Cut.{Holds}
use Rattle.softlines.proofs.answer_piece.Given as goal

abbrev pub invariant-loop-taken : goal.invariant-loop-taken
invariant-loop-taken g l =
    (l.taken ≤ length l.piece) × (length l.out ≡ length l.initial.out)
    × ((pending : List ℕ) → Holds l.initial.line pending → Holds l.line (pending_after pending (take l.taken l.piece)))

abbrev pub decreases-loop-taken : goal.decreases-loop-taken
decreases-loop-taken g l = length l.piece - l.taken
