-- What the loop of `feed` keeps: for all that may be pending before the piece, the lines that end in what is taken of it are answered, and what is pending
-- behind them is held. The measure is what is left of the piece. Assumes nothing.
use mathlib.Core.Path.{◌≡◌}
use mathlib.Core.List.{List}
use Prim.Native.Nat.{ℕ, ◌-◌, ◌<◌, ◌≤◌}
use lib.ListN.{length, take}
use Rattle.arithmetic.specs.Lists.{over}
use Rattle.line_stream.specs.declared.Progress.{Progress}
use Rattle.line_cut.specs.Lines.{ended_lines, pending_after}
use Rattle.line_cut.specs.declared.HeldLine.{HeldLine}
use Rattle.line_cut.specs.Cut.{Holds}
use Rattle.line_stream.specs.Stream.{answers_to}
use Rattle.line_stream.specs.Feeding.{max_answer_line}
use Rattle.line_stream.proofs.feed.Given as goal

-- what is taken of a piece is answered
pub record Taken {size : ℕ} (pending piece lent out : List ℕ) (line : HeldLine size) (r : Progress) : Type 0 where
  pub answered : out ≡ over lent 0 (answers_to (ended_lines pending (take r.taken piece)))
  pub counted : r.written ≡ length (answers_to (ended_lines pending (take r.taken piece)))
  pub kept : Holds line (pending_after pending (take r.taken piece))

-- whatever was pending before the piece
pub record Going {size : ℕ} (line₀ : HeldLine size) (piece lent : List ℕ) (line : HeldLine size) (out : List ℕ) (r : Progress) : Type 0 where
  pub inside : r.taken ≤ length piece
  pub room : r.written ≤ length lent
  pub long : length out ≡ length lent
  pub idle : length lent < max_answer_line → (r.taken ≡ 0) × (r.written ≡ 0)
  pub taken : (pending : List ℕ) → Holds line₀ pending → Taken pending piece lent out line r

abbrev pub invariant-loop-progress : goal.invariant-loop-progress
invariant-loop-progress l = Going l.initial.line l.piece l.initial.out l.line l.out l.progress

abbrev pub decreases-loop-progress : goal.decreases-loop-progress
decreases-loop-progress l = length l.piece - l.progress.taken
