-- What cutting, feeding and finishing say of the counts alone, whatever is pending: by it a loop stays inside its buffers and ends. Assumes nothing.
use mathlib.Core.Path.{◌≡◌}
use mathlib.Core.List.{List, flat_map}
use Prim.Native.Nat.{ℕ, ◌<◌, ◌≤◌}
use native.Mathlib.Decide.{dec_le}
use native.Mathlib.Omega.{arith}
use lib.ListN.{length, length-append}
use Rattle.arithmetic.specs.Lists.{over}
use Rattle.line_stream.specs.declared.Progress.{Progress}
use Rattle.line_cut.specs.Lines.{ended_lines, last_line}
use Rattle.line_stream.specs.Stream.{answers_to}
use Rattle.line_stream.specs.Feeding.{max_answer_line, Answered, Fed, Finished}
use Rattle.line_stream.specs.FoundInside.{FoundInside}
use Rattle.line_stream.proofs.AnswerLines.{handed_inside}
use Rattle.line_cut.specs.declared.Held.{Held}
use Rattle.line_cut.specs.declared.HeldLine.{HeldLine}
use Rattle.line_cut.specs.declared.Cut.{Cut}
use Rattle.line_cut.specs.Cut.{HoldsIn, Holds, HandedBack, CutFromIn}
use Rattle.line_cut.proofs.Pending.{some_held_in, some_held}

-- a step of cutting stays inside its piece, and what is written for the line that it hands back inside its buffer
module _ {held next : Held} {before buffer piece : List ℕ} {cut : Cut}
    (cuts : (pending : List ℕ) → HoldsIn held before pending → CutFromIn pending piece next buffer cut) where
  some_cut : (pending : List ℕ) × CutFromIn pending piece next buffer cut
  some_cut =
      let (pending, holds) = some_held_in held before in
      (pending, cuts pending holds)

  pub cut_further : 0 < cut.next
  cut_further = some_cut.1.further

  pub cut_inside : cut.next ≤ length piece
  cut_inside = some_cut.1.inside

  pub cut_found : FoundInside piece buffer cut.found
  cut_found = handed_inside piece buffer cut.found _ some_cut.1.lines

  pub count_inside : {lent out : List ℕ} {count : ℕ}
      → ((lines : List (List ℕ)) → HandedBack piece buffer cut.found lines → Answered lines lent out count) → count ≤ length lent
  count_inside writes = (writes _ some_cut.1.lines).room

-- no more is taken than there is, no more is written than there is room for, and something is taken where a longest answer has room
pub record Advanced (piece lent : List ℕ) (r : Progress) : Type 0 where
  pub inside : r.taken ≤ length piece
  pub room : r.written ≤ length lent
  pub further : max_answer_line ≤ length lent → 0 < length piece → 0 < r.taken

module _ {size : ℕ} {pending piece lent out : List ℕ} {line : HeldLine size} {r : Progress} (fed : Fed pending piece lent out line r) where
  nothing_written : r.taken ≡ 0 → r.written ≡ 0
  unfolding ended_lines flat_map
  nothing_written e = rw e at fed.counted

  fed_further : max_answer_line ≤ length lent → 0 < length piece → 0 < r.taken
  fed_further long some = go (dec_le r.taken 0)
    where
      go : Dec (r.taken ≤ 0) → 0 < r.taken
      go (yes none) = absurd (omega (arith, nothing_written (omega arith), fed.stopped (omega arith)))
      go (no more) = omega arith

pub feed_advances : {size : ℕ} {before line : HeldLine size} {piece lent out : List ℕ} {r : Progress}
    → ((pending : List ℕ) → Holds before pending → Fed pending piece lent out line r) → Advanced piece lent r
feed_advances {before} feeds =
    let (pending, holds) = some_held before in
    let fed = feeds pending holds in
    record { inside = fed.inside; room = fed.room; further = fed_further fed }

-- what is written over the start of a buffer lies inside it
start_inside : (lent text : List ℕ) → length text ≤ length (over lent 0 text)
unfolding over
start_inside lent text = simp length-append (omega arith)

pub finish_room : {held : Held} {buffer lent out : List ℕ} {written : ℕ}
    → ((pending : List ℕ) → HoldsIn held buffer pending → Finished pending lent out written) → written ≤ length out
finish_room {held} {buffer} {lent} finishes =
    let (pending, holds) = some_held_in held buffer in
    let done = finishes pending holds in
    rw (done.answered, done.counted) (start_inside lent (answers_to (last_line pending)))
