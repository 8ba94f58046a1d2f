-- `answer_piece` meets its contract, is safe and ends: a longest answer has room in each turn, so each takes something, and feeding says that it stays
-- inside the piece and the buffer and what it holds.
use Rattle.std.proofs.Common.{◌≡◌, List, ℕ, ◌+◌, ◌-◌, ◌≤◌, length, take, drop, arith, rules, refl, length-take, length-drop}
use lib.Seq.{take-take, take-add, take_all}
use Rattle.line_cut.specs.Lines.{pending_after}
use Rattle.line_cut.specs.declared.HeldLine.{HeldLine}
use Rattle.line_cut.specs.Cut.{Holds}
use Rattle.line_cut.proofs.Cutting.{pending_append}
use Rattle.line_stream.specs.declared.Progress.{Progress}
use Rattle.line_stream.specs.Feeding.{Fed}
use Rattle.line_stream.proofs.Advance.{feed_advances}
use Rattle.softlines.proofs.answer_piece.Goals as goal

-- one turn more: what is pending behind all that is taken is held
held_further : (piece : List ℕ) (taken : ℕ) {size : ℕ} {line next : HeldLine size} {lent out : List ℕ} {r : Progress}
    → ((pending : List ℕ) → Holds line pending → Fed pending (take (length piece - taken) (drop taken piece)) lent out next r)
    → (pending : List ℕ) → Holds line (pending_after pending (take taken piece))
    → Holds next (pending_after pending (take (taken + r.taken) piece))
held_further piece taken {r} feeds pending holds =
    let fed = feeds (pending_after pending (take taken piece)) holds in
    let inside : r.taken ≤ length piece - taken = omega (arith, simp (length-take, length-drop) at fed.inside) in
    let part : take r.taken (take (length piece - taken) (drop taken piece)) ≡ take r.taken (drop taken piece)
    = take-take r.taken (length piece - taken) (drop taken piece) inside in
    rw (take-add, pending_append) (rw part at fed.kept)

pub loop-taken-init : goal.loop-taken-init
unfolding pending_after
loop-taken-init g c = (omega arith, refl, λ pending holds. holds)

pub shared_ref_as_front-print : goal.shared_ref_as_front-print
shared_ref_as_front-print g c = omega (arith, (feed_advances c.feed-done.ensures).room)

pub overflow_add-taken : goal.overflow_add-taken
overflow_add-taken g c =
    let fed = feed_advances c.feed-done.ensures in
    omega (arith, simp (length-take, length-drop) at fed.inside)

pub loop-taken-smaller : goal.loop-taken-smaller
loop-taken-smaller g c =
    let fed = feed_advances c.feed-done.ensures in
    let further = fed.further (omega arith) (simp (length-take, length-drop) (omega arith)) in
    omega (arith, further)

pub loop-taken-preserved : goal.loop-taken-preserved
loop-taken-preserved g c = (
  omega (arith, simp (length-take, length-drop) at (feed_advances c.feed-done.ensures).inside),
  search rules,
  λ pending holds. held_further c.args.piece.now c.loop-taken.taken c.feed-done.ensures pending (c.loop-taken.invariant.2 pending holds),
)

pub returns : goal.returns
returns g c pending holds =
    let all : take c.loop-taken.taken c.args.piece.now ≡ c.args.piece.now = take_all _ _ (omega (arith, c.loop-taken-test.false)) in
    rw all at (c.loop-taken.invariant.2 pending holds)
