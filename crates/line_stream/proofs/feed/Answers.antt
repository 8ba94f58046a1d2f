-- `feed` meets its contract: what one turn more answers and holds, and what the loop leaves. Assumes nothing.
use mathlib.Core.Path.{◌≡◌, refl, sym, ◌∙◌}
use mathlib.Core.List.{List, [], ◌++◌, flat_map, append-nil, append_assoc}
use Prim.Native.Nat.{ℕ, ◌+◌, ◌-◌, ◌<◌, ◌≤◌}
use native.Mathlib.Nat.{zero-add}
use native.Mathlib.Omega.{arith}
use lib.ListN.{length, take, drop, length-append, length-take, length-drop}
use lib.Seq.{take-add, take-take, take_all}
use Rattle.std.proofs.lemmas.List.{drop-drop, drop_all}
use Rattle.arithmetic.specs.Lists.{over}
use Rattle.arithmetic.proofs.Lists.{over_nothing, over_more, flat_map-append}
use Rattle.line_stream.specs.declared.Progress.{Progress}
use Rattle.line_cut.specs.Lines.{ended_lines, pending_after}
use Rattle.line_stream.specs.Stream.{answer_line, answers_to}
use Rattle.line_stream.specs.Feeding.{max_answer_line, Answered, Fed}
use Rattle.line_cut.specs.declared.HeldLine.{HeldLine}
use Rattle.line_cut.specs.declared.Cut.{Cut}
use Rattle.line_cut.specs.Cut.{Holds, HandedBack, CutFrom}
use Rattle.line_cut.proofs.Cutting.{ended_append, pending_append}
use Rattle.line_stream.proofs.Advance.{cut_further, cut_inside, cut_found, count_inside}
use Rattle.line_stream.proofs.feed.Invariants.{Taken, Going}
use Rattle.line_stream.proofs.feed.Goals as goal

-- what is written at the start of what is left of a buffer is written behind what stands before that
written_behind : (d s : List ℕ) (at : ℕ)
    → take at d ++ (over (take (length d - at) (drop at d)) 0 s ++ drop (length d - at) (drop at d)) ≡ over d at s
unfolding over
written_behind d s at =
    let rest : take (length d - at) (drop at d) ≡ drop at d = take_all (length d - at) (drop at d) (rw length-drop (omega arith)) in
    let behind : drop (length d - at) (drop at d) ≡ [] = drop_all (length d - at) (drop at d) (rw length-drop (omega arith)) in
    rw (rest, behind, append-nil, zero-add, drop-drop) (sym (append_assoc (take at d) s (drop (at + length s) d)))

module _ {size : ℕ} {line₀ : HeldLine size} {piece lent : List ℕ} where
  going_none : Going line₀ piece lent line₀ lent record { taken = 0; written = 0 }
  unfolding ended_lines pending_after flat_map
  going_none =
      record {
        inside = omega arith;
        room = omega arith;
        long = refl;
        idle = λ h. (refl, refl);
        taken = λ pending holds. record { answered = sym (over_nothing lent 0); counted = refl; kept = holds };
      }

  module _ {line : HeldLine size} {out : List ℕ} {before : Progress} (going : Going line₀ piece lent line out before) where
    going_fed : (before.taken < length piece → length lent < before.written + max_answer_line) → (pending : List ℕ) → Holds line₀ pending
        → Fed pending piece lent out line before
    going_fed full pending holds =
        let so_far = going.taken pending holds in
        record {
          inside = going.inside;
          answered = so_far.answered;
          counted = so_far.counted;
          room = going.room;
          kept = so_far.kept;
          stopped = full;
          idle = going.idle;
        }

    -- what is left of the piece and of the buffer for answers, as the code cuts them
    abbrev rest : List ℕ
    rest = take (length piece - before.taken) (drop before.taken piece)

    abbrev left : List ℕ
    left = take (length out - before.written) (drop before.written out)

    -- one turn more
    module _ {line' : HeldLine size} {cut : Cut} {left' : List ℕ} {count : ℕ}
        (cuts : (pending : List ℕ) → Holds line pending → CutFrom pending rest line' cut)
        (writes : (lines : List (List ℕ)) → HandedBack rest line'.characters cut.found lines → Answered lines left left' count) where
      passed : cut.next ≤ length piece - before.taken
      passed = omega (arith, simp (length-take, length-drop) at (cut_inside cuts))

      told : count ≤ length out - before.written
      told = omega (arith, simp (length-take, length-drop) at (count_inside cuts writes))

      abbrev out' : List ℕ
      out' = take before.written out ++ (left' ++ drop (length out - before.written) (drop before.written out))

      abbrev after : Progress
      after = record { taken = before.taken + cut.next; written = before.written + count }

      taken_more : (pending : List ℕ) → Taken pending piece lent out line before → Taken pending piece lent out' line' after
      taken_more pending so_far =
          let front : List ℕ = take before.taken piece in
          let more : List ℕ = take cut.next rest in
          let c = cuts (pending_after pending front) so_far.kept in
          let wrote = writes _ c.lines in
          let both_parts : take (before.taken + cut.next) piece ≡ front ++ more
          = rw (take-add, take-take cut.next (length piece - before.taken) (drop before.taken piece) passed) refl in
          let said : List ℕ = answers_to (ended_lines pending front) in
          let next : List ℕ = answers_to (ended_lines (pending_after pending front) more) in
          let both : answers_to (ended_lines pending (take (before.taken + cut.next) piece)) ≡ said ++ next
          = rw (both_parts, ended_append) (flat_map-append answer_line (ended_lines pending front) (ended_lines (pending_after pending front) more)) in
          let fits : 0 + length said ≤ length lent = omega (arith, going.room, so_far.counted) in
          let on : over (over lent 0 said) (length said) next ≡ over lent 0 (said ++ next) = rw zero-add at (over_more lent 0 said next fits) in
          record {
            answered = rw (wrote.answered, both) (written_behind out next before.written ∙ rw (so_far.answered, so_far.counted) on);
            counted = rw (both, length-append) (omega (arith, wrote.counted, so_far.counted));
            kept = rw (both_parts, pending_append) c.kept;
          }

      going_more : before.taken < length piece → before.written + max_answer_line ≤ length out → length left' ≡ length left
          → Going line₀ piece lent line' out' after
      going_more more fits same =
          record {
            inside = omega (arith, passed);
            room = omega (arith, told, going.long);
            long = simp (length-append, length-take, length-drop) (omega (arith, simp (length-take, length-drop) at same, going.long));
            idle = λ h. absurd (omega (arith, going.long));
            taken = λ pending holds. taken_more pending (going.taken pending holds);
          }

pub loop-progress-init : goal.loop-progress-init
loop-progress-init c = going_none

pub loop-progress-preserved : goal.loop-progress-preserved
loop-progress-preserved c =
    going_more c.loop-progress.invariant c.next_line-cut.ensures c.write_found-count.ensures (omega arith) (omega arith) c.write_found-count.auto.out

pub write_found-count-requires : goal.write_found-count-requires
write_found-count-requires c = (cut_found c.next_line-cut.ensures, simp (length-take, length-drop) (omega arith))

pub overflow_add-progress-in-loop-progress : goal.overflow_add-progress-in-loop-progress
overflow_add-progress-in-loop-progress c = omega (arith, simp (length-take, length-drop) at (cut_inside c.next_line-cut.ensures))

pub overflow_add-progress-in-loop-progress-2 : goal.overflow_add-progress-in-loop-progress-2
overflow_add-progress-in-loop-progress-2 c =
    omega (arith, simp (length-take, length-drop) at (count_inside c.next_line-cut.ensures c.write_found-count.ensures))

pub loop-progress-smaller : goal.loop-progress-smaller
loop-progress-smaller c =
    omega (arith, cut_further c.next_line-cut.ensures, simp (length-take, length-drop) at (cut_inside c.next_line-cut.ensures))

pub returns-else-progress-out : goal.returns-else-progress-out
returns-else-progress-out c = going_fed c.loop-progress.invariant (λ h. omega (arith, c.loop-progress.invariant.long))

pub returns-after-loop-progress : goal.returns-after-loop-progress
returns-after-loop-progress c = going_fed c.loop-progress.invariant (λ h. omega arith)
