-- What is printed for a stream, piece by piece, is the answers to the whole input. Assumes nothing.
use mathlib.Core.Path.{◌≡◌}
use mathlib.Core.List.{List, [], ◌++◌, append_assoc}
use Prim.Native.Nat.{ℕ}
use Rattle.arithmetic.proofs.Lists.{take_over, flat_map-append}
use Rattle.line_cut.specs.Lines.{ended_lines, pending_after, last_line, lines_of}
use Rattle.line_stream.specs.Stream.{answers_to, stream_answers}
use Rattle.line_cut.specs.declared.HeldLine.{HeldLine}
use Rattle.line_cut.specs.Cut.{Holds}
use Rattle.line_stream.specs.Run.{Run, finished, fed}
use Rattle.line_cut.proofs.Cutting.{ended_append, pending_append}

pub run_printed : {size : ℕ} {line : HeldLine size} {pending input printed : List ℕ} → Run line input printed → Holds line pending
    → printed ≡ answers_to (ended_lines pending input ++ last_line (pending_after pending input))
unfolding ended_lines pending_after
run_printed {pending} (finished {lent} finishes) h =
    let done = finishes pending h in
    rw (done.answered, done.counted) (take_over lent (answers_to (last_line pending)))
run_printed {pending} (fed {piece} {lent} {input} {r} feeds rest) h =
    let done = feeds pending h in
    rw (done.answered, done.counted, take_over, ended_append, pending_append, append_assoc, flat_map-append, run_printed rest done.kept)

-- from the start of a stream, where nothing is pending
pub stream_printed : {size : ℕ} {line : HeldLine size} {input printed : List ℕ} → Holds line [] → Run line input printed → printed ≡ stream_answers input
unfolding stream_answers lines_of
stream_printed nothing run = run_printed run nothing
