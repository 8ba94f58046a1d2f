-- `finish` meets its contract: the last line lies in the line buffer, where it has a character, and its answer has room. Assumes nothing.
use mathlib.Core.List.{[]}
use native.Mathlib.Omega.{arith}
use Rattle.line_cut.proofs.Pending.{some_held}
use Rattle.line_stream.proofs.AnswerLines.{handed_inside}
use Rattle.line_stream.proofs.finish.Goals as goal

pub write_found-requires : goal.write_found-requires
write_found-requires c =
    let (pending, holds) = some_held c.args.line.now in
    (handed_inside [] _ _ _ (c.last_line.ensures pending holds []), omega (arith, c.told-out))

pub returns : goal.returns
returns c pending holds = c.write_found.ensures _ (c.last_line.ensures pending holds [])
