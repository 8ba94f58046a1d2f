-- `answer_last` is safe: what is written of an answer lies inside its buffer. Assumes nothing.
use Rattle.std.proofs.Common.{sym, length-take-le}
use Rattle.line_stream.proofs.Advance.{finish_room}
use Rattle.softlines.proofs.answer_last.Goals as goal

pub slice_bounds-out-end : goal.slice_bounds-out-end
slice_bounds-out-end g c = finish_room c.finish-written.ensures

pub slice_bounds-print-end : goal.slice_bounds-print-end
slice_bounds-print-end g c = sym (length-take-le _ _ (finish_room c.finish-written.ensures))
