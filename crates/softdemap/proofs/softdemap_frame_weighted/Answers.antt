-- `softdemap_frame_weighted` meets its contract: the lists that it hands on, that of the weights among them, make the frame. Assumes nothing.
use borrow.Author.Rules.{rules}
use Rattle.softdemap.proofs.softdemap_frame_weighted.Goals as goal

pub returns : goal.returns
returns c = record { answer = c.demap_frame.result; promise = search rules; numbered = c.frame_number.ensures }
