-- `softdemap_line` meets its contract. Assumes nothing.
use Rattle.call_numbers.proofs.Numbers.{line_numbered}
use Rattle.softdemap.proofs.softdemap_line.Goals as goal

pub returns : goal.returns
returns c =
    record {
      answer = c.answer_line.result;
      promise = c.answer_line.ensures;
      numbered = line_numbered _ c.answer_number.ensures;
    }
