-- `softdemap_map` meets its contract. Assumes nothing.
use Rattle.call_numbers.proofs.Numbers.{map_numbered}
use Rattle.softdemap.proofs.softdemap_map.Goals as goal

pub returns : goal.returns
returns c =
    record {
      answer = c.map_bits.result;
      promise = c.map_bits.ensures;
      numbered = map_numbered _ c.answer_number.ensures;
    }
