-- `softdemap_softs_f32` meets its contract. Assumes nothing.
use borrow.Author.Rules.{rules}
use Rattle.call_numbers.proofs.Numbers.{softs_numbered}
use Rattle.softdemap.proofs.softdemap_softs_f32.Goals as goal

pub returns : goal.returns
returns c =
    record {
      answer = c.convert_softs.result;
      promise = c.convert_softs.ensures;
      numbered = softs_numbered _ _ _ (λ fault r h. search rules) c.map_err.ensures.cases c.answer_number.ensures;
    }
