-- `softdemap_sample_i32` meets its contract. Assumes nothing.
use Rattle.softdemap.proofs.Handed.{single_handed}
use Rattle.softdemap.proofs.softdemap_sample_i32.Goals as goal

pub returns : goal.returns
returns c =
    let promise = c.convert_sample.ensures in
    record {
      answer = c.convert_sample.result;
      promise = promise;
      numbered = c.hand_out.ensures.number;
      handed = single_handed _ _ _ _ _ promise.answered c.hand_out.ensures.in_phase;
    }
