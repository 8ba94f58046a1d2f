-- `softdemap_sizes` meets its contract. Assumes nothing.
use Rattle.softdemap.proofs.Handed.{sizes_handed}
use Rattle.softdemap.proofs.softdemap_sizes.Goals as goal

pub returns : goal.returns
returns c =
    let handed = c.hand_out_sizes.ensures in
    record {
      answer = c.header_sizes.result;
      promise = c.header_sizes.ensures;
      numbered = handed.number;
      handed =
          sizes_handed _ _ _ _ _ _ _ _ _ _ _ handed.symbols handed.quadrature handed.probes handed.line handed.answer;
    }
