-- What the loop of `write_payload` keeps.
use lib.ListN.{length}
use Rattle.constellation.specs.Ranges.{max_symbol_bits, max_symbol_probes}
use Rattle.demapper.specs.Lent.{held_in, SameBuffers}
use Rattle.symbol_reading.specs.PartsRead.{scale_at, Fit}
use Rattle.demapper.specs.Rounding.{scale_of}
use Rattle.frame_symbols.specs.SymbolsRead.{symbol_at}
use Rattle.digit_writing.specs.Width.{digits_in}
use Rattle.line_payload.proofs.Payload.{WrittenUpTo}
use Rattle.line_payload.proofs.write_payload.Given as goal

abbrev pub invariant-loop-n : goal.invariant-loop-n
invariant-loop-n l =
    let gains = l.signal.gains.now in
    WrittenUpTo l.demapper.modulation (symbol_at gains l.signal.yi.now l.signal.yq.now) (scale_at (scale_of l.demapper.rounding) l.signal.weights.now) (length gains) l.payload (digits_in l.width) l.initial.text l.at l.text l.done l.n
    × SameBuffers l.initial.own l.own
    × Fit max_symbol_bits max_symbol_probes (held_in l.own)
