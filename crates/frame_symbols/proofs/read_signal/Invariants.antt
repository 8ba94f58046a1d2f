-- What the loop of `read_signal` keeps.
use lib.ListN.{length}
use Rattle.demapper.specs.Lent.{held_in, SameBuffers}
use Rattle.demapper.specs.Rounding.{scale_of}
use Rattle.symbol_reading.specs.PartsRead.{scale_at}
use Rattle.frame_symbols.specs.SymbolsRead.{symbol_at}
use Rattle.symbol_reading.proofs.PartsReading.{ReadUpTo}
use Rattle.frame_symbols.proofs.read_signal.Given as goal

abbrev pub invariant-loop-n : goal.invariant-loop-n
invariant-loop-n l =
    let gains = l.signal.gains.now in
    SameBuffers l.initial.out l.out
    × ReadUpTo l.demapper.modulation (symbol_at gains l.signal.yi.now l.signal.yq.now) (length gains) (scale_at (scale_of l.demapper.rounding) l.signal.weights.now) l.initial.next (held_in l.initial.out) (held_in l.out) l.n l.next
