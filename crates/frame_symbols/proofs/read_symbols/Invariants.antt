-- What the loop of `read_symbols` keeps.
use lib.ListN.{length}
use Rattle.demapper.specs.Lent.{held_in, SameBuffers}
use Rattle.demapper.specs.Rounding.{scale_of}
use Rattle.frame_symbols.specs.SymbolsRead.{symbol_at}
use Rattle.symbol_reading.proofs.PartsReading.{ReadUpTo}
use Rattle.frame_symbols.proofs.read_symbols.Given as goal

abbrev pub invariant-loop-n : goal.invariant-loop-n
invariant-loop-n l =
    let gains = l.signal.gains.now in
    SameBuffers l.initial.out l.out
    × ReadUpTo l.modulation (symbol_at gains l.signal.yi.now l.signal.yq.now) (length gains) (λ n. scale_of l.rounding) l.initial.next (held_in l.initial.out) (held_in l.out) l.n l.next
