-- `read_symbols` meets its contract: after each turn the symbols so far are read. Assumes nothing.
use borrow.Author.Rules.{rules}
use Rattle.symbol_reading.proofs.PartsReading.{symbols_none, symbol_fits, symbols_more}
use Rattle.frame_symbols.proofs.read_symbols.Goals as goal

pub loop-n-init : goal.loop-n-init
loop-n-init c = (search rules, symbols_none c.requires.2)

pub loop-n-preserved : goal.loop-n-preserved
loop-n-preserved c =
    (search rules, symbols_more c.loop-n.invariant.1 c.loop-n-test.true (rw c.symbol_at-symbol.ensures at c.read_symbol-next.ensures.read))

pub read_symbol-next-requires : goal.read_symbol-next-requires
read_symbol-next-requires c =
    let here = c.loop-n-test.true in
    (rw c.symbol_at-symbol.ensures (c.requires.1 c.loop-n.n here), symbol_fits c.loop-n.invariant.1 here)
