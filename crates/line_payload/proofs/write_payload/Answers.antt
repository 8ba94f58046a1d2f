-- `write_payload` meets its contract: after each turn the soft values of the symbols so far are written, as many as the payload has.
-- Assumes nothing.
use native.Mathlib.Omega.{arith}
use borrow.Author.Rules.{rules}
use Rattle.line_payload.proofs.Payload.{written_none, written_more, count_fits}
use Rattle.line_payload.proofs.write_payload.Goals as goal

pub loop-n-init : goal.loop-n-init
loop-n-init c = (written_none, search rules, c.lent-own.ensures)

pub loop-n-preserved : goal.loop-n-preserved
loop-n-preserved c =
    let count = rw c.bits_per_symbol-bits.ensures at c.min-count.ensures in
    let more = rw (c.symbol_at-symbol.ensures, c.digits_in-digits.ensures, c.for_symbol-by.ensures.modulation, c.for_symbol-by.ensures.scale) at c.write_symbol.ensures.written in
    (written_more c.loop-n.invariant.0 c.loop-n-test.true c.requires.3 count (omega arith) more, search rules, c.write_symbol.ensures.room)

pub write_symbol-requires : goal.write_symbol-requires
write_symbol-requires c =
    let ready = c.requires.2 c.loop-n.n c.loop-n-test.true in
    let count = c.min-count.ensures in (
      rw (c.symbol_at-symbol.ensures, c.for_symbol-by.ensures.modulation) ready,
      c.loop-n.invariant.2,
      rw c.for_symbol-by.ensures.modulation (omega (arith, count, c.bits_per_symbol-bits.ensures)),
      rw c.digits_in-digits.ensures (count_fits c.loop-n.invariant.0 _ count c.requires.3),
    )
