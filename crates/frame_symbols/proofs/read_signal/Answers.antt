-- `read_signal` meets its contract: without weights the one for all is that of each symbol, and else after each turn the symbols so far are read, each by its own
-- weight. Assumes nothing.
use mathlib.Core.Path.{◌≡◌, sym, ap}
use mathlib.Core.List.{List}
use Prim.Native.Nat.{ℕ}
use native.Mathlib.Omega.{arith}
use borrow.Author.Rules.{rules}
use borrow.Author.Tests.{eqb-true}
use lib.ListN.{length, get_or-eq_default}
use Rattle.arithmetic.proofs.Lists.{joined_cong}
use Rattle.constellation.specs.declared.Modulation.{Modulation}
use Rattle.demapper.specs.Soft.{Scale}
use Rattle.symbol_reading.specs.declared.Symbol.{Symbol}
use Rattle.symbol_reading.specs.PartsRead.{softs_for, softs_of, scale_at}
use Rattle.symbol_reading.proofs.PartsReading.{symbols_none, symbol_fits, symbols_more}
use Rattle.frame_symbols.proofs.read_signal.Goals as goal

-- where there are no weights, each symbol has the scale as it is
one_for_all : (q : Modulation) (scale : Scale) (weights : List ℕ) (symbol : ℕ → Symbol) (n : ℕ) → length weights ≡ 0
    → softs_of q (λ j. scale) symbol n ≡ softs_of q (scale_at scale weights) symbol n
one_for_all q scale weights symbol n none =
    joined_cong _ _ n (λ j h. ap (λ (w : ℕ). softs_for q (record { weight = w; shift = scale.shift; limit = scale.limit }) (symbol j)) (sym (get_or-eq_default weights scale.weight (omega (arith, none)))))

pub returns-then-is_empty-clause-read : goal.returns-then-is_empty-clause-read
returns-then-is_empty-clause-read c =
    let s = c.args.signal in
    rw (← one_for_all c.args.demapper.modulation _ s.weights.now _ (length s.gains.now) (eqb-true _ _ (sym c.if-is_empty.ensures))) c.read_symbols.ensures.read

pub loop-n-init : goal.loop-n-init
loop-n-init c = (search rules, symbols_none c.requires.3)

pub loop-n-preserved : goal.loop-n-preserved
loop-n-preserved c =
    (search rules, symbols_more c.loop-n.invariant.1 c.loop-n-test.true (rw (c.symbol_at.ensures, c.for_symbol-by.ensures.modulation, c.for_symbol-by.ensures.scale) at c.read_symbol-next.ensures.read))

pub read_symbol-next-requires : goal.read_symbol-next-requires
read_symbol-next-requires c =
    let here = c.loop-n-test.true in
    rw (c.symbol_at.ensures, c.for_symbol-by.ensures.modulation) (c.requires.2 c.loop-n.n here, symbol_fits c.loop-n.invariant.1 here)
