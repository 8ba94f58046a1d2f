-- What the loop of `write_over` keeps: the entries passed stand in the buffer.
use mathlib.Core.Path.{◌≡◌}
use lib.ListN.{length, take}
use Rattle.arithmetic.specs.Lists.{over}
use Rattle.padded_symbol.proofs.write_over.Given as goal

abbrev pub invariant-loop-i : goal.invariant-loop-i
invariant-loop-i g l = (l.buffer ≡ over l.initial.buffer l.at (take l.i l.list)) × (length l.buffer ≡ length l.initial.buffer)
