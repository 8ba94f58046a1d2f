-- What the loop of `write_number` keeps: the first digits are written, those of the number without the others.
use mathlib.Core.Path.{◌≡◌}
use Prim.Native.Nat.{◌-◌, ◌/◌, ◌^◌}
use Rattle.arithmetic.specs.Lists.{over}
use Rattle.hexadecimal.specs.Digits.{digits_of}
use Rattle.digit_writing.proofs.write_number.Given as goal

abbrev pub invariant-loop-i : goal.invariant-loop-i
invariant-loop-i g l = l.text ≡ over l.initial.text l.at (digits_of l.i (l.v / 16 ^ (g.row.N - l.i)))
