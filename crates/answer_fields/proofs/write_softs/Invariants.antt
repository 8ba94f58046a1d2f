-- What the loop of `write_softs` keeps: the digits of the soft values passed stand in the text from the position `at` on.
use mathlib.Core.Path.{◌≡◌}
use mathlib.Core.List.{List}
use Prim.Native.Nat.{ℕ}
use lib.IntN.{ℤ, pos}
use lib.ListN.{get_or}
use Rattle.arithmetic.specs.Lists.{joined, over}
use Rattle.hexadecimal.specs.TwosComplement.{last_digits}
use Rattle.digit_writing.specs.Width.{digits_in}
use Rattle.answer_fields.proofs.write_softs.Given as goal

-- the digits of a soft value
unfoldable pub soft_at : ℕ → List ℤ → ℕ → List ℕ
soft_at d soft i = last_digits d (get_or soft i (pos 0))

abbrev pub invariant-loop-i : goal.invariant-loop-i
invariant-loop-i l = l.text ≡ over l.initial.text l.at (joined (soft_at (digits_in l.width) l.soft) l.i)
