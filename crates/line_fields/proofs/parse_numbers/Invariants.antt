-- What the loop of `parse_numbers` keeps: the numbers of the symbols passed stand at the start of the buffer.
use Prim.Native.Nat.{◌+◌}
use Rattle.arithmetic.proofs.Lists.{Filled}
use Rattle.hexadecimal.specs.Digits.{number_at}
use Rattle.line_text.specs.Line.{symbol_at}
use Rattle.line_fields.proofs.parse_numbers.Given as goal

abbrev pub invariant-loop-n : goal.invariant-loop-n
invariant-loop-n l = Filled l.initial.numbers 0 (λ n. number_at l.line.characters.now (symbol_at l.digits n + l.offset) 4) l.n l.numbers
