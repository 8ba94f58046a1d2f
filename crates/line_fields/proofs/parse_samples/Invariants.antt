-- What the loop of `parse_samples` keeps: the samples of the symbols passed stand at the start of the buffer.
use Prim.Native.Nat.{◌+◌}
use Rattle.arithmetic.proofs.Lists.{Filled}
use Rattle.hexadecimal.specs.TwosComplement.{signed_at}
use Rattle.line_text.specs.Line.{symbol_at}
use Rattle.line_fields.proofs.parse_samples.Given as goal

abbrev pub invariant-loop-n : goal.invariant-loop-n
invariant-loop-n l = Filled l.initial.samples 0 (λ n. signed_at l.line.characters.now (symbol_at l.digits n + l.offset) 8) l.n l.samples
