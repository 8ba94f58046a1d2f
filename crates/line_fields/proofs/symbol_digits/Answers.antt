-- `symbol_digits` meets its contract: the digits of a symbol are so few that no sum wraps. Assumes nothing.
use native.Mathlib.Omega.{arith}
use Rattle.constellation.proofs.Schemes.{quadrature_few}
use Rattle.line_text.proofs.LineChecks.{digits_before_few}
use Rattle.line_fields.proofs.symbol_digits.Goals as goal

pub overflow_add-result : goal.overflow_add-result
overflow_add-result c = omega (arith, c.digits_before.ensures, digits_before_few c.args.weighted)

pub overflow_add-result-2 : goal.overflow_add-result-2
overflow_add-result-2 c = omega (arith, c.digits_before.ensures, digits_before_few c.args.weighted, c.quadrature_length.ensures, quadrature_few c.args.modulation 1)
