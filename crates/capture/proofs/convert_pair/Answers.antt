-- `convert_pair` meets its contract: each exit is given what the two numbers convert to. Assumes nothing.
use mathlib.Core.Path.{refl}
use borrow.Author.Rules.{rules}
use mir.Facts.{to_z-of_z}
use mir.Syntax.{w32}
use Rattle.std.proofs.lemmas.Result.{err_from_is_err_and}
use Rattle.capture.proofs.Checking.{pair_answer_lem}
use Rattle.capture.proofs.convert_pair.Goals as goal

pub returns-in_err-convert_number : goal.returns-in_err-convert_number
returns-in_err-convert_number c =
    let p = err_from_is_err_and c.from_residual.result c.from_residual.ensures.1 in
    rw (p.1, p.2) (pair_answer_lem _ _ c.in_err-convert_number.ensures refl)

pub returns-in_err-convert_number-2 : goal.returns-in_err-convert_number-2
returns-in_err-convert_number-2 c =
    let p = err_from_is_err_and c.from_residual-in_err-convert_number-2.result c.from_residual-in_err-convert_number-2.ensures.1 in
    rw (p.1, p.2) (pair_answer_lem _ _ c.in_ok-convert_number.ensures c.in_err-convert_number-2.ensures)

pub returns : goal.returns
returns c =
    rw (to_z-of_z {w = w32} {z = c.in_ok-convert_number.field-0} (search rules), to_z-of_z {w = w32} {z = c.in_ok-convert_number-2.field-0} (search rules))
    (pair_answer_lem _ _ c.in_ok-convert_number.ensures c.in_ok-convert_number-2.ensures)
