-- `write_head` meets its contract: two fields, written one behind the other. Assumes nothing.
use native.Mathlib.Omega.{arith}
use Rattle.arithmetic.proofs.Lists.{over_more}
use Rattle.hexadecimal.specs.Digits.{digits_of}
use Rattle.hexadecimal.proofs.Fields.{length_digits}
use Rattle.answer_fields.proofs.write_head.Goals as goal

pub returns : goal.returns
returns c =
    let e = length_digits 2 0 in
    rw (c.write_number-2.ensures, c.write_number.ensures)
    (rw e at (over_more c.args.text.now c.args.at (digits_of 2 0) (digits_of 4 c.args.probes) (rw e (omega arith))))
