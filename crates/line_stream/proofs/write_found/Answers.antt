-- `write_found` meets its contract where no line was found, and where it is too long. Assumes nothing.
use mathlib.Core.Path.{◌≡◌, refl, sym}
use mathlib.Core.List.{List, [], flat_map}
use Prim.Native.Nat.{ℕ}
use native.Mathlib.Omega.{arith}
use Rattle.arithmetic.proofs.Lists.{over_nothing}
use Rattle.frame.specs.declared.Refusal.TheVariants.{LineLength}
use Rattle.line_text.specs.Answer.{refused_text}
use Rattle.line_stream.specs.Feeding.{Answered}
use Rattle.line_stream.proofs.AnswerLines.{too_long_text, refused_short}
use Rattle.line_stream.proofs.Written.{written}
use Rattle.line_stream.proofs.write_found.Goals as goal

none_written : {lines : List (List ℕ)} (lent : List ℕ) → lines ≡ [] → Answered lines lent lent 0
unfolding flat_map
none_written lent e = rw e (record { answered = sym (over_nothing lent 0); counted = refl; room = omega arith })

pub returns-in-None : goal.returns-in-None
returns-in-None c lines back = none_written _ (rw c.in-None.is at back)

pub returns-in-Some-TooLong : goal.returns-in-Some-TooLong
returns-in-Some-TooLong c lines back =
    let (line, e, long) = rw (c.in-Some-TooLong.is, rw c.in-Some-TooLong.is at c.in-Some-TooLong.field-0-is) at back in
    rw e
    (written (refused_text LineLength) c.requires.1 (too_long_text line (omega (arith, long))) c.write_refusal.ensures.text
    (rw refused_short (omega (arith, c.write_refusal.ensures.count))))
