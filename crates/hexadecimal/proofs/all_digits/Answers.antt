-- `all_digits` meets its contract. Assumes nothing.
use mathlib.Core.Path.{refl, sym, ◌∙◌}
use mathlib.Core.Bool.{true, false}
use Rattle.hexadecimal.proofs.Blocks.{last_decides}
use Rattle.hexadecimal.proofs.all_digits.Goals as goal

pub returns-then-digits_alone : goal.returns-then-digits_alone
returns-then-digits_alone c =
    let (inside, chunk) = c.in-Some.ensures.cases in
    last_decides c.args.text.now c.in-Some.last.now {b = true} inside chunk.same (sym c.if-digits_alone.true ∙ c.digits_alone-in-Some.ensures) c.whole_blocks.ensures

pub returns-else-digits_alone : goal.returns-else-digits_alone
returns-else-digits_alone c =
    let (inside, chunk) = c.in-Some.ensures.cases in
    c.if-digits_alone.false ∙ last_decides c.args.text.now c.in-Some.last.now {b = false} inside chunk.same (sym c.if-digits_alone.false ∙ c.digits_alone-in-Some.ensures) refl
