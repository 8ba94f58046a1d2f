-- `digits_alone` meets its contract: the fold is the test of each character. Assumes nothing.
use Rattle.std.proofs.lemmas.Grind.{common_steps}
use Rattle.std.proofs.Common.{rules, ◌≡◌, true, ◌&&◌, ◌∙◌}
use Rattle.std.specs.List.{fold}
use Rattle.hexadecimal.specs.Digits.{is_digit}
use Rattle.hexadecimal.proofs.Blocks.{fold_digits}
use Rattle.hexadecimal.proofs.digits_alone.Goals as goal

pub returns : goal.returns
returns c =
    let folded : c.fold.result ≡ fold (λ all x. all && is_digit x) true c.args.text.now = search (rules, common_steps) in
    folded ∙ fold_digits c.args.text.now
