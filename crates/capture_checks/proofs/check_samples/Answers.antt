-- `check_samples` meets its contract: the first number that does not convert decides. Assumes nothing.
use mathlib.Core.Path.{sym}
use Rattle.capture.proofs.CaptureChecks.{refused_answer, converted_answer}
use Rattle.capture_checks.proofs.check_samples.Goals as goal

pub returns-in-Some : goal.returns-in-Some
returns-in-Some c =
    let found = rw c.scaling_of.ensures at c.in-Some.ensures in
    let (_, is_each, whole) = c.requires in
    rw (c.refusal_of.ensures, is_each) (sym (refused_answer _ _ c.args.capture.numbers.now c.in-Some.at (rw is_each at whole) found))

pub returns-in-None : goal.returns-in-None
returns-in-None c =
    let all = rw c.scaling_of.ensures at c.in-None.ensures in
    let (_, is_each, whole) = c.requires in
    rw is_each (sym (converted_answer _ _ c.args.capture.numbers.now (rw is_each at whole) all))
