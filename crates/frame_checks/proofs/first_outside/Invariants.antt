-- What the loop of `first_outside` keeps.
use mathlib.Core.Path.{◌≡◌}
use Rattle.arithmetic.specs.Lists.{joined}
use Rattle.frame.specs.Verdicts.{Passed}
use Rattle.frame.specs.Checks.{verdict_of}
use Rattle.frame.specs.FrameCall.{symbol_checks}
use Rattle.frame_checks.proofs.first_outside.Given as goal

abbrev pub invariant-loop-n : goal.invariant-loop-n
invariant-loop-n l = verdict_of (joined (symbol_checks l.gains l.weights l.yi l.yq) l.n) ≡ Passed
