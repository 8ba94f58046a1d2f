-- What the loop of `try_modulation` keeps, and what it has left to do.
use Rattle.std.proofs.Common.{◌≤◌}
use Rattle.trial_frames.proofs.random.RandomTrials.try_modulation.Given as goal

abbrev pub invariant-loop-left : goal.invariant-loop-left
invariant-loop-left g l = l.left ≤ l.initial.left

abbrev pub decreases-loop-left : goal.decreases-loop-left
decreases-loop-left g l = l.left
