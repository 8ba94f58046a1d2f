-- What the loop of `phase_probed` keeps: behind k, the counter-hypotheses of the bits before bit i are listed.
use Rattle.arithmetic.proofs.Lists.{Filled}
use Rattle.constellation.specs.Counter.{phase_counter}
use Rattle.phase_costs.proofs.phase_probed.Given as goal

abbrev pub invariant-loop-i : goal.invariant-loop-i
invariant-loop-i l = Filled l.initial.probed 1 (phase_counter l.bits l.k) l.i l.probed
