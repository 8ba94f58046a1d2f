-- What the loop of `outside_count` keeps.
use mathlib.Core.Path.{◌≡◌}
use Prim.Native.Nat.{◌*◌, ◌≤◌}
use Rattle.frame_checks.specs.OutsideCount.{outside_count}
use Rattle.frame_checks.proofs.outside_count.Given as goal

abbrev pub invariant-loop-n : goal.invariant-loop-n
invariant-loop-n l = (l.found ≤ 3 * l.n) × (l.found ≡ outside_count l.gains l.yi l.yq l.n)
