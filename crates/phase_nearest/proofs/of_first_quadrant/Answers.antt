-- `of_first_quadrant` meets its contract: it is the case of `sixteenth_of` with both coordinates positive. Assumes nothing.
use native.Mathlib.Omega.{arith}
use lib.IntN.{pos}
use Rattle.phase_nearest.proofs.PhaseNearest.{sixteenth_of, sixteenth_nearest}
use Rattle.phase_nearest.proofs.of_first_quadrant.Goals as goal

-- what comes out
pub returns : goal.returns
unfolding sixteenth_of
returns c = omega (arith, sixteenth_nearest (pos c.args.x) (pos c.args.y))
