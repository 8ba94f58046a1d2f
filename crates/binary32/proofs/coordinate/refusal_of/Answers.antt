-- `refusal_of` meets its contract: what the library calls finite is so. Assumes nothing.
use mathlib.Core.Path.{◌≡◌, sym}
use mathlib.Core.Bool.{Bool}
use lib.Ieee.{Float, nan, inf, fin}
use lib.Ieee.Scale.{finite}
use Rattle.std.specs.Float.{float_is_finite}
use Rattle.binary32.specs.Scaling.{refusal_for}
use Rattle.binary32.proofs.coordinate.refusal_of.Goals as goal

known : (x : Float) {b : Bool} → b ≡ float_is_finite x → finite x ≡ b
unfolding float_is_finite
known nan e = sym e
known (inf s) e = sym e
known (fin s m e) p = sym p

pub returns-then-is_finite : goal.returns-then-is_finite
unfolding refusal_for
returns-then-is_finite c = rw (known c.args.x c.is_finite.ensures.value, c.if-is_finite.true)

pub returns-else-is_finite : goal.returns-else-is_finite
unfolding refusal_for
returns-else-is_finite c = rw (known c.args.x c.is_finite.ensures.value, c.if-is_finite.false)
