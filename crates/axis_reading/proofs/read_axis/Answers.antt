-- `read_axis` meets its contract: each number of bits has an arm, and the last one is left with 6. Assumes nothing.
use mathlib.Core.Path.{◌≡◌}
use mathlib.Core.Bool.{Bool}
use Prim.Native.Nat.{ℕ}
use native.Mathlib.Omega.{arith}
use lib.IntN.{ℤ}
use mir.Syntax.{w64}
use mir.Val.{SFits}
use mir.Facts.{to_z-of_z}
use Rattle.arithmetic.proofs.Signed.{held}
use Rattle.constellation.specs.Parts.{axis}
use Rattle.demapper.specs.Soft.{Scale}
use Rattle.demapper.specs.Reading.{Buffers, PartRead}
use Rattle.axis_reading.specs.Turned.{labelled, turned}
use Rattle.axis_reading.proofs.AxisReading.{is_set, turned_lem}
use Rattle.axis_reading.proofs.read_axis.Goals as goal

-- an arm for m bits, with the sample as the machine holds it
arm : (t : Bool) (g : ℕ) {bits m at apart start : ℕ} {y : ℤ} {s : Scale} {lent out : Buffers} → bits ≡ m → SFits w64 y
    → PartRead (turned t (axis m g (held w64 y))) s at apart start lent out → PartRead (labelled t (axis bits g y)) s at apart start lent out
arm t g e fits read = rw e (rw (to_z-of_z fits, turned_lem) at read)

pub returns-in-1-clause-read : goal.returns-in-1-clause-read
returns-in-1-clause-read g c = arm (is_set g.row.CELLULAR) c.args.gain c.in-1.is c.ranges.y c.read_levels.ensures.read

pub returns-in-2-clause-read : goal.returns-in-2-clause-read
returns-in-2-clause-read g c = arm (is_set g.row.CELLULAR) c.args.gain c.in-2.is c.ranges.y c.read_levels-in-2.ensures.read

pub returns-in-3-clause-read : goal.returns-in-3-clause-read
returns-in-3-clause-read g c = arm (is_set g.row.CELLULAR) c.args.gain c.in-3.is c.ranges.y c.read_levels-in-3.ensures.read

pub returns-in-4-clause-read : goal.returns-in-4-clause-read
returns-in-4-clause-read g c = arm (is_set g.row.CELLULAR) c.args.gain c.in-4.is c.ranges.y c.read_levels-in-4.ensures.read

pub returns-in-5-clause-read : goal.returns-in-5-clause-read
returns-in-5-clause-read g c = arm (is_set g.row.CELLULAR) c.args.gain c.in-5.is c.ranges.y c.read_levels-in-5.ensures.read

pub returns-in_default-clause-read : goal.returns-in_default-clause-read
returns-in_default-clause-read g c =
    let last : c.args.bits ≡ 6 = omega (arith, c.requires.0) in
    arm (is_set g.row.CELLULAR) c.args.gain last c.ranges.y c.read_levels-in_default.ensures.read
