-- `line::axis_height` meets its contract: the lowest level is no lower than −63, the gain at most 4095. Assumes nothing.
use Prim.Native.Nat.{ℕ, ◌*◌, ◌-◌, ◌^◌}
use lib.IntN.{ℤ, pos, ◌+ℤ◌}
use mir.Syntax.{w64}
use Rattle.arithmetic.proofs.Signed.{Sized, held, sized, sized_held, sized_add}
use Rattle.constellation.specs.Ranges.{AxisInRange}
use Rattle.constellation.specs.Heights.{max_height, axis_height}
use Rattle.constellation.proofs.Levels.{lowest_size}
use Rattle.points.proofs.line.axis_height.Goals as goal

height : {m g : ℕ} {y : ℤ} → AxisInRange m g y → Sized (held w64 y +ℤ held w64 (pos (g * (2 ^ m - 1)))) (axis_height m g y) max_height
unfolding axis_height
height {m} {g} {y} h = sized_add (sized_held w64 tt (sized y h.sample)) (sized_held w64 tt (sized (pos (g * (2 ^ m - 1))) (lowest_size h)))

pub returns : goal.returns
returns c = rw c.power.ensures (sized_held w64 tt (height c.requires)).value
