-- `line::axis_cost` meets its contract: the error is below 2^21 and its square below 2^42. Assumes nothing.
use Prim.Native.Nat.{ℕ, ◌+◌, ◌*◌, ◌≤◌}
use native.Mathlib.Omega.{arith}
use lib.IntN.{ℤ, pos, ◌-ℤ◌, ◌*ℤ◌}
use mir.Syntax.{w64}
use Rattle.arithmetic.proofs.Signed.{Sized, held, sized, sized_fits, sized_held, sized_sub, sized_mul}
use Rattle.constellation.specs.Ranges.{max_gain}
use Rattle.constellation.specs.Levels.{squared}
use Rattle.constellation.specs.Heights.{HeightInRange, max_height, cost_by_height}
use Rattle.points.proofs.line.axis_cost.Goals as goal

module _ {height step : ℤ} {k : ℕ} (pre : HeightInRange height step k) where
  risen : Sized (held w64 step *ℤ held w64 (pos k)) (step *ℤ pos k) (2 * max_gain * 63)
  risen =
      let few : k ≤ 63 = omega (arith, pre.below) in
      sized_mul (sized_held w64 tt (sized step pre.wide)) (sized_held w64 tt (sized (pos k) few))

  error : Sized (held w64 height -ℤ held w64 (held w64 step *ℤ held w64 (pos k))) (height -ℤ step *ℤ pos k) (max_height + 2 * max_gain * 63)
  error = sized_sub (sized_held w64 tt (sized height pre.high)) (sized_held w64 tt risen)

pub overflow_mul-result : goal.overflow_mul-result
overflow_mul-result c = let e = sized_held w64 tt (error c.requires) in sized_fits w64 tt (sized_mul e e)

pub returns : goal.returns
unfolding cost_by_height squared
returns c = let e = sized_held w64 tt (error c.requires) in (sized_held w64 tt (sized_mul e e)).value
