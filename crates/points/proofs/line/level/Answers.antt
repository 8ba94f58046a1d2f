-- `line::level` meets its contract: what it subtracts is at most 126 and 63. Assumes nothing.
use Prim.Native.Nat.{ℕ, ◌+◌, ◌*◌, ◌-◌, ◌^◌, ◌≤◌}
use native.Mathlib.Omega.{arith}
use lib.IntN.{pos, ◌-ℤ◌}
use lib.Pow.{pow_mono}
use mir.Syntax.{w64}
use Rattle.arithmetic.proofs.Signed.{Sized, held, sized, sized_held, sized_sub}
use Rattle.constellation.specs.Ranges.{IndexInRange}
use Rattle.constellation.specs.Levels.{level}
use Rattle.points.proofs.line.level.Goals as goal

module _ {m k : ℕ} (range : IndexInRange m k) where
  points : 2 ^ m ≤ 64
  points = pow_mono {j = 6} range.few

  lowered : Sized (held w64 (pos (2 * k)) -ℤ held w64 (pos (2 ^ m - 1))) (level m k) (126 + 63)
  unfolding level
  lowered =
      let b : 2 * k ≤ 126 = omega (arith, points) in
      let t : 2 ^ m - 1 ≤ 63 = omega (arith, points) in
      sized_sub (sized_held w64 tt (sized (pos (2 * k)) b)) (sized_held w64 tt (sized (pos (2 ^ m - 1)) t))

pub returns : goal.returns
returns c = rw c.power.ensures (sized_held w64 tt (lowered c.requires)).value
