-- `nearest_level` meets its contract: the raised sample is below 2^21, and what the code makes of it is the law `axis-nearest`.
-- Assumes nothing.
use mathlib.Core.Path.{◌≡◌, refl, sym, ap, ◌∙◌}
use mathlib.Core.Bool.{true, false, true≢false}
use Prim.Native.Nat.{ℕ, zero, suc, ◌+◌, ◌*◌, ◌-◌, ◌/◌, ◌^◌, ◌≤◌, ◌<◌, min}
use native.Mathlib.Nat.{le_refl, mul-le-mul, zero-div}
use native.Mathlib.Omega.{arith}
use borrow.Author.Tests.{ltb-true}
use lib.IntN.{ℤ, pos, negsuc, nat_abs, ◌+ℤ◌, ◌-ℤ◌, -ℤ_one}
use lib.Pow.{pow_mono}
use lib.Signed.{lt_z}
use mir.Syntax.{w64}
use mir.Val.{to_z}
use mir.Facts.{to_z_pos}
use Rattle.arithmetic.proofs.Integers.{above}
use Rattle.arithmetic.proofs.Signed.{Sized, held, sized, sized_held, sized_add, sized_sub}
use Rattle.constellation.specs.Ranges.{max_gain, max_sample, AxisInRange}
use Rattle.constellation.specs.Parts.{axis}
use Rattle.demapper.proofs.GainZero.{axis_at_gain_zero}
use Rattle.axis_nearest.proofs.AxisNearest.{raised, axis-nearest}
use Rattle.axis_nearest.proofs.nearest_level.Goals as goal

below_one : (z : ℤ) → lt_z z (pos 1) ≡ true → above z ≡ 0
below_one (pos n) t = omega (arith, ltb-true n 1 t)
below_one (negsuc n) t = refl

one_less : (z : ℤ) → lt_z z (pos 1) ≡ false → z -ℤ pos 1 ≡ pos (above z - 1)
one_less (pos zero) t = absurd (true≢false t)
one_less (pos (suc n)) t = -ℤ_one (pos (suc n)) ∙ ap pos (omega arith)
one_less (negsuc n) t = absurd (true≢false t)

-- the code's `height` and its dividend, where s is the gain times the number of points
abbrev height : ℤ → ℕ → ℤ
height y s = held w64 (held w64 y +ℤ to_z w64 s)

abbrev dividend : ℤ → ℕ → ℤ
dividend y s = held w64 (height y s -ℤ pos 1)

-- with P points
module _ {m g P : ℕ} {y : ℤ} (pre : AxisInRange m g y) (e : P ≡ 2 ^ m) where
  product_size : g * P ≤ max_gain * 64
  product_size = rw e (mul-le-mul pre.gain (pow_mono {j = 6} pre.few))

  sum : Sized (held w64 y +ℤ to_z w64 (g * P)) (raised m g y) (max_sample + max_gain * 64)
  sum =
      rw (← e)
      (sized_add
      (sized_held w64 tt (sized y pre.sample))
      (record { value = to_z_pos w64 (omega (arith, product_size)); size = product_size }))

  height_raised : height y (g * P) ≡ raised m g y
  height_raised = (sized_held w64 tt sum).value

  less : Sized (height y (g * P) -ℤ pos 1) (raised m g y -ℤ pos 1) (max_sample + max_gain * 64 + 1)
  less = sized_sub (sized_held w64 tt sum) (sized (pos 1) (le_refl 1))

  divided : lt_z (height y (g * P)) (pos 1) ≡ false
      → Sized (dividend y (g * P)) (pos (above (raised m g y) - 1)) (max_sample + max_gain * 64 + 1)
  divided t = rw (one_less (raised m g y) (rw height_raised at t)) at (sized_held w64 tt less)

  module _ (s : ¬ (g ≡ 0)) where
    lowest : lt_z (height y (g * P)) (pos 1) ≡ true → 0 ≡ (axis m g y).nearest
    lowest t = rw (← axis-nearest m g y (omega arith), below_one (raised m g y) (rw height_raised at t), zero-div) (omega arith)

    held_below : lt_z (height y (g * P)) (pos 1) ≡ false → min (nat_abs (dividend y (g * P)) / (2 * g)) (P - 1) ≡ (axis m g y).nearest
    held_below t = rw ((divided t).value, e, ← axis-nearest m g y (omega arith)) refl

-- what comes out
pub returns-then-gain-eq0 : goal.returns-then-gain-eq0
returns-then-gain-eq0 c = rw c.if-gain-eq0.true (sym (axis_at_gain_zero _ _))

pub returns-then-height-lt1 : goal.returns-then-height-lt1
returns-then-height-lt1 c = lowest c.requires c.power-points.ensures c.if-gain-eq0.false c.if-height-lt1.true

pub returns : goal.returns
returns c = c.min.ensures ∙ held_below c.requires c.power-points.ensures c.if-gain-eq0.false c.if-height-lt1.false

pub overflow_cast-k : goal.overflow_cast-k
overflow_cast-k c =
    let d = divided c.requires c.power-points.ensures c.if-height-lt1.false in
    rw d.value (tt, record { fits = omega (arith, d.size) })
