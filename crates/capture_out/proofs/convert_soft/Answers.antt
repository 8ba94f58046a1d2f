-- `convert_soft` meets its contract: the scale is refused, or the value handed out is exact. Assumes nothing.
use mathlib.Core.Path.{◌≡◌}
use Prim.Native.Nat.{ℕ, ◌^◌, ◌≤◌, ◌<◌}
use native.Mathlib.Omega.{arith}
use borrow.Author.Tests.{lt-ltb, le-ltb}
use lib.IntN.{ℤ, nat_abs}
use lib.Ieee.{Float}
use mir.Facts.{to_z-of_z}
use Rattle.std.specs.Prelude.{Ok, Err}
use Rattle.frame.specs.declared.Refusal.TheVariants.{Scale}
use Rattle.frame.specs.Refusals.{refusal_number}
use Rattle.frame.specs.Checks.{verdict_of}
use Rattle.binary32.specs.SoftFloat.{max_soft_scale, soft_float}
use Rattle.binary32.proofs.SoftValues.{soft_size, soft_exact}
use Rattle.capture.specs.SoftOut.{soft_answer, soft_answer_for, soft_status, soft_floats, SoftPromise}
use Rattle.capture_out.proofs.convert_soft.Goals as goal

module _ {f : ℕ} {v : ℤ} where
  refused : max_soft_scale < f → SoftPromise f v (Err Scale)
  unfolding soft_answer soft_answer_for verdict_of soft_status refusal_number
  refused h = record { answered = rw (lt-ltb _ _ h); served_exact = λ e. absurd (omega arith) }

  served : {x : Float} → f ≤ max_soft_scale → nat_abs v ≤ 2 ^ 15 → x ≡ soft_float f v → SoftPromise f v (Ok x)
  unfolding soft_answer soft_answer_for verdict_of soft_floats
  served h k e = record { answered = rw (le-ltb _ _ h, e); served_exact = λ z. rw e (soft_exact f v h k) }

pub returns-then-scale-gt-MAX_SOFT_SCALE : goal.returns-then-scale-gt-MAX_SOFT_SCALE
returns-then-scale-gt-MAX_SOFT_SCALE c = refused c.if-scale-gt-MAX_SOFT_SCALE.true

pub returns-else-scale-gt-MAX_SOFT_SCALE : goal.returns-else-scale-gt-MAX_SOFT_SCALE
returns-else-scale-gt-MAX_SOFT_SCALE c =
    let fits = c.ranges.soft in
    let h = c.if-scale-gt-MAX_SOFT_SCALE.false in
    served h (soft_size _ fits) (rw (to_z-of_z fits) at (c.divided.ensures _ h c.power_of_two.ensures))
