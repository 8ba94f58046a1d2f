-- `soft_value` meets its contract: size times weight is below 2^62, half the unit below 2^54, and what is held is the size of the soft
-- value, which fits 16 bits with either sign. Assumes nothing.
use mathlib.Core.Path.{◌≡◌, refl, sym, ◌∙◌}
use Prim.Native.Nat.{ℕ, zero, suc, ◌+◌, ◌*◌, ◌/◌, ◌^◌, ◌≤◌, ◌<◌, min}
use native.Mathlib.Omega.{arith}
use lib.IntN.{ℤ, pos, ◌-ℤ◌, ◌*ℤ◌}
use mir.Syntax.{w16}
use mir.Val.{to_z}
use mir.Facts.{to_z_pos}
use Rattle.arithmetic.proofs.Integers.{diffs, neg-pos}
use Rattle.arithmetic.proofs.Signed.{Sized, held, sized_held, sized_mul}
use Rattle.demapper.specs.Soft.{signed_by, max_limit}
use Rattle.demapper.proofs.Soft.{soft_signed}
use Rattle.demapper.proofs.soft_value.Goals as goal

-- 1 for the bit 0, and −1 for the bit 1, as the code has it
abbrev sign : ℕ → ℤ
sign b = to_z w16 1 -ℤ held w16 (to_z w16 2 *ℤ to_z w16 b)

sign_sized : (b : ℕ) → b < 2 → Sized (sign b) (signed_by b 1) 1
unfolding signed_by
sign_sized zero h = record { value = refl; size = omega arith }
sign_sized (suc zero) h = record { value = refl; size = omega arith }
sign_sized (suc (suc b)) h = absurd (omega arith)

signed_once : (b n : ℕ) → b < 2 → signed_by b 1 *ℤ pos n ≡ signed_by b n
unfolding signed_by
signed_once zero n h = simp diffs (omega arith)
signed_once (suc b) n h = rw (neg-pos n) (simp diffs (omega arith))

module _ (c : goal.After-smaller-held) where
  magnitude : let x = c.args in
      c.smaller-held.result ≡ min x.rounding.scale.limit ((x.size * x.rounding.scale.weight + 2 ^ x.rounding.scale.shift / 2) / 2 ^ x.rounding.scale.shift)
  magnitude = rw (← c.args.rounding.half_is) c.smaller-held.ensures

  bit_below_lem : c.args.bit < 2
  bit_below_lem = c.requires.1

  held_size : c.smaller-held.result ≤ max_limit
  held_size = omega (arith, magnitude, c.args.rounding.limit_in)

  soft : Sized (held w16 (sign c.args.bit) *ℤ to_z w16 c.smaller-held.result)
      (signed_by c.args.bit 1 *ℤ pos c.smaller-held.result) (1 * max_limit)
  soft =
      sized_mul (sized_held w16 tt (sign_sized _ bit_below_lem))
      (record { value = to_z_pos w16 (omega (arith, held_size)); size = held_size })

-- what comes out
pub returns : goal.returns
returns c = (sized_held w16 tt (soft c)).value ∙ signed_once _ _ (bit_below_lem c) ∙ sym (rw (magnitude c) (soft_signed _ _ _ _ _))
