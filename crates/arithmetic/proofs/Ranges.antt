-- Sizes of integers, and the ranges of machine integers by them.
-- Assumes nothing.
use mathlib.Core.Path.{◌≡◌, refl}
use Prim.Native.Nat.{zero, suc, ◌+◌, ◌*◌, ◌^◌, ◌≤◌, ◌<◌}
use native.Mathlib.Omega.{arith}
use lib.IntN.{ℤ, pos, negsuc, neg_ℤ, nat_abs, ◌+ℤ◌, ◌-ℤ◌, ◌*ℤ◌}
use mir.Syntax.{Width}
use mir.Val.{hbits, SFits}
use Rattle.arithmetic.proofs.Integers.{diffs, as_diff}

pub abs_neg : (a : ℤ) → nat_abs (neg_ℤ a) ≡ nat_abs a
abs_neg (pos zero) = refl
abs_neg (pos (suc n)) = refl
abs_neg (negsuc n) = refl

pub abs-add : (a b : ℤ) → nat_abs (a +ℤ b) ≤ nat_abs a + nat_abs b
abs-add a b = rw (as_diff a, as_diff b) (simp diffs (omega arith))

pub abs-sub : (a b : ℤ) → nat_abs (a -ℤ b) ≤ nat_abs a + nat_abs b
abs-sub a b = rw (as_diff a, as_diff b) (simp diffs (omega arith))

pub abs-mul : (a b : ℤ) → nat_abs (a *ℤ b) ≡ nat_abs a * nat_abs b
abs-mul (pos a) (pos b) = refl
abs-mul (pos a) (negsuc b) = abs_neg (pos (a * suc b))
abs-mul (negsuc a) (pos b) = abs_neg (pos (suc a * b))
abs-mul (negsuc a) (negsuc b) = refl

pub sfits_of_size : (w : Width) (z : ℤ) → nat_abs z < 2 ^ hbits w → SFits w z
sfits_of_size w (pos n) h = record { sfits = h }
sfits_of_size w (negsuc n) h = record { sfits = omega arith }
