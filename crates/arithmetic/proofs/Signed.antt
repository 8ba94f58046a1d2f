-- Signed arithmetic of the machine that does not wrap. `Sized x a n` says that x is a, whose size is at most n. The laws carry this from
-- the operands of an operation to its result, so what is known of an expression is put together as the expression is. Assumes nothing.
use mathlib.Core.Path.{◌≡◌, refl, ap₂, ◌∙◌}
use Prim.Native.Nat.{ℕ, ◌+◌, ◌*◌, ◌^◌, ◌≤◌}
use native.Mathlib.Nat.{mul-le-mul}
use native.Mathlib.Omega.{arith}
use lib.Dec.{T, ltb, ltb→lt}
use lib.IntN.{ℤ, nat_abs, ◌+ℤ◌, ◌-ℤ◌, ◌*ℤ◌}
use mir.Syntax.{Width}
use mir.Val.{hbits, SFits, to_z, of_z}
use mir.Facts.{to_z-of_z}
use Rattle.arithmetic.proofs.Ranges.{abs-add, abs-sub, abs-mul, sfits_of_size}

pub record Sized (x a : ℤ) (n : ℕ) : Type 0 where
  pub value : x ≡ a
  pub size : nat_abs a ≤ n

-- the number that a signed integer of this width holds where z was stored
abbrev pub held : Width → ℤ → ℤ
held w z = to_z w (of_z w z)

pub sized : (a : ℤ) {n : ℕ} → nat_abs a ≤ n → Sized a a n
sized a h = record { value = refl; size = h }

-- with a numeral for n the test is passed by `tt`
pub sized_fits : (w : Width) {x a : ℤ} {n : ℕ} → T (ltb n (2 ^ hbits w)) → Sized x a n → SFits w x
sized_fits w {x} {a} {n} b s = rw s.value (sfits_of_size w a (omega (arith, ltb→lt n (2 ^ hbits w) b)))

pub sized_held : (w : Width) {x a : ℤ} {n : ℕ} → T (ltb n (2 ^ hbits w)) → Sized x a n → Sized (held w x) a n
sized_held w b s = record { value = to_z-of_z (sized_fits w b s) ∙ s.value; size = s.size }

module _ {x y a b : ℤ} {m n : ℕ} (s : Sized x a m) (t : Sized y b n) where
  pub sized_add : Sized (x +ℤ y) (a +ℤ b) (m + n)
  sized_add = record { value = ap₂ ◌+ℤ◌ s.value t.value; size = omega (arith, abs-add a b) }

  pub sized_sub : Sized (x -ℤ y) (a -ℤ b) (m + n)
  sized_sub = record { value = ap₂ ◌-ℤ◌ s.value t.value; size = omega (arith, abs-sub a b) }

  pub sized_mul : Sized (x *ℤ y) (a *ℤ b) (m * n)
  sized_mul = record { value = ap₂ ◌*ℤ◌ s.value t.value; size = rw abs-mul (mul-le-mul s.size t.size) }
