-- A soft value over a power of two is exact in binary32: `soft_exact`, the nearest number is the value itself; `division_exact`, a division gives
-- that number; `exactly_unique`, no other number is the value. All but the last steps holds of any format. Assumes nothing.
use mathlib.Core.Path.{◌≡◌, sym, ap, ap₂, ◌∙◌}
use mathlib.Core.Bool.{Bool, true, false, cond}
use Prim.Native.Nat.{ℕ, suc, ◌+◌, ◌-◌, ◌*◌, ◌/◌, ◌^◌, ◌≤◌, ◌<◌}
use native.Mathlib.Nat.{mul-one, mul_right_comm, eq_of_mul-eq-mul_right}
use native.Mathlib.Omega.{arith}
use lib.Dec.{T, lit<}
use lib.IntN.{ℤ, pos, negsuc, nat_abs}
use lib.Pow.{pow_pos, pow_mono}
use lib.Ieee.{Float, fin, Format, binary32, prec, low, up, down, size, hid, top, div, of_int, fits, of_bits, to_bits, nan, inf}
use lib.Ieee.Fits.{down_pos}
use lib.Ieee.Bits.{of_bits-to_bits}
use lib.Ieee.Exact.{HasValue}
use lib.Ieee.Back.{round_whole}
use lib.Ieee.Nearest.{div_same}
use mir.Syntax.{w16}
use mir.Val.{SFits}
use Rattle.binary32.specs.SoftFloat.{max_soft_scale, negative, soft_float, Exactly}
use Rattle.binary32.proofs.Dividing.{quotient_at, power_quotient}

-- ---- two numbers of a format that have one value and one sign are the same number

-- x / b and y / d are each the fraction a / c
cross : (x b y d a c : ℕ) → 0 < c → x * c ≡ a * b → y * c ≡ a * d → x * d ≡ y * b
cross x b y d a c C p q =
    eq_of_mul-eq-mul_right c C (x * d) (y * b)
    (mul_right_comm x d c ∙ ap (λ (z : ℕ). z * d) p ∙ mul_right_comm a b d ∙ ap (λ (z : ℕ). z * b) (sym q) ∙ mul_right_comm y c b)

-- how many of the format's smallest values x / b and y / d are, cut to a whole number
same_units : (f : Format) (x b y d : ℕ) → 0 < b → 0 < d → x * d ≡ y * b → x * 2 ^ low f / b ≡ y * 2 ^ low f / d
same_units f x b y d B D h =
    let l = 2 ^ low f in
    div_same (x * l) b (y * l) d B D (mul_right_comm x l d ∙ ap (λ (z : ℕ). z * l) h ∙ mul_right_comm y b l)

-- the bits of a number tell no more than its sign and its value
same_bits : (f : Format) (s t : Bool) (m n : ℕ) (e d : ℤ) → s ≡ t → m * up e * down d ≡ n * up d * down e
    → to_bits f (fin s m e) ≡ to_bits f (fin t n d)
unfolding to_bits
same_bits f s t m n e d p h =
    ap₂ (λ (b : Bool) (z : ℕ). cond b (top f) 0 + (size z - prec f) * hid f + z / 2 ^ (size z - prec f)) p
    (same_units f (m * up e) (down e) (n * up d) (down d) (down_pos e) (down_pos d) h)

pub value_unique : (f : Format) (x y : Float) (s : Bool) (a c : ℕ) → 0 < c → T (fits f x) → T (fits f y) → HasValue x s a c → HasValue y s a c
    → x ≡ y
value_unique f nan y s a c C p q v w = elim v [ ]
value_unique f (inf _) y s a c C p q v w = elim v [ ]
value_unique f (fin t m e) nan s a c C p q v w = elim w [ ]
value_unique f (fin t m e) (inf _) s a c C p q v w = elim w [ ]
value_unique f (fin t m e) (fin u n d) s a c C p q v w =
    sym (of_bits-to_bits f (fin t m e) p)
    ∙ ap (of_bits f) (same_bits f t u m n e d (v.0 ∙ sym w.0) (cross (m * up e) (down e) (n * up d) (down d) a c C v.1 w.1))
    ∙ of_bits-to_bits f (fin u n d) q

-- one binary32 number alone is v·2^(−f) with v's sign
pub exactly_unique : (f : ℕ) (v : ℤ) (x y : Float) → T (fits binary32 x) → T (fits binary32 y) → Exactly f v x → Exactly f v y → x ≡ y
exactly_unique f v x y p q a b = value_unique binary32 x y (negative v) (nat_abs v) (2 ^ f) (pow_pos f) p q a b

-- ---- the quotient

-- the number nearest to it is it
pub soft_exact : (f : ℕ) (v : ℤ) → f ≤ max_soft_scale → nat_abs v ≤ 2 ^ 15 → Exactly f v (soft_float f v)
unfolding soft_float
soft_exact f v h k = power_quotient binary32 (negative v) (nat_abs v) f (omega arith) (omega arith)

-- the size of an i16
pub soft_size : (v : ℤ) → SFits w16 v → nat_abs v ≤ 2 ^ 15
soft_size (pos n) h = omega arith
soft_size (negsuc n) h = omega arith

-- an integer as a float has the integer's value
of_int_value : (f : Format) (v : ℤ) → nat_abs v ≤ 2 ^ prec f → HasValue (of_int f v) (negative v) (nat_abs v) 1
unfolding of_int negative
of_int_value f (pos n) h = round_whole f false n h
of_int_value f (negsuc n) h = round_whole f true (suc n) h

pub division_exact : (f : ℕ) (v : ℤ) → f ≤ max_soft_scale → nat_abs v ≤ 2 ^ 15
    → div binary32 (of_int binary32 v) (of_int binary32 (pos (2 ^ f))) ≡ soft_float f v
unfolding soft_float negative
division_exact f v h k =
    let power : 2 ^ f ≤ 2 ^ 14 = pow_mono {j = 14} h in
    let quotient = quotient_at binary32 (of_int binary32 v) (of_int binary32 (pos (2 ^ f))) (negative v) (nat_abs v) 1 (2 ^ f) 1 (lit< tt) (pow_pos f)
    (of_int_value binary32 v (omega arith)) (of_int_value binary32 (pos (2 ^ f)) (omega arith)) in
    rw (mul-one (nat_abs v), mul-one (2 ^ f)) at quotient
