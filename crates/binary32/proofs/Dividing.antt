-- The quotient of two numbers by the fractions that they are, and a whole number over a power of two, which a format has. Assumes nothing.
use mathlib.Core.Path.{◌≡◌, refl, ap, ◌∙◌}
use mathlib.Core.Bool.{Bool, true, false, true≢false}
use Prim.Native.Nat.{ℕ, suc, ◌+◌, ◌-◌, ◌*◌, ◌^◌, ◌≤◌, ◌<◌}
use native.Mathlib.Nat.{mul_assoc, mul-pos, lt_of_lt_of_le}
use native.Mathlib.Omega.{arith}
use borrow.Author.Tests.{ne_eqb}
use lib.Pow.{pow-add, pow_pos, pow_mono, shl_lt}
use lib.Ieee.{Float, fin, Format, prec, emax, low, up, down, unlike, round, div, nan, inf}
use lib.Ieee.Fits.{reach, down_pos}
use lib.Ieee.Digits.{back}
use lib.Ieee.Exact.{HasValue, round_exact}
use lib.Ieee.Scale.{round_same}
use lib.Ieee.Positive.{first_pos}

-- x / de is a / c and y / dg is b / d, so the one quotient is the other
cross : (x de y dg a c b d : ℕ) → x * c ≡ a * de → y * d ≡ b * dg → x * dg * (b * c) ≡ a * d * (y * de)
cross x de y dg a c b d p q = omega (arith, ap (λ (z : ℕ). z * (b * dg)) p, ap (λ (z : ℕ). a * de * z) q)

-- the sign of a quotient or a product with a number that is not negative
pub unlike_plus : (s : Bool) → unlike s false ≡ s
unlike_plus true = refl
unlike_plus false = refl

-- the quotient is the one of any fractions that the two numbers are
pub quotient_at : (f : Format) (x y : Float) (s : Bool) (a c b d : ℕ) → 0 < c → 0 < b → HasValue x s a c → HasValue y false b d
    → div f x y ≡ round f s (a * d) (b * c)
unfolding div
quotient_at f nan y s a c b d C B v w = elim v [ ]
quotient_at f (inf _) y s a c b d C B v w = elim v [ ]
quotient_at f (fin t m e) nan s a c b d C B v w = elim w [ ]
quotient_at f (fin t m e) (inf _) s a c b d C B v w = elim w [ ]
quotient_at f (fin t m e) (fin true n g) s a c b d C B v w = absurd (true≢false w.0)
quotient_at f (fin t m e) (fin false n g) s a c b d C B v w =
    let N : 0 < n * up g = first_pos (n * up g) d (rw w.1 (mul-pos B (down_pos g))) in
    rw (ne_eqb n 0 (λ z. omega (arith, first_pos n (up g) N)), unlike_plus t ∙ v.0)
    (round_same f s (m * up e * down g) (n * up g * down e) (a * d) (b * c) (mul-pos N (down_pos e)) (mul-pos B C)
    (cross (m * up e) (down e) (n * up g) (down g) a c b d v.1 w.1))

fewer : (p l k e : ℕ) → p ≤ e → p + (l - k) ≤ l + e
fewer p l k e h = omega arith

-- such a quotient is exact
pub power_quotient : (f : Format) (s : Bool) (n k : ℕ) → n < 2 ^ prec f → k ≤ low f → HasValue (round f s n (2 ^ k)) s n (2 ^ k)
power_quotient f s n k h l =
    let split : n * 2 ^ low f ≡ n * 2 ^ (low f - k) * 2 ^ k = rw (mul_assoc, ← pow-add 2 (low f - k) k, back (low f) k l) in
    round_exact f s n (2 ^ k) n (low f - k) (pow_pos k) h
    (lt_of_lt_of_le (shl_lt (prec f) (low f - k) h) (pow_mono (fewer (prec f) (low f) k (suc (emax f)) (reach f)))) split
