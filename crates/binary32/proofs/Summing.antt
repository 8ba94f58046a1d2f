-- The sum that rounds: a number times 2^F, plus 12582912, is in binary32 the nearest whole number, halves to even, plus 12582912.
-- The product is exact, and the sum lies between 2^23 and 2^24, where binary32's values are the whole numbers. Assumes nothing.
use mathlib.Core.Path.{◌≡◌, refl, ap, ◌∙◌, subst}
use mathlib.Core.Bool.{Bool, true, false, ◌&&◌}
use Prim.Native.Nat.{ℕ, zero, suc, ◌+◌, ◌-◌, ◌*◌, ◌/◌, ◌%◌, ◌^◌, ◌≤◌, ◌<◌, compare}
use native.Mathlib.Nat.{le_refl, le_trans, lt_trans, lt_of_lt_of_le, lt_of_le_of_lt, lt_of_not-le, not-le_of_lt, mul_comm, mul-sub, mul-pos, mul-le-mul_right, mul-lt-mul_of_pos_right, lt_of_mul-lt-mul_right, eq_of_mul-eq-mul_right, le-div_iff_mul-le, div-lt_iff_lt-mul}
use native.Mathlib.Omega.{arith}
use lib.Dec.{T, leb, ltb, eqb, leb→le, ltb→lt, lt→ltb, eqb→eq, lit<}
use lib.Pow.{pow-add, pow_pos, pow_mono, pow-lt}
use lib.IntN.{ℤ, pos, negsuc, ◌+ℤ◌, ◌-ℤ◌}
use lib.Ieee.{Float, Format, nan, inf, fin, binary32, binary64, prec, emax, low, up, down, size, units, round, sum, add, mul, of_int, fits}
use lib.Ieee.Digits.{size-lt, size-le}
use lib.Ieee.Fits.{core, round_is, round-fits, nearest-le, two, two-le_pos, down_pos, and_l, and_r}
use lib.Ieee.Exact.{HasValue, units_val, round_exact}
use lib.Ieee.Nearest.{closest, closest_same}
use lib.Ieee.Scale.{round_same}
use lib.Ieee.Bits.{is_true}
use lib.Ieee.Back.{round_whole, whole_unique}
use Rattle.arithmetic.proofs.Integers.{diffs, as_diff, neg-pos}
use Rattle.constellation.specs.Ranges.{max_sample}
use Rattle.binary32.specs.Conversion.{signed, numerator, denominator, rounded, RoundsEven}
use Rattle.binary32.proofs.Dividing.{unlike_plus}
use Rattle.binary32.proofs.Rounding.{rounded_is, closest_rounds, shifted_rounds}

-- ---- where a format's values are the whole numbers

-- a format reaches further up than it has digits
reaches : (f : Format) → prec f + low f < low f + suc (emax f)
reaches binary32 = lit< tt
reaches binary64 = lit< tt

-- from one fraction to another of the same size
rescale : (x : Float) (s : Bool) (a c b d : ℕ) → 0 < c → b * c ≡ a * d → HasValue x s a c → HasValue x s b d
rescale nan s a c b d p h v = v
rescale (inf t) s a c b d p h v = v
rescale (fin t m e) s a c b d p h v = (
  v.0,
  eq_of_mul-eq-mul_right c p (m * up e * d) (b * down e) (omega (arith, ap (λ z. z * d) v.1, ap (λ z. z * down e) h)),
)

closest-le : (n d w : ℕ) → 0 < d → n < w * d → closest n d ≤ w
closest-le n d w h b = le_trans (nearest-le (n / d) (compare (n % d * 2) d)) ((div-lt_iff_lt-mul h).1 b)

size_gt : (n j : ℕ) → 2 ^ j ≤ n → j < size n
size_gt n j h = lt_of_not-le (λ (g : size n ≤ j). not-le_of_lt (lt_of_lt_of_le (size-lt n) (pow_mono g)) h)

-- where the whole part of n / d has p digits, that of 2^l times n / d has l more
digits_more : (p l n d : ℕ) → 0 < p → 0 < d → 2 ^ (p - 1) * d ≤ n → n < 2 ^ p * d → size (n * 2 ^ l / d) - p ≡ l
digits_more p l n d P D least most =
    let w = n * 2 ^ l / d in
    let above : 2 ^ (p - 1 + l) * d ≤ n * 2 ^ l = rw (pow-add 2 (p - 1) l) (omega (arith, mul-le-mul_right (2 ^ l) least)) in
    let below : n * 2 ^ l < 2 ^ (p + l) * d = rw (pow-add 2 p l) (omega (arith, mul-lt-mul_of_pos_right most (pow_pos l))) in
    let many : p - 1 + l < size w = size_gt w (p - 1 + l) ((le-div_iff_mul-le D).1 above) in
    let few : size w ≤ p + l = size-le w (p + l) ((div-lt_iff_lt-mul D).1 below) in
    omega arith

module _ (f : Format) (n d : ℕ) (h : 0 < d) (least : 2 ^ (prec f - 1) * d ≤ n) (most : n < 2 ^ prec f * d) where
  -- in units of the format's smallest value, the whole part has `low` digits more than the format keeps, and `round` drops those
  round_drops : round f false n d ≡ units f false (closest n d) (low f)
  round_drops =
      let l = low f in
      round_is f false n d
      ∙ ap (λ k. core f false (n * 2 ^ l) d k) (digits_more (prec f) l n d (two-le_pos (prec f) (two f)) h least most)
      ∙ ap (λ q. units f false q l) (closest_same (n * 2 ^ l) (d * 2 ^ l) n d (mul-pos h (pow_pos l)) h (omega arith))

  -- so `round` gives the nearest whole number
  pub whole_between : HasValue (round f false n d) false (closest n d) 1
  whole_between =
      let l = low f in
      let q = closest n d in
      let most-units : q * 2 ^ l ≤ 2 ^ prec f * 2 ^ l = mul-le-mul_right (2 ^ l) (closest-le n d (2 ^ prec f) h most) in
      let small : q * 2 ^ l < 2 ^ (l + suc (emax f)) = lt_of_le_of_lt most-units (rw (← pow-add 2 (prec f) l) (pow-lt (reaches f))) in
      rw round_drops
      (rescale (units f false q l) false (q * 2 ^ l) (2 ^ l) q 1 (pow_pos l) (omega arith) (units_val f false q l small))

  round_between : round f false n d ≡ of_int f (pos (closest n d))
  unfolding of_int
  round_between =
      let q = closest n d in
      whole_unique f (round f false n d) (round f false q 1) false q (round-fits f false n d) (round-fits f false q 1) whole_between
      (round_whole f false q (closest-le n d (2 ^ prec f) h most))

-- ---- the product with a power of two

zero-down : (e : ℤ) → up e * down e ≡ 1 → down e ≤ 1
zero-down (pos k) h = le_refl 1
zero-down (negsuc k) h = omega arith

-- a number that fits has no more digits than the format, and is a multiple of its smallest value
fits_parts : (f : Format) (s : Bool) (m : ℕ) (e : ℤ) → T (fits f (fin s m e)) → (m < 2 ^ prec f) × (down e ≤ 2 ^ low f)
unfolding fits
fits_parts f s zero e t = (pow_pos (prec f), le_trans (zero-down e (eqb→eq (up e * down e) 1 t)) (pow_pos (low f)))
fits_parts f s (suc m) e t =
    let a : Bool = eqb (suc m % 2) 1 in
    let b : Bool = ltb (suc m) (2 ^ prec f) in
    let c : Bool = leb (down e) (2 ^ low f) in
    let u : T (a && b && c) = and_l (a && b && c) (ltb (suc m * up e) (2 ^ suc (emax f) * down e)) t in
    (ltb→lt (suc m) (2 ^ prec f) (and_r a b (and_l (a && b) c u)), leb→le (down e) (2 ^ low f) (and_r (a && b) c u))

pow_le_back : (k l : ℕ) → 2 ^ suc k ≤ 2 ^ l → k < l
pow_le_back k l h = lt_of_not-le (λ (g : l ≤ k). not-le_of_lt (pow-lt {i = l} {j = suc k} (omega arith)) h)

-- 2^e in units of 2^−l is a power of two
in_units : (l : ℕ) (e : ℤ) → down e ≤ 2 ^ l → (j : ℕ) × (up e * 2 ^ l ≡ 2 ^ j * down e)
in_units l (pos k) h = (k + l, rw (pow-add 2 k l) (omega arith))
in_units l (negsuc k) h =
    let above : k < l = pow_le_back k l h in
    let together : l - suc k + suc k ≡ l = omega arith in
    (l - suc k, rw (← pow-add 2 (l - suc k) (suc k), together) (omega arith))

product_round : (f : Format) (s : Bool) (m : ℕ) (e : ℤ) (y : Float) (w : ℕ) → HasValue y false w 1
    → mul f (fin s m e) y ≡ round f s (m * up e * w) (down e)
unfolding mul
product_round f s m e nan w v = absurd v
product_round f s m e (inf t) w v = absurd v
product_round f s m e (fin t n d) w v =
    rw (v.0, unlike_plus s)
    (round_same f s (m * up e * (n * up d)) (down e * down d) (m * up e * w) (down e) (mul-pos (down_pos e) (down_pos d)) (down_pos e)
    (omega (arith, ap (λ z. m * up e * down e * z) v.1)))

-- it is exact, where it stays below 2^prec
product_exact : (f : Format) (F : ℕ) (s : Bool) (m : ℕ) (e : ℤ) (y : Float) → T (fits f (fin s m e)) → HasValue y false (2 ^ F) 1
    → m * up e * 2 ^ F < 2 ^ prec f * down e → HasValue (mul f (fin s m e) y) s (m * up e * 2 ^ F) (down e)
product_exact f F s m e y fit v below =
    let l = low f in
    let parts = fits_parts f s m e fit in
    let units_of = in_units l e parts.1 in
    let j = units_of.0 in
    let as-units : m * up e * 2 ^ F * 2 ^ l ≡ m * 2 ^ (j + F) * down e =
    rw (pow-add 2 j F) (omega (arith, ap (λ z. m * 2 ^ F * z) units_of.1)) in
    let scaled : m * 2 ^ (j + F) * down e < 2 ^ (prec f + l) * down e =
    rw (← as-units, pow-add 2 (prec f) l) (omega (arith, mul-lt-mul_of_pos_right below (pow_pos l))) in
    rw (product_round f s m e y (2 ^ F) v)
    (round_exact f s (m * up e * 2 ^ F) (down e) m (j + F) (down_pos e) parts.0
    (lt_trans (lt_of_mul-lt-mul_right (down e) scaled) (pow-lt (reaches f))) as-units)

-- ---- the sum with a whole number of larger size

-- w + a, or w − a
unfoldable moved : Bool → ℕ → ℕ → ℕ
moved false a w = w + a
moved true a w = w - a

moved_signed : (s : Bool) (a w : ℕ) → a ≤ w → pos (moved s a w) ≡ signed s a +ℤ pos w
unfolding moved signed
moved_signed false a w h = simp diffs (omega arith)
moved_signed true a w h = rw (neg-pos a) (simp diffs (omega arith))

-- x / z is ±a / c, and y / z is w
sum_moved : (f : Format) (s : Bool) (x y z a c w : ℕ) → 0 < z → 0 < c → x * c ≡ a * z → y ≡ w * z → a < w * c
    → sum f s x false y z ≡ round f false (moved s a (w * c)) c
unfolding sum moved
sum_moved f false x y z a c w Z C p q l = round_same f false (x + y) z (w * c + a) c Z C (omega (arith, ap (λ u. u * c) q))
sum_moved f true x y z a c w Z C p q l =
    let scaled : y * c ≡ w * c * z = omega (arith, ap (λ u. u * c) q) in
    let less : x < y = lt_of_mul-lt-mul_right c (omega (arith, mul-lt-mul_of_pos_right l Z)) in
    rw (is_true (ltb x y) (lt→ltb x y less))
    (round_same f false (y - x) z (w * c - a) c Z C
    (rw (mul_comm (y - x) c, mul_comm (w * c - a) z, mul-sub c y x, mul-sub z (w * c) a) (omega arith)))

add_moved : (f : Format) (s : Bool) (x y : Float) (a c w : ℕ) → 0 < c → HasValue x s a c → HasValue y false w 1 → a < w * c
    → add f x y ≡ round f false (moved s a (w * c)) c
unfolding add
add_moved f s nan y a c w C v u l = absurd v
add_moved f s (inf r) y a c w C v u l = absurd v
add_moved f s (fin r m e) nan a c w C v u l = absurd u
add_moved f s (fin r m e) (inf t) a c w C v u l = absurd u
add_moved f s (fin r m e) (fin t n d) a c w C v u l =
    rw (v.0, u.0)
    (sum_moved f s (m * up e * down d) (n * up d * down e) (down e * down d) a c w (mul-pos (down_pos e) (down_pos d)) C
    (omega (arith, ap (λ z. z * down d) v.1)) (omega (arith, ap (λ z. z * down e) u.1)) l)

-- ---- the sum that rounds

abbrev pub middle : ℕ
middle = 12582912

-- the middle, moved by at most 1048576.5, is from 2^23 on and below 2^24
moved_within : (s : Bool) (a c : ℕ) → 0 < c → 2 * a ≤ (2 * max_sample + 1) * c
    → (2 ^ 23 * c ≤ moved s a (middle * c)) × (moved s a (middle * c) < 2 ^ 24 * c)
unfolding moved
moved_within false a c C h = (omega arith, omega arith)
moved_within true a c C h = (omega arith, omega arith)

add_back : (x y z : ℤ) → x -ℤ y ≡ z → x ≡ z +ℤ y
add_back x y z = rw (as_diff x, as_diff y, as_diff z) (simp diffs (omega arith))

-- the middle is even, so the nearest whole number moves with it
moved_rounded : (F : ℕ) (s : Bool) (m : ℕ) (e : ℤ) → m * up e * 2 ^ F ≤ middle * down e
    → pos (closest (moved s (m * up e * 2 ^ F) (middle * down e)) (down e)) ≡ rounded F (fin s m e) +ℤ pos middle
unfolding numerator denominator
moved_rounded F s m e h =
    let a = m * up e * 2 ^ F in
    let n = moved s a (middle * down e) in
    let q = closest n (down e) in
    let nearest = subst (λ z. RoundsEven z (down e) (pos q)) (moved_signed s a (middle * down e) h) (closest_rounds n (down e) (down_pos e)) in
    add_back (pos q) (pos middle) (rounded F (fin s m e))
    (rounded_is F (fin s m e) (pos q -ℤ pos middle) (shifted_rounds (signed s a) (down e) middle q refl nearest))

pub rounding_sum : (F : ℕ) (s : Bool) (m : ℕ) (e : ℤ) (factor centre : Float) → T (fits binary32 (fin s m e))
    → HasValue factor false (2 ^ F) 1 → HasValue centre false middle 1
    → 2 * (m * up e * 2 ^ F) ≤ (2 * max_sample + 1) * down e
    → (q : ℕ) × (add binary32 (mul binary32 (fin s m e) factor) centre ≡ of_int binary32 (pos q)) × (pos q ≡ rounded F (fin s m e) +ℤ pos middle)
rounding_sum F s m e factor centre fit hf hc h =
    let a = m * up e * 2 ^ F in
    let n = moved s a (middle * down e) in
    let D : 0 < down e = down_pos e in
    let within = moved_within s a (down e) D h in
    let exact = product_exact binary32 F s m e factor fit hf (omega arith) in (
      closest n (down e),
      add_moved binary32 s (mul binary32 (fin s m e) factor) centre a (down e) middle D exact hc (omega arith)
          ∙ round_between binary32 n (down e) D within.0 within.1,
      moved_rounded F s m e (omega arith),
    )
