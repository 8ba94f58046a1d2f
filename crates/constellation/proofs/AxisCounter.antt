-- The counter-hypothesis of an axis (001, lemma 2): below 2^m, with the other label bit, and of least cost among the indices with that bit.
-- The index is any nearest index: ties need no rule. Assumes nothing.
use mathlib.Core.Path.{◌≡◌, refl, ap, ◌∙◌}
use mathlib.Core.Logic.{◌≢◌, ◌↔◌}
use Prim.Native.Nat.{ℕ, zero, suc, ◌+◌, ◌*◌, ◌-◌, ◌/◌, ◌%◌, ◌^◌, ◌≤◌, ◌<◌}
use native.Mathlib.Nat.{sub-zero, add-mod-mod, pow-suc, div-div-eq-div-mul, div-lt_iff_lt-mul, le-div_iff_mul-le, div-eq_of_lt-le, div-eq_of_eq-mul_left, mul-le-mul_left, mul-le-mul_right, le_of_mul-le-mul_left, le_dest}
use native.Mathlib.Decide.{dec_le}
use native.Mathlib.Omega.{arith}
use lib.IntN.{ℤ}
use lib.Pow.{pow_pos, pow-add}
use lib.Signed.{◌≤ℤ◌}
use Rattle.arithmetic.proofs.Integers.{diff, diffs, as_diff}
use Rattle.constellation.specs.Gray.{xor, digit, label_bit}
use Rattle.constellation.specs.Levels.{level, squared, axis_cost}
use Rattle.constellation.specs.Counter.{axis_counter}
use Rattle.constellation.specs.Nearest.{IsNearest}

-- ---- where the counter-hypothesis lies

-- the place value of digit i: the indices fall into runs of this length, in which digits 0 to i are the same
abbrev run : ℕ → ℕ → ℕ
run m i = 2 ^ (m - suc i)

two_runs : (m i : ℕ) → i < m → 2 ^ (m - i) ≡ run m i * 2
two_runs m i h = rw (e, pow-suc) refl
  where
    e : m - i ≡ suc (m - suc i)
    e = omega arith

-- label bit i is the same in the runs 2·D − 1 and 2·D, and it is the parity of D
abbrev band : ℕ → ℕ → ℕ
band h k = (k / h + 1) / 2

label_bit_band : (m i k : ℕ) → i < m → k < 2 ^ m → label_bit m i k ≡ band (run m i) k % 2
unfolding label_bit digit xor
label_bit_band m zero k h l =
    let s : k / run m 0 < 2 = (div-lt_iff_lt-mul (pow_pos (m - 1))).1 (omega (arith, rw sub-zero at (two_runs m 0 h))) in
    ap (λ x. x % 2) (omega arith)
label_bit_band m (suc i) k h l = rw (two_runs m (suc i) h, ← div-div-eq-div-mul, add-mod-mod) (ap (λ x. x % 2) (omega arith))

-- the run that k lies in, the lower or the upper one of the pair q, and its counter-hypothesis c, the nearest index of the other one
data Pair (h k c : ℕ) : Type 0 where
  lower : (q : ℕ) → k / h ≡ 2 * q → c ≡ (2 * q + 1) * h → Pair h k c
  upper : (q : ℕ) → k / h ≡ 2 * q + 1 → suc c ≡ (2 * q + 1) * h → Pair h k c

axis_counter_pair : (m k i : ℕ) → i < m → Pair (run m i) k (axis_counter m k i)
unfolding axis_counter digit
axis_counter_pair m k i l = rw (two_runs m i l, ← div-div-eq-div-mul) (go (run m i) (pow_pos (m - suc i)) (k / run m i % 2) refl)
  where
    go : (h : ℕ) → 0 < h → (b : ℕ) → k / h % 2 ≡ b → Pair h k (k / h / 2 * (h * 2) + h - b)
    go h p zero e = lower (k / h / 2) (omega arith) (omega arith)
    go h p (suc zero) e = upper (k / h / 2) (omega arith) (omega arith)
    go h p (suc (suc b)) e = absurd (omega arith)

next_parity : (a b : ℕ) → b ≡ suc a → (b % 2 ≡ 1 - a % 2) × (a % 2 ≡ 1 - b % 2)
next_parity a b e = omega arith

-- the two lie in neighbouring bands
bands_differ : {h k c : ℕ} → 0 < h → Pair h k c → band h c % 2 ≡ 1 - band h k % 2
bands_differ {h} {k} {c} p (lower q e f) =
    let r : c / h ≡ 2 * q + 1 = div-eq_of_eq-mul_left p f in
    (next_parity (band h k) (band h c) (omega arith)).0
bands_differ {h} {k} {c} p (upper q e f) =
    let r : c / h ≡ 2 * q = div-eq_of_lt-le h (omega arith) (omega arith) in
    (next_parity (band h c) (band h k) (omega arith)).1

-- j lies no nearer to k than c: on c's side not before c, and on the other side farther away
data Beyond (k c j : ℕ) : Type 0 where
  right : k < c → c ≤ j → Beyond k c j
  right_mirrored : k < c → j + c < 2 * k → Beyond k c j
  left : c < k → j ≤ c → Beyond k c j
  left_mirrored : c < k → 2 * k < j + c → Beyond k c j

beyond : {h k c : ℕ} → 0 < h → Pair h k c → (j : ℕ) → band h j ≢ band h k → Beyond k c j
beyond {h} {k} {c} p (lower q e f) j n = go (dec_le (2 * q + 1) (j / h))
  where
    first : 2 * q * h ≤ k
    first = (le-div_iff_mul-le p).0 (omega arith)

    last : k < (2 * q + 1) * h
    last = (div-lt_iff_lt-mul p).0 (omega arith)

    past : j < (j / h + 1) * h
    past = (div-lt_iff_lt-mul p).0 (omega arith)

    go : Dec (2 * q + 1 ≤ j / h) → Beyond k c j
    go (yes l) = right (omega (arith, last)) (omega (arith, (le-div_iff_mul-le p).0 l))
    go (no l) =
        let t : j / h + 2 ≤ 2 * q = omega arith in
        right_mirrored (omega (arith, last)) (omega (arith, first, past, mul-le-mul_right h t))
beyond {h} {k} {c} p (upper q e f) j n = go (dec_le (j / h) (2 * q))
  where
    first : (2 * q + 1) * h ≤ k
    first = (le-div_iff_mul-le p).0 (omega arith)

    last : k < (2 * q + 2) * h
    last = (div-lt_iff_lt-mul p).0 (omega arith)

    go : Dec (j / h ≤ 2 * q) → Beyond k c j
    go (yes l) =
        let t : j / h < 2 * q + 1 = omega arith in
        left (omega (arith, first)) (omega (arith, (div-lt_iff_lt-mul p).0 t))
    go (no l) =
        let t : 2 * q + 3 ≤ j / h = omega arith in
        left_mirrored (omega (arith, first)) (omega (arith, last, (le-div_iff_mul-le p).0 t))

-- ---- costs

-- the cost of index x of an axis, whose sample lies p − n above the point of index 0
abbrev cost : (p n g x : ℕ) → ℤ
cost p n g x = squared (diff p (n + 2 * g * x))

axis_cost_lem : (m g p n x : ℕ) → axis_cost m g (diff p n) x ≡ cost (p + g * (2 ^ m - 1)) n g x
unfolding axis_cost level
axis_cost_lem m g p n x = ap squared (simp diffs (omega arith))

-- (v − u)·(b − a) is not negative
abbrev SameWay : (u v a b : ℕ) → Type 0
SameWay u v a b = v * a + u * b ≤ v * b + u * a

same_way : {u v a b : ℕ} → u ≤ v → a ≤ b → SameWay u v a b
same_way h k = rw (← (le_dest h).1, ← (le_dest k).1) (omega arith)

same_way_back : (u v a b : ℕ) → u < v → SameWay u v a b → a ≤ b
same_way_back u v a b h = rw (← (le_dest h).1) (λ l. le_of_mul-le-mul_left {k = suc (le_dest h).0} (omega arith) (omega arith))

-- the costs of u and v differ by 4·(v − u)·(g²·(u + v) − g·(p − n))
module _ (p n g u v : ℕ) where
  costs_rising : (cost p n g u ≤ℤ cost p n g v) ↔ SameWay u v (g * p) (g * (n + g * (u + v)))
  unfolding squared
  costs_rising = simp diffs (omega arith)

  costs_falling : (cost p n g v ≤ℤ cost p n g u) ↔ SameWay u v (g * (n + g * (u + v))) (g * p)
  unfolding squared
  costs_falling = simp diffs (omega arith)

module _ (m g : ℕ) (y : ℤ) (u v w x : ℕ) (l : u < v) (k : w ≤ x) where
  -- costs that do not fall from u to v do not fall from w to x, where the middle of w and x is no further left
  costs_rise : u + v ≤ w + x → axis_cost m g y u ≤ℤ axis_cost m g y v → axis_cost m g y w ≤ℤ axis_cost m g y x
  costs_rise e =
      rw (as_diff y) (simp (axis_cost_lem, costs_rising) (λ c. same_way k (omega (arith, same_way_back u v _ _ l c, mul-le-mul_left (g * g) e))))

  -- costs that do not rise from u to v do not rise from w to x, where the middle of w and x is no further right
  costs_fall : w + x ≤ u + v → axis_cost m g y v ≤ℤ axis_cost m g y u → axis_cost m g y x ≤ℤ axis_cost m g y w
  costs_fall e =
      rw (as_diff y) (simp (axis_cost_lem, costs_falling) (λ c. same_way k (omega (arith, same_way_back u v _ _ l c, mul-le-mul_left (g * g) e))))

-- ---- 001, lemma 2

pub axis_counter_below : (m k i : ℕ) → i < m → k < 2 ^ m → axis_counter m k i < 2 ^ m
unfolding axis_counter
axis_counter_below m k i l b =
    let e : 2 ^ m ≡ 2 ^ i * 2 ^ (m - i) = ap (λ x. 2 ^ x) (omega arith) ∙ pow-add 2 i (m - i) in
    let q : k / 2 ^ (m - i) < 2 ^ i = (div-lt_iff_lt-mul (pow_pos (m - i))).1 (omega arith) in
    omega (arith, mul-le-mul_right (2 ^ (m - i)) q, two_runs m i l, pow_pos (m - suc i))

pub axis_counter_other_bit : (m k i : ℕ) → i < m → k < 2 ^ m → label_bit m i (axis_counter m k i) ≡ 1 - label_bit m i k
axis_counter_other_bit m k i l b =
    rw (label_bit_band m i k l b, label_bit_band m i (axis_counter m k i) l (axis_counter_below m k i l b))
    (bands_differ (pow_pos (m - suc i)) (axis_counter_pair m k i l))

-- of the indices with the other bit none costs less
pub axis_counter_least : (m g : ℕ) (y : ℤ) (k i : ℕ) → i < m → IsNearest (2 ^ m) (axis_cost m g y) k → (j : ℕ) → j < 2 ^ m → label_bit m i j ≢ label_bit m i k
    → axis_cost m g y (axis_counter m k i) ≤ℤ axis_cost m g y j
axis_counter_least m g y k i l n j b d = go (beyond (pow_pos (m - suc i)) (axis_counter_pair m k i l) j apart)
  where
    apart : band (run m i) j ≢ band (run m i) k
    apart e = d (rw (label_bit_band m i j l b, label_bit_band m i k l n.below, e))

    c : ℕ
    c = axis_counter m k i

    go : Beyond k c j → axis_cost m g y c ≤ℤ axis_cost m g y j
    go (right o f) = costs_rise m g y k c c j o f (omega arith) (n.least c (omega arith))
    go (right_mirrored o f) =
        costs_fall m g y (k - 1) k j c (omega arith) (omega arith) (omega arith) (n.least (k - 1) (omega (arith, n.below)))
    go (left o f) = costs_fall m g y c k j c o f (omega arith) (n.least c (omega (arith, n.below)))
    go (left_mirrored o f) = costs_rise m g y k (k + 1) c j (omega arith) (omega arith) (omega arith) (n.least (k + 1) (omega arith))
