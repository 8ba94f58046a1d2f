-- The nearest index of an axis by one division. With the sample raised by g·2^m, index k lies at g·(2k + 1), and the edge between k and
-- k + 1 at 2·g·(k + 1). Assumes nothing.
use mathlib.Core.Path.{◌≡◌, ap}
use Prim.Native.Nat.{ℕ, suc, ◌+◌, ◌*◌, ◌-◌, ◌/◌, ◌^◌, ◌≤◌, ◌<◌, min}
use native.Mathlib.Nat.{mul-le-mul, mul-le-mul_left, le_dest, div-mul-le_self, lt-mul-div-succ, min-le_left}
use native.Mathlib.Decide.{dec_lt}
use native.Mathlib.Omega.{arith}
use lib.IntN.{ℤ, pos, negsuc, nat_abs, ◌+ℤ◌}
use lib.Pow.{pow_pos}
use lib.Signed.{◌≤ℤ◌, ◌<ℤ◌, ≤ℤ_refl}
use Rattle.arithmetic.proofs.Integers.{diff, diffs, diff_abs, diff_≡_iff, as_diff, above, below, <ℤ→≤ℤ}
use Rattle.arithmetic.proofs.Least.{first_least_unique}
use Rattle.constellation.specs.Levels.{level, squared, axis_cost}
use Rattle.constellation.specs.Parts.{gray_part, axis}

abbrev pub raised : ℕ → ℕ → ℤ → ℤ
raised m g y = y +ℤ pos (g * 2 ^ m)

-- ---- costs

-- the cost of index k where the raised sample is p − n
abbrev cost : (p n g k : ℕ) → ℤ
cost p n g k = squared (diff p (n + g * (2 * k + 1)))

axis_cost_lem : (m g p n k : ℕ) → axis_cost m g (diff p n) k ≡ cost (p + g * 2 ^ m) n g k
unfolding axis_cost level
axis_cost_lem m g p n k =
    let top : 2 ^ m ≡ suc (2 ^ m - 1) = omega (arith, pow_pos m) in
    ap squared (simp diffs (omega (arith, ap (λ x. g * x) top)))

-- the costs of k and j differ by 4·g·(j − k) times what g·(k + j + 1) is above the raised sample
module _ (p n g k j : ℕ) (l : k < j) where
  cost_≤_later : p ≤ n + 2 * g * suc k → cost p n g k ≤ℤ cost p n g j
  unfolding squared
  cost_≤_later h = rw (← (le_dest l).1) (simp diffs (omega (arith, mul-le-mul_left (4 * g * suc (le_dest l).0) h)))

  cost_<_earlier : 0 < g → n + 2 * g * j < p → cost p n g j <ℤ cost p n g k
  unfolding squared
  cost_<_earlier s = rw (← (le_dest l).1) (λ h. simp diffs (omega (arith, mul-le-mul_left (4 * g * suc (le_dest l).0) h)))

-- ---- between the edges

-- Index k is nearest where the raised sample lies behind the edge before k and not behind the edge after k. So an edge belongs to the index
-- before it: of two indices that cost the same the smaller one is taken.
module _ (m g p n k : ℕ) (s : 0 < g) (b : k < 2 ^ m)
    (behind : 0 < k → n + 2 * g * k < p + g * 2 ^ m) (up_to : suc k < 2 ^ m → p + g * 2 ^ m ≤ n + 2 * g * suc k) where
  first : (j : ℕ) → j < k → axis_cost m g (diff p n) k <ℤ axis_cost m g (diff p n) j
  first j l = simp axis_cost_lem (cost_<_earlier (p + g * 2 ^ m) n g j k l s (behind (omega arith)))

  least : (j : ℕ) → j < 2 ^ m → axis_cost m g (diff p n) k ≤ℤ axis_cost m g (diff p n) j
  least j h = go (dec_lt j k) (dec_lt k j)
    where
      go : Dec (j < k) → Dec (k < j) → axis_cost m g (diff p n) k ≤ℤ axis_cost m g (diff p n) j
      go (yes l) d = <ℤ→≤ℤ (first j l)
      go (no a) (yes l) = simp axis_cost_lem (cost_≤_later (p + g * 2 ^ m) n g k j l (up_to (omega arith)))
      go (no a) (no c) =
          let e : k ≡ j = omega arith in
          rw e (≤ℤ_refl (axis_cost m g (diff p n) j))

  between_edges : k ≡ (axis m g (diff p n)).nearest
  unfolding axis gray_part
  between_edges = first_least_unique (axis_cost m g (diff p n)) (2 ^ m) k b least first

-- ---- by division

above_diff : (a b : ℕ) → above (diff a b) ≡ a - b
above_diff a b = omega (arith, parts (diff a b), diff_abs a b, (diff_≡_iff a b _ _).0 (as_diff (diff a b)))
  where
    parts : (z : ℤ) → nat_abs z ≡ above z + below z
    parts (pos n) = omega arith
    parts (negsuc n) = omega arith

by_division : (m g p n h : ℕ) → 0 < g → h ≡ (p + g * 2 ^ m) - n → min ((h - 1) / (2 * g)) (2 ^ m - 1) ≡ (axis m g (diff p n)).nearest
by_division m g p n h s e = between_edges m g p n k s (omega (arith, pow_pos m)) behind up_to
  where
    q : ℕ
    q = (h - 1) / (2 * g)

    k : ℕ
    k = min q (2 ^ m - 1)

    behind : 0 < k → n + 2 * g * k < p + g * 2 ^ m
    behind l = omega (arith, div-mul-le_self (h - 1) (2 * g), mul-le-mul_left (2 * g) (min-le_left q (2 ^ m - 1)), mul-le-mul s l)

    up_to : suc k < 2 ^ m → p + g * 2 ^ m ≤ n + 2 * g * suc k
    up_to l =
        let f : q ≤ k = omega arith in
        omega (arith, lt-mul-div-succ (h - 1) {b = 2 * g} (omega arith), mul-le-mul_left (2 * g) f)

-- the quotient, at most the last index; a raised sample below 0 counts as 0
pub axis-nearest : (m g : ℕ) (y : ℤ) → 0 < g → min ((above (raised m g y) - 1) / (2 * g)) (2 ^ m - 1) ≡ (axis m g y).nearest
axis-nearest m g y s = rw (as_diff y) (by_division m g _ _ _ s (simp (diffs, above_diff) (omega arith)))
