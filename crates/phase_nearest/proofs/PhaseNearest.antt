-- The nearest index of a phase without a search: the sample's quadrant and the edges before it there give the nearest of sixteen, and a
-- modulation with fewer points takes sixteenths together. Assumes nothing.
use mathlib.Core.Path.{◌≡◌, refl, sym, ◌∙◌}
use mathlib.Core.Bool.{Bool, true, false}
use Prim.Native.Nat.{ℕ, zero, suc, ◌+◌, ◌*◌, ◌-◌, ◌/◌, ◌%◌, ◌^◌, ◌≤◌, ◌<◌, min}
use native.Mathlib.Nat.{mul-le-mul_left, div-one}
use native.Mathlib.Omega.{arith}
use borrow.Author.Tests.{ltb-true, ltb-false, le-ltb}
use lib.Dec.{ltb}
use lib.IntN.{ℤ, pos, negsuc, neg_ℤ, ◌-ℤ◌, ◌*ℤ◌}
use lib.Pow.{shr_lt}
use lib.Signed.{lt_z, ◌≤ℤ◌, ◌<ℤ◌}
use mir.Syntax.{w64}
use mir.Val.{to_z, bool_byte}
use Rattle.arithmetic.proofs.Integers.{diffs, ring, as_diff, neg-pos}
use Rattle.arithmetic.proofs.Least.{first_least_unique}
use Rattle.constellation.specs.Psk.{Point, point, psk_point, psk_quarters, turned, phase_cost}
use Rattle.constellation.specs.Parts.{gray_part, phase}
use Rattle.constellation.proofs.PskTables.{minus, dot, after, before, step_from}
use Rattle.constellation.proofs.PskSectors.{lead, Beats, InSector, sector_beats}

-- ---- products and costs

dot_minus : (y p q : Point) → dot y (minus p q) ≡ dot y p -ℤ dot y q
unfolding dot minus
dot_minus y p q = simp ring

larger_costs_≤ : (g n : ℕ) (a b : ℤ) → pos n ≤ℤ (a -ℤ b) → neg_ℤ (pos (2 * g) *ℤ a) ≤ℤ neg_ℤ (pos (2 * g) *ℤ b)
larger_costs_≤ g n a b = rw (as_diff a, as_diff b) (simp diffs (λ h. omega (arith, mul-le-mul_left g h)))

larger_costs_< : (g : ℕ) (a b : ℤ) → 0 < g → pos 1 ≤ℤ (a -ℤ b) → neg_ℤ (pos (2 * g) *ℤ a) <ℤ neg_ℤ (pos (2 * g) *ℤ b)
larger_costs_< g a b = rw (as_diff a, as_diff b) (simp diffs (λ p h. omega (arith, mul-le-mul_left g h)))

beats_nearest : (m g : ℕ) (y : Point) (k : ℕ) → 0 < g → k < 2 ^ m → ((j : ℕ) → j < 2 ^ m → Beats m y k j)
    → (phase m g y.u y.v).nearest ≡ k
unfolding phase gray_part phase_cost step_from dot
beats_nearest m g y k p l beats =
    sym (first_least_unique (phase_cost m g y.u y.v) (2 ^ m) k l
    (λ j b. larger_costs_≤ g (lead k j) (dot y (psk_point m k)) (dot y (psk_point m j)) (rw dot_minus at (beats j b)))
    (λ j b.
    let one : lead k j ≡ 1 = omega arith in
    larger_costs_< g (dot y (psk_point m k)) (dot y (psk_point m j)) p (rw (one, dot_minus) at (beats j (omega arith)))))

-- ---- a quadrant

-- how many of the edges between the four points of the first quadrant lie before the sample
abbrev pub edges : ℕ → ℕ → ℕ
edges x y = bool_byte (ltb (2446 * x) (5906 * y)) + bool_byte (ltb x y) + bool_byte (ltb (5906 * x) (2446 * y))

-- (x, y) with n quarter turns is a sample of quadrant n; what two quadrants share belongs to the smaller one
abbrev InQuadrant : ℕ → ℕ → ℕ → Type 0
InQuadrant n x y = (n < 4) × (min 1 n ≤ y) × (n / 3 ≤ x)

pub ruleset compared = (arith, ltb-true, ltb-false)

edges_sector : (n x y : ℕ) → InQuadrant n x y → InSector n (edges x y) (point (pos x) (pos y))
unfolding after before step_from minus psk_point psk_quarters turned dot
edges_sector n x y h = go (ltb (2446 * x) (5906 * y)) (ltb x y) (ltb (5906 * x) (2446 * y)) refl refl refl
  where
    go : (a b c : Bool) → ltb (2446 * x) (5906 * y) ≡ a → ltb x y ≡ b → ltb (5906 * x) (2446 * y) ≡ c
        → InSector n (bool_byte a + bool_byte b + bool_byte c) (point (pos x) (pos y))
    go false false false p q r = rw neg-pos (simp diffs (omega compared))
    go true false false p q r = rw (neg-pos, neg-pos) (simp diffs (omega compared))
    go true true false p q r = rw (neg-pos, neg-pos) (simp diffs (omega compared))
    go true true true p q r = rw neg-pos (simp diffs (omega compared))
    go false true c p q r = absurd (omega compared)
    go false false true p q r = absurd (omega compared)
    go true false true p q r = absurd (omega compared)

pub edges_few : (x y : ℕ) → edges x y < 4
edges_few x y = (edges_sector 0 x y (omega arith)).1

quadrant_nearest : (n x y m g : ℕ) → InQuadrant n x y → m < 5 → 0 < g
    → let y' = turned n (point (pos x) (pos y)) in
    (phase m g y'.u y'.v).nearest ≡ (4 * n + edges x y) / 2 ^ (4 - m)
quadrant_nearest n x y m g h l p =
    let four : m + (4 - m) ≡ 4 = omega arith in
    beats_nearest m g (turned n (point (pos x) (pos y))) ((4 * n + edges x y) / 2 ^ (4 - m)) p
    (shr_lt m (4 - m) (rw four (omega (arith, edges_few x y))))
    (λ j b. sector_beats n (edges x y) (point (pos x) (pos y)) (edges_sector n x y h) m j l b)

-- ---- the circle

-- the nearest of sixteen phases
unfoldable pub sixteenth_of : ℤ → ℤ → ℕ
sixteenth_of (pos x) (pos y) = 0 + edges x y
sixteenth_of (negsuc x) (pos y) = 4 + edges y (suc x)
sixteenth_of (pos zero) (negsuc y) = 8 + edges 0 (suc y)
sixteenth_of (negsuc x) (negsuc y) = 8 + edges (suc x) (suc y)
sixteenth_of (pos (suc x)) (negsuc y) = 12 + edges (suc y) (suc x)

pub phase-nearest : (m g : ℕ) (y_i y_q : ℤ) → m < 5 → 0 < g → (phase m g y_i y_q).nearest ≡ sixteenth_of y_i y_q / 2 ^ (4 - m)
unfolding sixteenth_of turned
phase-nearest m g (pos x) (pos y) = quadrant_nearest 0 x y m g (omega arith)
phase-nearest m g (negsuc x) (pos y) = quadrant_nearest 1 y (suc x) m g (omega arith)
phase-nearest m g (pos zero) (negsuc y) = quadrant_nearest 2 0 (suc y) m g (omega arith)
phase-nearest m g (negsuc x) (negsuc y) = quadrant_nearest 2 (suc x) (suc y) m g (omega arith)
phase-nearest m g (pos (suc x)) (negsuc y) = quadrant_nearest 3 (suc y) (suc x) m g (omega arith)

pub sixteenth_nearest : (y_i y_q : ℤ) → (phase 4 1 y_i y_q).nearest ≡ sixteenth_of y_i y_q
sixteenth_nearest y_i y_q = phase-nearest 4 1 y_i y_q (omega arith) (omega arith) ∙ div-one (sixteenth_of y_i y_q)

pub phase_of_sixteenth : (m g : ℕ) (y_i y_q : ℤ) → m < 5 → 0 < g
    → (phase 4 1 y_i y_q).nearest / 2 ^ (4 - m) ≡ (phase m g y_i y_q).nearest
phase_of_sixteenth m g y_i y_q l h = rw (sixteenth_nearest y_i y_q, phase-nearest m g y_i y_q l h)

-- ---- the quadrant, by the signs of the coordinates

pub quadrant_of : (n x y : ℕ) → (4 * n + edges x y) / 4 ≡ n
quadrant_of n x y = omega (arith, edges_few x y)

-- 1 below the real axis and else 0, and the same to the left of the imaginary axis; of a quadrant's two sides the first one belongs to it
abbrev pub below : ℤ → ℕ
below y_q = bool_byte (lt_z y_q (pos 0))

abbrev pub left : ℤ → ℤ → ℕ
left y_i y_q = bool_byte (lt_z y_i (to_z w64 (below y_q)))

pub quadrant_sum : (y_i y_q : ℤ) → 2 * below y_q + (left y_i y_q + below y_q) % 2 ≡ sixteenth_of y_i y_q / 4
unfolding sixteenth_of
quadrant_sum (pos x) (pos y) = rw (le-ltb y 0 (omega arith), le-ltb x 0 (omega arith), quadrant_of 0 x y)
quadrant_sum (negsuc x) (pos y) = rw (le-ltb y 0 (omega arith), quadrant_of 1 y (suc x))
quadrant_sum (pos zero) (negsuc y) = rw (quadrant_of 2 0 (suc y))
quadrant_sum (negsuc x) (negsuc y) = rw (quadrant_of 2 (suc x) (suc y))
quadrant_sum (pos (suc x)) (negsuc y) = rw (le-ltb (suc x) 1 (omega arith), quadrant_of 3 (suc y) (suc x))
