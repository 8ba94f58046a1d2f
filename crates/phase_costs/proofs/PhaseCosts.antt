-- The costs that the code takes from the sizes of the sample's coordinates are the requirements'. A mirror in the axes brings a sample of any quadrant
-- and its probes into the first one, which one test computes over the tables; there the nearest of sixteen points says which size is the larger and
-- which point of the octant is nearer. Assumes nothing.
use mathlib.Core.Path.{◌≡◌, refl, sym, ◌∙◌}
use mathlib.Core.Bool.{Bool, true, false, cond}
use mathlib.Core.Logic.{◌⊎◌, inl, inr}
use mathlib.Core.List.{◌∷◌}
use Prim.Native.Nat.{ℕ, zero, suc, ◌+◌, ◌*◌, ◌-◌, ◌/◌, ◌%◌, ◌^◌, ◌≤◌, ◌<◌}
use native.Mathlib.Nat.{mul-le-mul, mul-le-mul_left, eq-or-lt_of_le, le_of_suc-le-suc}
use native.Mathlib.Omega.{arith}
use lib.Dec.{T, ltb, eqb}
use lib.IntN.{ℤ, pos, negsuc, neg_ℤ, nat_abs}
use lib.ListN.{get_or}
use mir.Val.{bool_byte}
use Rattle.arithmetic.specs.Lists.{first}
use Rattle.arithmetic.specs.Tests.{all_below, same_ℤ}
use Rattle.arithmetic.proofs.Integers.{diffs, *ℤ_assoc, *ℤ-+ℤ, *ℤ-neg_ℤ, neg_ℤ-*ℤ}
use Rattle.arithmetic.proofs.Tests.{all_below_at}
use Rattle.constellation.specs.Ranges.{PhaseInRange, max_weighted}
use Rattle.constellation.specs.Gray.{digit}
use Rattle.constellation.specs.Psk.{Point, point, psk_halves, psk_quarters, turned, psk_point, phase_cost}
use Rattle.constellation.specs.Counter.{axis_counter, phase_counter}
use Rattle.constellation.specs.Parts.{gray_part, phase}
use Rattle.constellation.proofs.PskTables.{dot, same_point, same_point_≡}
use Rattle.phase_costs.specs.PhaseCosts.{costs_by_sizes, ProductInRange}
use Rattle.demapper.proofs.GainZero.{phase_costs_equal}
use Rattle.phase_nearest.proofs.PhaseNearest.{edges, edges_few, compared, sixteenth_of, phase-nearest}

-- the probes of index k of m bits: k itself, and the counter-hypotheses of its bits
abbrev probe : (m k j : ℕ) → ℕ
probe m k j = get_or (k ∷ first (phase_counter m k) m) j 0

-- the probe j of the index of m bits whose sector holds the sixteenth s
abbrev probe_of : (m s j : ℕ) → ℕ
probe_of m s j = probe m (s / 2 ^ (4 - m)) j

abbrev IsProbe : (m j : ℕ) → Type 0
IsProbe m j = (0 < m) × (m < 5) × (j ≤ m)

-- ---- mirrors

-- from the first quadrant to quadrant n, and back
mirrored : ℕ → Point → Point
mirrored zero t = t
mirrored (suc zero) t = point (neg_ℤ t.u) t.v
mirrored (suc (suc zero)) t = point (neg_ℤ t.u) (neg_ℤ t.v)
mirrored (suc (suc (suc n))) t = point t.u (neg_ℤ t.v)

mirrored_dot : (n : ℕ) (y t : Point) → dot (mirrored n y) t ≡ dot y (mirrored n t)
unfolding mirrored dot
mirrored_dot zero y t = refl
mirrored_dot (suc zero) y t = simp (neg_ℤ-*ℤ, *ℤ-neg_ℤ)
mirrored_dot (suc (suc zero)) y t = simp (neg_ℤ-*ℤ, *ℤ-neg_ℤ)
mirrored_dot (suc (suc (suc n))) y t = simp (neg_ℤ-*ℤ, *ℤ-neg_ℤ)

-- the cost of a point, for a sample of the first quadrant that has the gain in it
cost_at : (p q : ℕ) → Point → ℤ
cost_at p q t = neg_ℤ (dot (point (pos p) (pos q)) t)

mirrored_cost : (n m g a b k : ℕ)
    → let y = mirrored n (point (pos a) (pos b)) in
    phase_cost m g y.u y.v k ≡ cost_at (2 * g * a) (2 * g * b) (mirrored n (psk_point m k))
unfolding phase_cost cost_at dot
mirrored_cost n m g a b k = rw (mirrored_dot n, *ℤ-+ℤ, ← *ℤ_assoc, ← *ℤ_assoc)

-- the place e of quadrant n, in the first quadrant
abbrev place : ℕ → ℕ → ℕ
place n e = cond (eqb (n % 2) 0) e (3 - e)

mirror_test : (n e m j : ℕ) → Bool
mirror_test n e m j = same_point (mirrored n (psk_point m (probe_of m (4 * n + e) j))) (psk_point m (probe_of m (place n e) j))

-- m = 1, 2, 3 and 4
probes_test : (n e : ℕ) → Bool
probes_test n e = all_below 4 (λ m. all_below (m + 2) (mirror_test n e (suc m)))

mirrors_pass : T (all_below 4 (λ n. all_below 4 (probes_test n)))
unfolding all_below probes_test mirror_test mirrored first same_point same_ℤ psk_point psk_halves psk_quarters turned phase_counter axis_counter digit
mirrors_pass = tt

mirrored_probe : (n e m j : ℕ) → n < 4 → e < 4 → IsProbe m j
    → mirrored n (psk_point m (probe_of m (4 * n + e) j)) ≡ psk_point m (probe_of m (place n e) j)
unfolding mirror_test probes_test
mirrored_probe n e zero j a b h = absurd (omega arith)
mirrored_probe n e (suc m) j a b h =
    let all = all_below_at 4 (probes_test n) (all_below_at 4 (λ n. all_below 4 (probes_test n)) mirrors_pass n a) e b in
    let row = all_below_at 4 (λ m. all_below (m + 2) (mirror_test n e (suc m))) all m (omega arith) in
    same_point_≡ _ _ (all_below_at (m + 2) (mirror_test n e (suc m)) row j (omega arith))

-- ---- the first quadrant

-- the place of (p, q) there: which of the quadrant's four points is nearest; on an edge between two it is either
data Place (p q : ℕ) : ℕ → Type 0 where
  lowest : 5906 * q ≤ 2446 * p → Place p q 0
  low : 2446 * p ≤ 5906 * q → q ≤ p → Place p q 1
  high : p ≤ q → 2446 * q ≤ 5906 * p → Place p q 2
  highest : 5906 * p ≤ 2446 * q → Place p q 3

-- with the axes exchanged the places are counted from the other end
edges_place : (x y : ℕ) → Place x y (edges x y) × Place y x (3 - edges x y)
edges_place x y = go (ltb (2446 * x) (5906 * y)) (ltb x y) (ltb (5906 * x) (2446 * y)) refl refl refl
  where
    go : (a b c : Bool) → ltb (2446 * x) (5906 * y) ≡ a → ltb x y ≡ b → ltb (5906 * x) (2446 * y) ≡ c
        → Place x y (bool_byte a + bool_byte b + bool_byte c) × Place y x (3 - (bool_byte a + bool_byte b + bool_byte c))
    go false false false p q r = (lowest (omega compared), highest (omega compared))
    go true false false p q r = (low (omega compared) (omega compared), high (omega compared) (omega compared))
    go true true false p q r = (high (omega compared) (omega compared), low (omega compared) (omega compared))
    go true true true p q r = (highest (omega compared), lowest (omega compared))
    go false true c p q r = absurd (omega compared)
    go false false true p q r = absurd (omega compared)
    go true false true p q r = absurd (omega compared)

place_scaled : (n : ℕ) {p q h : ℕ} → Place p q h → Place (n * p) (n * q) h
place_scaled n (lowest a) = lowest (omega (arith, mul-le-mul_left n a))
place_scaled n (low a b) = low (omega (arith, mul-le-mul_left n a)) (mul-le-mul_left n b)
place_scaled n (high a b) = high (mul-le-mul_left n a) (omega (arith, mul-le-mul_left n b))
place_scaled n (highest a) = highest (omega (arith, mul-le-mul_left n a))

-- F at 0, 1, .. n − 1
abbrev Each : ℕ → (ℕ → Type 0) → Type 0
Each zero F = Unit
Each (suc n) F = Each n F × F n

each_at : (n : ℕ) (F : ℕ → Type 0) → Each n F → (k : ℕ) → k < n → F k
each_at zero F t k h = absurd (omega arith)
each_at (suc n) F (before, last) k h = go (eq-or-lt_of_le (le_of_suc-le-suc h)) (each_at n F before k)
  where
    go : (k ≡ n) ⊎ (k < n) → (k < n → F k) → F k
    go (inl e) below = rw e last
    go (inr l) below = below l

abbrev CostIs : (p q h m j : ℕ) → Type 0
CostIs p q h m j = cost_at p q (psk_point m (probe_of m h j)) ≡ get_or (costs_by_sizes m p q) j (pos 0)

costs_by_place : {p q h : ℕ} → Place p q h → Each 4 (λ m. Each (m + 2) (CostIs p q h (suc m)))
unfolding costs_by_sizes cost_at dot first psk_point psk_halves psk_quarters turned phase_counter axis_counter digit
costs_by_place (lowest a) = simp diffs (omega arith)
costs_by_place (low a b) = simp diffs (omega arith)
costs_by_place (high a b) = simp diffs (omega arith)
costs_by_place (highest a) = simp diffs (omega arith)

cost_by_place : {p q h : ℕ} → Place p q h → (m j : ℕ) → IsProbe m j → CostIs p q h m j
cost_by_place s zero j i = absurd (omega arith)
cost_by_place {p} {q} {h} s (suc m) j i =
    each_at (m + 2) (CostIs p q h (suc m)) (each_at 4 (λ m. Each (m + 2) (CostIs p q h (suc m))) (costs_by_place s) m (omega arith)) j (omega arith)

-- ---- the circle

-- in quadrant n, where the sizes of the coordinates are x and y, or y and x
quadrant_cost : (n x y : ℕ) → n < 4 → (m g j : ℕ) → IsProbe m j
    → let even = eqb (n % 2) 0 in
    let a = cond even x y in
    let b = cond even y x in
    let s = mirrored n (point (pos a) (pos b)) in
    phase_cost m g s.u s.v (probe_of m (4 * n + edges x y) j) ≡ get_or (costs_by_sizes m (2 * g * a) (2 * g * b)) j (pos 0)
quadrant_cost n x y l m g j h =
    mirrored_cost n m g _ _ _
    ∙ rw (mirrored_probe n (edges x y) m j l (edges_few x y) h) (cost_by_place (place_scaled (2 * g) (placed (eqb (n % 2) 0))) m j h)
  where
    placed : (even : Bool) → Place (cond even x y) (cond even y x) (cond even (edges x y) (3 - edges x y))
    placed true = (edges_place x y).0
    placed false = (edges_place x y).1

sixteenth_cost : (y_i y_q : ℤ) (m g j : ℕ) → IsProbe m j
    → phase_cost m g y_i y_q (probe_of m (sixteenth_of y_i y_q) j) ≡ get_or (costs_by_sizes m (2 * g * nat_abs y_i) (2 * g * nat_abs y_q)) j (pos 0)
unfolding sixteenth_of mirrored
sixteenth_cost (pos x) (pos y) = quadrant_cost 0 x y (omega arith)
sixteenth_cost (negsuc x) (pos y) = quadrant_cost 1 y (suc x) (omega arith)
sixteenth_cost (pos zero) (negsuc y) = quadrant_cost 2 0 (suc y) (omega arith)
sixteenth_cost (negsuc x) (negsuc y) = quadrant_cost 2 (suc x) (suc y) (omega arith)
sixteenth_cost (pos (suc x)) (negsuc y) = quadrant_cost 3 (suc y) (suc x) (omega arith)

-- at gain 0 all indices cost the same
nearest_cost : (m g : ℕ) (y_i y_q : ℤ) (j : ℕ) → IsProbe m j
    → phase_cost m g y_i y_q (probe_of m (sixteenth_of y_i y_q) j) ≡ phase_cost m g y_i y_q (probe m (phase m g y_i y_q).nearest j)
unfolding phase gray_part
nearest_cost m zero y_i y_q j h = phase_costs_equal m y_i y_q _ _
nearest_cost m (suc g) y_i y_q j h = rw (phase-nearest m (suc g) y_i y_q (omega arith) (omega arith))

-- the code's costs are those of what is probed
pub costs_by_sizes_lem : {m g : ℕ} {y_i y_q : ℤ} → PhaseInRange m g y_i y_q → (j : ℕ) → j ≤ m
    → get_or (costs_by_sizes m (2 * g * nat_abs y_i) (2 * g * nat_abs y_q)) j (pos 0) ≡ (phase m g y_i y_q).cost (get_or (phase m g y_i y_q).probed j 0)
unfolding phase gray_part
costs_by_sizes_lem {m} {g} {y_i} {y_q} r j l =
    let h : IsProbe m j = omega arith in
    sym (sixteenth_cost y_i y_q m g j h) ∙ nearest_cost m g y_i y_q j h

-- ---- the products that the code makes

pub product_size : {u x v y : ℕ} → ProductInRange u x v y → (u * x ≤ 16384 * max_weighted) × (v * y ≤ 16384 * max_weighted)
product_size r = (mul-le-mul {m₂ = max_weighted} r.point_u r.small_x, mul-le-mul {m₂ = max_weighted} r.point_v r.small_y)
