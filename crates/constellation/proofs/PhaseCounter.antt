-- The counter-hypothesis of a phase is the best index with the other bit (001, lemma 3). The gain is put into the sample: with
-- Y = 2·g·(y_i, y_q) the cost of a point p is −(Y·p), so a gain of 0 is no special case. Assumes nothing.
use mathlib.Core.Path.{◌≡◌}
use mathlib.Core.Logic.Iff
use mathlib.Core.Logic.{◌≢◌, ◌↔◌}
use Prim.Native.Nat.{ℕ, ◌*◌, ◌%◌, ◌^◌, ◌<◌}
use native.Mathlib.Nat.{mod-lt}
use native.Mathlib.Decide.{ℕ_discrete}
use lib.IntN.{ℤ, pos, ◌+ℤ◌, ◌-ℤ◌, ◌*ℤ◌}
use lib.Pow.{pow_pos}
use lib.Signed.{◌≤ℤ◌, ≤ℤ_refl}
use Rattle.arithmetic.proofs.Integers.{ring, +ℤ_mono, neg_ℤ-≤ℤ_iff, *ℤ_nonneg, *ℤ_nonneg_cancel}
use Rattle.constellation.specs.Gray.{label_bit}
use Rattle.constellation.specs.Psk.{Point, point, phase_cost}
use Rattle.constellation.specs.Counter.{phase_counter}
use Rattle.constellation.specs.Nearest.{IsNearest}
use Rattle.constellation.proofs.PskTables.{minus, dot, cross, InCone, after, before, step_from, phase_counter_cone}

-- ---- cones

cone_dot_sum : (y e f w : Point) → InCone e f w → cross e f *ℤ dot y w ≡ cross w f *ℤ dot y e +ℤ cross e w *ℤ dot y f
unfolding dot
cone_dot_sum y e f w c = simp (ring, simp ring at c.sum_u, simp ring at c.sum_v)

-- a vector whose products with both sides of a cone are not negative has such a product with each member
cone_dot : (y e f w : Point) → InCone e f w → pos 0 ≤ℤ dot y e → pos 0 ≤ℤ dot y f → pos 0 ≤ℤ dot y w
cone_dot y e f w c h k =
    *ℤ_nonneg_cancel c.spread (rw (cone_dot_sum y e f w c) (+ℤ_mono (*ℤ_nonneg c.along h) (*ℤ_nonneg c.across k)))

-- ---- the cost

cost_difference_lem :
    (n y z p p' q q' : ℤ)
    → n *ℤ (y *ℤ p +ℤ z *ℤ p') -ℤ n *ℤ (y *ℤ q +ℤ z *ℤ q') ≡ (n *ℤ y) *ℤ (p -ℤ q) +ℤ (n *ℤ z) *ℤ (p' -ℤ q')
cost_difference_lem n y z p p' q q' = simp ring

-- the sample with the gain put into it
abbrev gained : ℕ → ℤ → ℤ → Point
gained g y_i y_q = point (pos (2 * g) *ℤ y_i) (pos (2 * g) *ℤ y_q)

-- index k costs no more than index j exactly if the sample's product with the step from j to k is not negative
phase_cost_≤_iff :
    (m g : ℕ) (y_i y_q : ℤ) (k j : ℕ)
    → (phase_cost m g y_i y_q k ≤ℤ phase_cost m g y_i y_q j) ↔ (pos 0 ≤ℤ dot (gained g y_i y_q) (step_from m k j))
unfolding phase_cost dot step_from minus
phase_cost_≤_iff m g y_i y_q k j = simp (neg_ℤ-≤ℤ_iff, cost_difference_lem) Iff.rfl

-- 001, lemma 3
pub phase_counter_least :
    (m g : ℕ) (y_i y_q : ℤ) (k i : ℕ)
    → 0 < m
    → m < 5
    → i < m
    → IsNearest (2 ^ m) (phase_cost m g y_i y_q) k
    → (j : ℕ)
    → j < 2 ^ m
    → label_bit m i j ≢ label_bit m i k
    → phase_cost m g y_i y_q (phase_counter m k i) ≤ℤ phase_cost m g y_i y_q j
unfolding after before
phase_counter_least m g y_i y_q k i p l h n j b o = go (ℕ_discrete j (phase_counter m k i))
  where
    side : (a : ℕ) → pos 0 ≤ℤ dot (gained g y_i y_q) (step_from m k (a % 2 ^ m))
    side a = (phase_cost_≤_iff m g y_i y_q k (a % 2 ^ m)).0 (n.least (a % 2 ^ m) (mod-lt a (pow_pos m)))

    go : Dec (j ≡ phase_counter m k i) → phase_cost m g y_i y_q (phase_counter m k i) ≤ℤ phase_cost m g y_i y_q j
    go (yes e) = rw e (≤ℤ_refl _)
    go (no other) =
        let inside = phase_counter_cone m k i j p l n.below h b o other in
        (phase_cost_≤_iff m g y_i y_q (phase_counter m k i) j).1 (cone_dot (gained g y_i y_q) _ _ _ inside (side _) (side _))
