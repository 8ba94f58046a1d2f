-- Sectors of the circle: a sample that takes an index of sixteen before its two neighbours takes it before every other, and of fewer
-- indices it takes the one whose sector holds that sixteenth. One test computes this over the tables. Assumes nothing.
use mathlib.Core.Path.{◌≡◌, refl, ◌∙◌}
use mathlib.Core.Bool.{Bool, ◌&&◌}
use Prim.Native.Nat.{ℕ, zero, suc, ◌+◌, ◌*◌, ◌-◌, ◌/◌, ◌^◌, ◌≤◌, ◌<◌, min}
use native.Mathlib.Nat.{mul-le-mul_left}
use native.Mathlib.Omega.{arith}
use lib.Dec.{T}
use lib.IntN.{ℤ, pos, negsuc, neg_ℤ, ◌+ℤ◌, ◌*ℤ◌, neg_ℤ-neg_ℤ}
use lib.Signed.{le_z, lt_z, ◌≤ℤ◌, ◌<ℤ◌}
use Rattle.arithmetic.specs.Tests.{all_below}
use Rattle.arithmetic.proofs.Integers.{diffs, ring, as_diff, ≤ℤ_trans, +ℤ_mono}
use Rattle.arithmetic.proofs.Tests.{all_below_at, passed}
use Rattle.constellation.specs.Psk.{Point, psk_halves, psk_quarters, turned, psk_point}
use Rattle.constellation.proofs.PskTables.{minus, dot, cross, after, before, step_from}

-- 1 where index j comes before index k, and else 0
abbrev pub lead : ℕ → ℕ → ℕ
lead k j = min 1 (k - j)

-- the sample y takes index k of m bits before index j: its product with the step from j to k is not negative, and positive where j comes
-- first
abbrev pub Beats : ℕ → Point → ℕ → ℕ → Type 0
Beats m y k j = pos (lead k j) ≤ℤ dot y (step_from m k j)

-- y with n quarter turns takes index 4·n + k of sixteen before its neighbours; the products are those before the turns
abbrev pub InSector : ℕ → ℕ → Point → Type 0
InSector n k y =
    (n < 4)
    × (k < 4)
    × (pos (lead (4 * n + k) (after 4 (4 * n + k))) ≤ℤ dot y (step_from 4 k (after 4 k)))
    × (pos (lead (4 * n + k) (before 4 (4 * n + k))) ≤ℤ dot y (step_from 4 k (before 4 k)))

-- ---- cones

-- what `ring` leaves of Cramer's rule
two_cancel : (a b c d r s : ℤ)
    → r +ℤ (a +ℤ (b +ℤ (s +ℤ (neg_ℤ r +ℤ (neg_ℤ c +ℤ (neg_ℤ d +ℤ neg_ℤ s)))))) ≡ a +ℤ (b +ℤ (neg_ℤ c +ℤ neg_ℤ d))
two_cancel a b c d r s = rw (as_diff a, as_diff b, as_diff c, as_diff d, as_diff r, as_diff s) (simp diffs (omega arith))

-- Cramer's rule, in products with y
cross_dot : (y e f w : Point) → cross e f *ℤ dot y w ≡ cross w f *ℤ dot y e +ℤ cross e w *ℤ dot y f
unfolding cross dot
cross_dot y e f w = simp (ring, two_cancel)

*ℤ_mono : {a x y : ℤ} → pos 0 ≤ℤ a → x ≤ℤ y → (a *ℤ x) ≤ℤ (a *ℤ y)
*ℤ_mono {a = pos a} {x} {y} h = rw (as_diff x, as_diff y) (simp diffs (λ l. omega (arith, mul-le-mul_left a l)))
*ℤ_mono {a = negsuc a} h = absurd h.le

*ℤ_cancel : {d z : ℤ} {n : ℕ} → n ≤ 1 → pos 0 <ℤ d → pos n ≤ℤ (d *ℤ z) → pos n ≤ℤ z
*ℤ_cancel {d = pos d} {z = pos zero} l h k = simp diffs (omega (arith, simp diffs at k))
*ℤ_cancel {d = pos d} {z = pos (suc z)} l h k = simp diffs (omega arith)
*ℤ_cancel {d = pos d} {z = negsuc z} l h k = absurd (omega (arith, simp diffs at h, simp diffs at k))
*ℤ_cancel {d = negsuc d} l h k = absurd h.lt

-- the product of y with a member w of the cone of e and f, from its products with e and f
cone_margin :
    (y e f w : Point) (n s t : ℕ)
    → n ≤ 1
    → pos 0 <ℤ cross e f
    → pos 0 ≤ℤ cross w f
    → pos 0 ≤ℤ cross e w
    → pos n ≤ℤ (cross w f *ℤ pos s +ℤ cross e w *ℤ pos t)
    → pos s ≤ℤ dot y e
    → pos t ≤ℤ dot y f
    → pos n ≤ℤ dot y w
cone_margin y e f w n s t l d a b h p q =
    *ℤ_cancel l d (rw (cross_dot y e f w) (≤ℤ_trans h (+ℤ_mono (*ℤ_mono a p) (*ℤ_mono b q))))

-- ---- turns

quarter_turn : (a b c d : ℤ) → neg_ℤ b *ℤ neg_ℤ d +ℤ a *ℤ c ≡ a *ℤ c +ℤ b *ℤ d
quarter_turn a b c d = simp (ring, neg_ℤ-neg_ℤ)

turned_dot : (n : ℕ) (p q : Point) → dot (turned n p) (turned n q) ≡ dot p q
unfolding turned dot
turned_dot zero p q = refl
turned_dot (suc n) p q = quarter_turn (turned n p).u (turned n p).v (turned n q).u (turned n q).v ∙ turned_dot n p q

-- ---- the test

-- the step from index j of m bits to the index whose sector holds the sixteenth 4·n + k is in the cone of the steps from that sixteenth's
-- neighbours; where j comes first, it has a part along the step from a neighbour that comes first
sector_test : ℕ → ℕ → ℕ → ℕ → Bool
sector_test n k m j =
    let i = 4 * n + k in
    let e = turned n (step_from 4 k (after 4 k)) in
    let f = turned n (step_from 4 k (before 4 k)) in
    let w = step_from m (i / 2 ^ (4 - m)) j in
    lt_z (pos 0) (cross e f)
    && le_z (pos 0) (cross w f)
    && le_z (pos 0) (cross e w)
    && le_z (pos (lead (i / 2 ^ (4 - m)) j)) (cross w f *ℤ pos (lead i (after 4 i)) +ℤ cross e w *ℤ pos (lead i (before 4 i)))

point_test : ℕ → ℕ → Bool
point_test n k = all_below 5 (λ m. all_below (2 ^ m) (sector_test n k m))

sectors_pass : T (all_below 4 (λ n. all_below 4 (point_test n)))
unfolding all_below point_test sector_test cross step_from minus after before psk_point psk_halves psk_quarters turned
sectors_pass = tt

sector_passes : (n k m j : ℕ) → n < 4 → k < 4 → m < 5 → j < 2 ^ m → T (sector_test n k m j)
unfolding point_test
sector_passes n k m j a b l c =
    let point : T (point_test n k) = all_below_at 4 (point_test n) (all_below_at 4 (λ n. all_below 4 (point_test n)) sectors_pass n a) k b in
    all_below_at (2 ^ m) (sector_test n k m) (all_below_at 5 (λ m. all_below (2 ^ m) (sector_test n k m)) point m l) j c

-- ---- the law

pub sector_beats :
    (n k : ℕ) (y : Point)
    → InSector n k y
    → (m j : ℕ)
    → m < 5
    → j < 2 ^ m
    → Beats m (turned n y) ((4 * n + k) / 2 ^ (4 - m)) j
unfolding sector_test
sector_beats n k y (a, b, h, i) m j l c =
    let (((spread, along), across), margin) = simp passed at (sector_passes n k m j a b l c) in
    cone_margin (turned n y) _ _ _ _ _ _ (omega arith) spread along across margin (rw (turned_dot n) h) (rw (turned_dot n) i)
