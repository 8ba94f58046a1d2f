-- What the PSK tables satisfy, for m from 1 to 4: symmetry, convexity, and the cones of lemma 3 of 001. One test computes all of it over
-- every entry, and each law takes its part out of that test. Assumes nothing.
use mathlib.Core.Path.{◌≡◌}
use mathlib.Core.Logic.{◌≢◌}
use mathlib.Core.Bool.{Bool, ◌&&◌, ◌||◌}
use Prim.Native.Nat.{ℕ, zero, suc, ◌+◌, ◌-◌, ◌%◌, ◌^◌, ◌≤◌, ◌<◌}
use native.Mathlib.Omega.{arith}
use lib.Dec.{T, leb, ltb, eqb}
use lib.IntN.{ℤ, pos, neg_ℤ, nat_abs, ◌+ℤ◌, ◌-ℤ◌, ◌*ℤ◌}
use lib.Signed.{le_z, lt_z, ◌≤ℤ◌, ◌<ℤ◌}
use Rattle.arithmetic.specs.Tests.{all_below, same_ℤ}
use Rattle.arithmetic.proofs.Tests.{all_below_at, and_iff, passed}
use Rattle.constellation.specs.Gray.{xor, digit, label_bit}
use Rattle.constellation.specs.Psk.{Point, point, psk_halves, psk_quarters, turned, psk_point}
use Rattle.constellation.specs.Counter.{axis_counter, phase_counter}

-- ---- points as vectors

unfoldable pub minus : Point → Point → Point
minus p q = point (p.u -ℤ q.u) (p.v -ℤ q.v)

unfoldable pub dot : Point → Point → ℤ
dot p q = p.u *ℤ q.u +ℤ p.v *ℤ q.v

unfoldable pub cross : Point → Point → ℤ
cross p q = p.u *ℤ q.v -ℤ p.v *ℤ q.u

-- positive where the way from p over q to r turns to the left
unfoldable pub bend : Point → Point → Point → ℤ
bend p q r = cross (minus q p) (minus r q)

-- w is in the cone of e and f: (e × f)·w = (w × f)·e + (e × w)·f, which is Cramer's rule, with no negative factor
pub record InCone (e f w : Point) : Type 0 where
  pub spread : pos 0 <ℤ cross e f
  pub along : pos 0 ≤ℤ cross w f
  pub across : pos 0 ≤ℤ cross e w
  pub sum_u : cross e f *ℤ w.u ≡ cross w f *ℤ e.u +ℤ cross e w *ℤ f.u
  pub sum_v : cross e f *ℤ w.v ≡ cross w f *ℤ e.v +ℤ cross e w *ℤ f.v

-- the neighbours of index k on the circle
unfoldable pub after : ℕ → ℕ → ℕ
after m k = suc k % 2 ^ m

unfoldable pub before : ℕ → ℕ → ℕ
before m k = (k + (2 ^ m - 1)) % 2 ^ m

-- the step from another point of the table to point k
unfoldable pub step_from : ℕ → ℕ → ℕ → Point
step_from m k j = minus (psk_point m k) (psk_point m j)

-- ---- the test

unfoldable pub same_point : Point → Point → Bool
same_point p q = same_ℤ p.u q.u && same_ℤ p.v q.v

-- 2 ^ (m − 2) indices further is a quarter turn; m = 1 has no quarters
turn_test : ℕ → ℕ → Bool
turn_test m k = leb m 1 || same_point (psk_point m ((k + 2 ^ (m - 2)) % 2 ^ m)) (turned 1 (psk_point m k))

-- the last index is the first below the axis, and so on
mirror_test : ℕ → ℕ → Bool
mirror_test m k = same_point (psk_point m (2 ^ m - suc k)) (point (psk_point m k).u (neg_ℤ (psk_point m k).v))

-- no coordinate is larger than the radius, 16384 units
size_test : ℕ → ℕ → Bool
size_test m k = leb (nat_abs (psk_point m k).u) 16384 && leb (nat_abs (psk_point m k).v) 16384

-- the polygon bends to the left at each point; with m = 1 it has no bend
convex_test : ℕ → ℕ → Bool
convex_test m k = leb m 1 || lt_z (pos 0) (bend (psk_point m k) (psk_point m (after m k)) (psk_point m (after m (after m k))))

-- no other point has as large a product with point k
best_test : ℕ → ℕ → ℕ → Bool
best_test m k j = eqb j k || lt_z (dot (psk_point m k) (psk_point m j)) (dot (psk_point m k) (psk_point m k))

cone_test : Point → Point → Point → Bool
cone_test e f w =
    let d = cross e f in
    let a = cross w f in
    let b = cross e w in
    lt_z (pos 0) d
    && le_z (pos 0) a
    && le_z (pos 0) b
    && same_ℤ (d *ℤ w.u) (a *ℤ e.u +ℤ b *ℤ f.u)
    && same_ℤ (d *ℤ w.v) (a *ℤ e.v +ℤ b *ℤ f.v)

-- index j has the bit i of k, or is the counter-hypothesis, or lies beyond it in the cone at k
rival_test : ℕ → ℕ → ℕ → ℕ → Bool
rival_test m k i j =
    eqb (label_bit m i j) (label_bit m i k)
    || (eqb j (phase_counter m k i) || cone_test (step_from m k (after m k)) (step_from m k (before m k)) (step_from m (phase_counter m k i) j))

below_test : ℕ → ℕ → ℕ → Bool
below_test m k i = ltb (phase_counter m k i) (2 ^ m)

other_bit_test : ℕ → ℕ → ℕ → Bool
other_bit_test m k i = eqb (label_bit m i (phase_counter m k i)) (1 - label_bit m i k)

entry_test : ℕ → ℕ → Bool
entry_test m k =
    turn_test m k
    && mirror_test m k
    && convex_test m k
    && size_test m k
    && all_below (2 ^ m) (best_test m k)
    && all_below m (below_test m k)
    && all_below m (other_bit_test m k)
    && all_below m (λ i. all_below (2 ^ m) (rival_test m k i))

table_test : ℕ → Bool
table_test m = all_below (2 ^ m) (entry_test m)

-- m = 1, 2, 3 and 4
tables_pass : T (all_below 4 (λ n. table_test (suc n)))
unfolding all_below table_test entry_test turn_test mirror_test convex_test size_test best_test below_test other_bit_test rival_test cone_test same_point same_ℤ
    step_from before after bend cross dot minus psk_point psk_halves psk_quarters turned phase_counter axis_counter label_bit digit xor
tables_pass = tt

-- ---- what it says of an entry

pub same_point_≡ : (p q : Point) → T (same_point p q) → p ≡ q
unfolding same_point
same_point_≡ p q t = let (same-u, same-v) = simp passed at t in λ i. point (same-u i) (same-v i)

-- one entry's share of the test
record Entry (m k : ℕ) : Type 0 where
  turn : T (turn_test m k)
  mirror : T (mirror_test m k)
  convex : T (convex_test m k)
  size : T (size_test m k)
  best : (j : ℕ) → j < 2 ^ m → T (best_test m k j)
  below : (i : ℕ) → i < m → T (below_test m k i)
  other_bit : (i : ℕ) → i < m → T (other_bit_test m k i)
  rival : (i : ℕ) → i < m → (j : ℕ) → j < 2 ^ m → T (rival_test m k i j)

entry : (m k : ℕ) → 0 < m → m < 5 → k < 2 ^ m → Entry m k
unfolding table_test entry_test
entry zero k p l b = absurd (omega arith)
entry (suc n) k p l b =
    let m = suc n in
    let table : T (table_test m) = all_below_at 4 (λ n. table_test (suc n)) tables_pass n (omega arith) in
    let (((((((tu, mi), co), si), be), lo), ot), ri) = simp and_iff at (all_below_at (2 ^ m) (entry_test m) table k b) in
    record {
      turn = tu;
      mirror = mi;
      convex = co;
      size = si;
      best = all_below_at (2 ^ m) (best_test m k) be;
      below = all_below_at m (below_test m k) lo;
      other_bit = all_below_at m (other_bit_test m k) ot;
      rival = λ i h. all_below_at (2 ^ m) (rival_test m k i) (all_below_at m (λ i. all_below (2 ^ m) (rival_test m k i)) ri i h);
    }

-- ---- the laws

pub psk_turn : (m k : ℕ) → 1 < m → m < 5 → k < 2 ^ m → psk_point m ((k + 2 ^ (m - 2)) % 2 ^ m) ≡ turned 1 (psk_point m k)
unfolding turn_test
psk_turn m k p l b = same_point_≡ _ _ ((simp passed at (entry m k (omega arith) l b).turn) (omega arith))

pub psk_mirror : (m k : ℕ) → 0 < m → m < 5 → k < 2 ^ m → psk_point m (2 ^ m - suc k) ≡ point (psk_point m k).u (neg_ℤ (psk_point m k).v)
unfolding mirror_test
psk_mirror m k p l b = same_point_≡ _ _ (entry m k p l b).mirror

pub psk_convex :
    (m k : ℕ)
    → 1 < m
    → m < 5
    → k < 2 ^ m
    → pos 0 <ℤ bend (psk_point m k) (psk_point m (after m k)) (psk_point m (after m (after m k)))
unfolding convex_test
psk_convex m k p l b = (simp passed at (entry m k (omega arith) l b).convex) (omega arith)

pub psk_size : (m k : ℕ) → 0 < m → m < 5 → k < 2 ^ m → (nat_abs (psk_point m k).u ≤ 16384) × (nat_abs (psk_point m k).v ≤ 16384)
unfolding size_test
psk_size m k p l b = simp passed at (entry m k p l b).size

pub psk_own_best :
    (m k j : ℕ)
    → 0 < m
    → m < 5
    → k < 2 ^ m
    → j < 2 ^ m
    → j ≢ k
    → dot (psk_point m k) (psk_point m j) <ℤ dot (psk_point m k) (psk_point m k)
unfolding best_test
psk_own_best m k j p l b c n = (simp passed at ((entry m k p l b).best j c)) n

pub phase_counter_below : (m k i : ℕ) → 0 < m → m < 5 → k < 2 ^ m → i < m → phase_counter m k i < 2 ^ m
unfolding below_test
phase_counter_below m k i p l b h = simp passed at ((entry m k p l b).below i h)

pub phase_counter_other_bit : (m k i : ℕ) → 0 < m → m < 5 → k < 2 ^ m → i < m → label_bit m i (phase_counter m k i) ≡ 1 - label_bit m i k
unfolding other_bit_test
phase_counter_other_bit m k i p l b h = simp passed at ((entry m k p l b).other_bit i h)

-- a point with the other bit at place i lies beyond the counter-hypothesis, in the cone of the steps from k's neighbours to k
pub phase_counter_cone :
    (m k i j : ℕ)
    → 0 < m
    → m < 5
    → k < 2 ^ m
    → i < m
    → j < 2 ^ m
    → label_bit m i j ≢ label_bit m i k
    → j ≢ phase_counter m k i
    → InCone (step_from m k (after m k)) (step_from m k (before m k)) (step_from m (phase_counter m k i) j)
unfolding rival_test cone_test
phase_counter_cone m k i j p l b h c n o =
    let ((((d, a), s), t), u) = (simp passed at ((entry m k p l b).rival i h j c)) n o in
    record { spread = d; along = a; across = s; sum_u = t; sum_v = u }
