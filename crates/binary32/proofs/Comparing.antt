-- What the comparisons of a number with two limits of one size say. Assumes nothing.
use mathlib.Core.Path.{◌≡◌, refl, sym, ap, ◌∙◌}
use mathlib.Core.Logic.{inl, inr}
use mathlib.Core.Bool.{Bool, true, false, not, ◌&&◌, ◌||◌, true≢false, and-true}
use Prim.Native.Nat.{ℕ, suc, ◌+◌, ◌*◌, ◌^◌, ◌≤◌, ◌<◌}
use native.Mathlib.Nat.{eq-or-lt_of_le, pow-suc, mul-lt-mul_of_pos_right, mul-le-mul_right}
use native.Mathlib.Omega.{arith}
use borrow.Author.Tests.{lt-ltb, le-ltb, eq-eqb, ne_eqb, ltb-true, ltb-false, eqb-true, eqb-false}
use lib.Dec.{ltb, eqb}
use lib.Pow.{pow_pos}
use lib.IntN.{ℤ}
use lib.Ieee.{Float, nan, inf, fin, up, down, below, level, le, neg}
use lib.Ieee.Fits.{down_pos}
use lib.Ieee.Exact.{HasValue}
use Rattle.constellation.specs.Ranges.{max_sample}
use Rattle.binary32.specs.Conversion.{converts}
use Rattle.binary32.proofs.Range.{outside_by_size}

-- ---- sizes

-- two numbers of one sign
not_above : (a b : ℕ) → ltb a b || (eqb a b && true) ≡ not (ltb b a)
not_above a b = go (ltb b a) refl
  where
    go : (t : Bool) → ltb b a ≡ t → ltb a b || (eqb a b && true) ≡ not t
    go true e = let h : b < a = ltb-true b a e in rw (le-ltb a b (omega arith), ne_eqb a b (λ q. omega arith))
    go false e = elim (eq-or-lt_of_le (ltb-false b a e)) [ inl q ↦ rw (le-ltb a b (omega arith), eq-eqb a b q) | inr l ↦ rw (lt-ltb a b l) ]

eqb_swap : (a b : ℕ) → eqb a b ≡ eqb b a
eqb_swap a b = go (eqb b a) refl
  where
    go : (t : Bool) → eqb b a ≡ t → eqb a b ≡ t
    go true e = eq-eqb a b (sym (eqb-true b a e))
    go false e = ne_eqb a b (λ q. eqb-false b a e (sym q))

-- a negative number, or zero, and a number that is not negative
opposite : (a b : ℕ) → ltb 0 (a + b) || (eqb a b && eqb a 0) ≡ true
opposite a b = go (ltb 0 (a + b)) refl
  where
    go : (t : Bool) → ltb 0 (a + b) ≡ t → t || (eqb a b && eqb a 0) ≡ true
    go true e = refl
    go false e = let h : a + b ≤ 0 = ltb-false 0 (a + b) e in rw (eq-eqb a b (omega arith), eq-eqb a 0 (omega arith))

-- from -b to b
within : (s : Bool) (a b : ℕ) → (below true b s a || level true b s a) && (below s a false b || level s a false b) ≡ not (ltb b a)
within false a b = rw (opposite b a) (not_above a b)
within true a b = rw (opposite a b, eqb_swap b a) (and-true _ ∙ not_above a b)

-- a common factor
ltb_scale : (a b k : ℕ) → 0 < k → ltb (a * k) (b * k) ≡ ltb a b
ltb_scale a b k h = go (ltb a b) refl
  where
    go : (t : Bool) → ltb a b ≡ t → ltb (a * k) (b * k) ≡ t
    go true e = lt-ltb _ _ (mul-lt-mul_of_pos_right (ltb-true a b e) h)
    go false e = le-ltb _ _ (mul-le-mul_right k (ltb-false a b e))

-- how y / dd, which is a / c, compares with x / de
ltb_transfer : (x de y dd a c : ℕ) → 0 < c → 0 < dd → y * c ≡ a * dd → ltb (y * de) (x * dd) ≡ ltb (a * de) (x * c)
ltb_transfer x de y dd a c C D e =
    let l : y * de * c ≡ a * de * dd = omega (arith, ap (λ (z : ℕ). z * de) e) in
    let r : x * dd * c ≡ x * c * dd = omega arith in
    sym (ltb_scale (y * de) (x * dd) c C) ∙ rw (l, r) (ltb_scale (a * de) (x * c) dd D)

-- ---- numbers

-- from minus the limit to the limit: of no larger size
within_limit : (limit : Float) (a c : ℕ) → 0 < c → HasValue limit false a c
    → (s : Bool) (m : ℕ) (e : ℤ) → (le (neg limit) (fin s m e) && le (fin s m e) limit) ≡ not (ltb (a * down e) (m * up e * c))
unfolding le neg
within_limit nan a c h v s m e = elim v [ ]
within_limit (inf _) a c h v s m e = elim v [ ]
within_limit (fin true n d) a c h v s m e = absurd (true≢false v.0)
within_limit (fin false n d) a c h v s m e =
    within s (m * up e * down d) (n * up d * down e) ∙ ap not (ltb_transfer (m * up e) (down e) (n * up d) (down d) a c h (down_pos d) v.1)

-- with the limit of a scale: the number converts
pub within_converts : (F : ℕ) (x limit : Float) → HasValue limit false (2 * max_sample + 1) (2 ^ suc F)
    → (le (neg limit) x && le x limit) ≡ converts F x
unfolding le neg converts
within_converts F nan nan v = elim v [ ]
within_converts F nan (inf _) v = elim v [ ]
within_converts F (inf false) nan v = elim v [ ]
within_converts F (inf false) (inf _) v = elim v [ ]
within_converts F (inf true) nan v = elim v [ ]
within_converts F (inf true) (inf _) v = elim v [ ]
within_converts F nan (fin t n d) v = refl
within_converts F (inf true) (fin t n d) v = refl
within_converts F (inf false) (fin t n d) v = refl
within_converts F (fin s m e) limit v =
    let double : m * up e * 2 ^ suc F ≡ 2 * (m * up e * 2 ^ F) = rw (pow-suc 2 F) (omega arith) in
    within_limit limit (2 * max_sample + 1) (2 ^ suc F) (pow_pos (suc F)) v s m e ∙ rw (double, outside_by_size)

-- ---- what the code answers for two tests: the second, where the first passed, and else the first

pub second_of : {a : Bool} (b : Bool) {p : Bool} → a ≡ true → (a && b) ≡ p → b ≡ p
second_of b h e = rw h at e

pub first_of : {a : Bool} (b : Bool) {p : Bool} → a ≡ false → (a && b) ≡ p → a ≡ p
first_of b h e = h ∙ (rw h at e)
