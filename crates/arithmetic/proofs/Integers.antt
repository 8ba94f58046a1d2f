-- Integers as differences of naturals: every law of the ring and of the order becomes one of naturals, which `omega` proves.
-- `diff a b` is a − b and stays shut; `rw (as_diff x) (simp diffs (omega arith))` is the shape of a proof. Assumes nothing.
use mathlib.Core.Path.{◌≡◌, refl, sym, ap, ◌∙◌}
use mathlib.Core.Logic.{◌↔◌}
use mathlib.Core.Bool.{Bool, true, false, not, cond}
use Prim.Native.Nat.{ℕ, zero, suc, ◌+◌, ◌*◌, ◌-◌, ◌≤◌, ◌<◌}
use native.Mathlib.Omega.{arith}
use lib.Dec.{T, ltb, leb→le, le→leb, ltb→lt, lt→ltb, nltb→le}
use lib.IntN.{ℤ, pos, negsuc, neg_ℤ, nat_abs, sub_ℕ, ◌+ℤ◌, ◌-ℤ◌, ◌*ℤ◌, pos-ne-negsuc, +ℤ_assoc, +ℤ_comm, *ℤ_comm, neg_ℤ-+ℤ}
use lib.Signed.{le_z, lt_z, ◌≤ℤ◌, ◌<ℤ◌}

-- a − b
pub diff : ℕ → ℕ → ℤ
diff a b = sub_ℕ a b

-- the two parts of an integer, one of which is 0
abbrev pub above : ℤ → ℕ
above (pos n) = n
above (negsuc n) = 0

abbrev pub below : ℤ → ℕ
below (pos n) = 0
below (negsuc n) = suc n

-- a difference is a natural or a negative, and which
data View (a b : ℕ) : ℤ → Type 0 where
  natural : (n : ℕ) → a ≡ b + n → View a b (pos n)
  negative : (n : ℕ) → b ≡ a + suc n → View a b (negsuc n)

view : (a b : ℕ) → View a b (diff a b)
unfolding diff
view a b = go (ltb a b) (ltb→lt a b) (nltb→le a b)
  where
    go : (c : Bool) → (T c → a < b) → (T (not c) → b ≤ a) → View a b (cond c (negsuc (b - suc a)) (pos (a - b)))
    go true h k = let l : a < b = h tt in negative (b - suc a) (omega arith)
    go false h k = let l : b ≤ a = k tt in natural (a - b) (omega arith)

-- equal differences
same : (a b c d : ℕ) {x y : ℤ} → View a b x → View c d y → a + d ≡ c + b → x ≡ y
same a b c d (natural n p) (natural m q) e = ap pos (omega arith)
same a b c d (natural n p) (negative m q) e = absurd (omega arith)
same a b c d (negative n p) (natural m q) e = absurd (omega arith)
same a b c d (negative n p) (negative m q) e = ap negsuc (omega arith)

pub diff_≡ : (a b c d : ℕ) → a + d ≡ c + b → diff a b ≡ diff c d
diff_≡ a b c d e = same a b c d (view a b) (view c d) e

same_back : (a b c d : ℕ) {x y : ℤ} → View a b x → View c d y → x ≡ y → a + d ≡ c + b
same_back a b c d (natural n p) (natural m q) e = let h : n ≡ m = cc in omega arith
same_back a b c d (natural n p) (negative m q) e = absurd (pos-ne-negsuc n m e)
same_back a b c d (negative n p) (natural m q) e = absurd (pos-ne-negsuc m n (sym e))
same_back a b c d (negative n p) (negative m q) e = let h : n ≡ m = cc in omega arith

pub diff_≡_iff : (a b c d : ℕ) → (diff a b ≡ diff c d) ↔ (a + d ≡ c + b)
diff_≡_iff a b c d = (same_back a b c d (view a b) (view c d), diff_≡ a b c d)

-- the order
le_views : (a b c d : ℕ) {x y : ℤ} → View a b x → View c d y → (T (le_z x y) → a + d ≤ c + b) × (a + d ≤ c + b → T (le_z x y))
le_views a b c d (natural n p) (natural m q) =
    ((λ t. let h : n ≤ m = leb→le n m t in omega arith), (λ h. le→leb n m (omega arith)))
le_views a b c d (natural n p) (negative m q) = ((λ t. absurd t), (λ h. absurd (omega arith)))
le_views a b c d (negative n p) (natural m q) = ((λ t. omega arith), (λ h. tt))
le_views a b c d (negative n p) (negative m q) =
    ((λ t. let h : m ≤ n = leb→le m n t in omega arith), (λ h. le→leb m n (omega arith)))

pub diff_≤_iff : (a b c d : ℕ) → (diff a b ≤ℤ diff c d) ↔ (a + d ≤ c + b)
diff_≤_iff a b c d =
    ((λ h. (le_views a b c d (view a b) (view c d)).0 h.le), (λ h. record { le = (le_views a b c d (view a b) (view c d)).1 h }))

lt_views : (a b c d : ℕ) {x y : ℤ} → View a b x → View c d y → (T (lt_z x y) → a + d < c + b) × (a + d < c + b → T (lt_z x y))
lt_views a b c d (natural n p) (natural m q) =
    ((λ t. let h : n < m = ltb→lt n m t in omega arith), (λ h. lt→ltb n m (omega arith)))
lt_views a b c d (natural n p) (negative m q) = ((λ t. absurd t), (λ h. absurd (omega arith)))
lt_views a b c d (negative n p) (natural m q) = ((λ t. omega arith), (λ h. tt))
lt_views a b c d (negative n p) (negative m q) =
    ((λ t. let h : m < n = ltb→lt m n t in omega arith), (λ h. lt→ltb m n (omega arith)))

pub diff_<_iff : (a b c d : ℕ) → (diff a b <ℤ diff c d) ↔ (a + d < c + b)
diff_<_iff a b c d =
    ((λ h. (lt_views a b c d (view a b) (view c d)).0 h.lt), (λ h. record { lt = (lt_views a b c d (view a b) (view c d)).1 h }))

-- the parts
pub pos_diff : (n : ℕ) → pos n ≡ diff n 0
pos_diff n = same n 0 n 0 (natural n (omega arith)) (view n 0) refl

pub as_diff : (z : ℤ) → z ≡ diff (above z) (below z)
as_diff (pos n) = pos_diff n
as_diff (negsuc n) = same 0 (suc n) 0 (suc n) (negative n (omega arith)) (view 0 (suc n)) refl

-- the operations
neg_views : (a b : ℕ) {x : ℤ} → View a b x → neg_ℤ x ≡ diff b a
neg_views a b (natural zero p) = same 0 0 b a (natural 0 (omega arith)) (view b a) (omega arith)
neg_views a b (natural (suc n) p) = same 0 (suc n) b a (negative n (omega arith)) (view b a) (omega arith)
neg_views a b (negative n p) = same (suc n) 0 b a (natural (suc n) (omega arith)) (view b a) (omega arith)

pub diff_neg : (a b : ℕ) → neg_ℤ (diff a b) ≡ diff b a
diff_neg a b = neg_views a b (view a b)

-- `simp` does not look into a stuck neg_ℤ (pos n): rewrite by this first
pub neg-pos : (n : ℕ) → neg_ℤ (pos n) ≡ diff 0 n
neg-pos n = neg_views n 0 (natural n (omega arith))

add_views : (a b c d : ℕ) {x y : ℤ} → View a b x → View c d y → x +ℤ y ≡ diff (a + c) (b + d)
unfolding diff
add_views a b c d (natural n p) (natural m q) = pos_diff (n + m) ∙ diff_≡ (n + m) 0 (a + c) (b + d) (omega arith)
add_views a b c d (natural n p) (negative m q) = diff_≡ n (suc m) (a + c) (b + d) (omega arith)
add_views a b c d (negative n p) (natural m q) = diff_≡ m (suc n) (a + c) (b + d) (omega arith)
add_views a b c d (negative n p) (negative m q) =
    as_diff (negsuc (suc (n + m))) ∙ diff_≡ 0 (suc (suc (n + m))) (a + c) (b + d) (omega arith)

pub diff_add : (a b c d : ℕ) → diff a b +ℤ diff c d ≡ diff (a + c) (b + d)
diff_add a b c d = add_views a b c d (view a b) (view c d)

mul_views : (a b c d : ℕ) {x y : ℤ} → View a b x → View c d y → x *ℤ y ≡ diff (a * c + b * d) (a * d + b * c)
mul_views a b c d (natural n p) (natural m q) =
    rw (p, q) (pos_diff (n * m) ∙ diff_≡ (n * m) 0 _ _ (omega arith))
mul_views a b c d (natural n p) (negative m q) =
    rw (p, q) (neg-pos (n * suc m) ∙ diff_≡ 0 (n * suc m) _ _ (omega arith))
mul_views a b c d (negative n p) (natural m q) =
    rw (p, q) (neg-pos (suc n * m) ∙ diff_≡ 0 (suc n * m) _ _ (omega arith))
mul_views a b c d (negative n p) (negative m q) =
    rw (p, q) (pos_diff (suc n * suc m) ∙ diff_≡ (suc n * suc m) 0 _ _ (omega arith))

pub diff_mul : (a b c d : ℕ) → diff a b *ℤ diff c d ≡ diff (a * c + b * d) (a * d + b * c)
diff_mul a b c d = mul_views a b c d (view a b) (view c d)

abs_views : (a b : ℕ) {x : ℤ} → View a b x → nat_abs x ≡ (a - b) + (b - a)
abs_views a b (natural n p) = omega arith
abs_views a b (negative n p) = omega arith

-- the size of a difference; omega takes the truncated differences apart
pub diff_abs : (a b : ℕ) → nat_abs (diff a b) ≡ (a - b) + (b - a)
diff_abs a b = abs_views a b (view a b)

pub ruleset diffs = (pos_diff, diff_add, diff_neg, diff_mul, diff_abs, diff_≡_iff, diff_≤_iff, diff_<_iff)

-- ---- the ring

pub *ℤ_assoc : (a b c : ℤ) → (a *ℤ b) *ℤ c ≡ a *ℤ (b *ℤ c)
*ℤ_assoc a b c = rw (as_diff a, as_diff b, as_diff c) (simp diffs (omega arith))

pub *ℤ-+ℤ : (a b c : ℤ) → a *ℤ (b +ℤ c) ≡ a *ℤ b +ℤ a *ℤ c
*ℤ-+ℤ a b c = rw (as_diff a, as_diff b, as_diff c) (simp diffs (omega arith))

pub +ℤ-*ℤ : (a b c : ℤ) → (a +ℤ b) *ℤ c ≡ a *ℤ c +ℤ b *ℤ c
+ℤ-*ℤ a b c = rw (as_diff a, as_diff b, as_diff c) (simp diffs (omega arith))

pub *ℤ-neg_ℤ : (a b : ℤ) → a *ℤ neg_ℤ b ≡ neg_ℤ (a *ℤ b)
*ℤ-neg_ℤ a b = rw (as_diff a, as_diff b) (simp diffs (omega arith))

pub neg_ℤ-*ℤ : (a b : ℤ) → neg_ℤ a *ℤ b ≡ neg_ℤ (a *ℤ b)
neg_ℤ-*ℤ a b = rw (as_diff a, as_diff b) (simp diffs (omega arith))

pub +ℤ_left_comm : (a b c : ℤ) → a +ℤ (b +ℤ c) ≡ b +ℤ (a +ℤ c)
+ℤ_left_comm a b c = rw (as_diff a, as_diff b, as_diff c) (simp diffs (omega arith))

pub *ℤ_left_comm : (a b c : ℤ) → a *ℤ (b *ℤ c) ≡ b *ℤ (a *ℤ c)
*ℤ_left_comm a b c = rw (as_diff a, as_diff b, as_diff c) (simp diffs (omega arith))

-- sums of products, in one order: for what has more products than `omega` takes
pub ruleset ring = (*ℤ-+ℤ, +ℤ-*ℤ, *ℤ-neg_ℤ, neg_ℤ-*ℤ, neg_ℤ-+ℤ, *ℤ_assoc, *ℤ_comm, *ℤ_left_comm, +ℤ_assoc, +ℤ_comm, +ℤ_left_comm)

-- the same summand on both sides of a difference
pub -ℤ-+ℤ_both : (a b c : ℤ) → (a +ℤ c) -ℤ (b +ℤ c) ≡ a -ℤ b
-ℤ-+ℤ_both a b c = rw (as_diff a, as_diff b, as_diff c) (simp diffs (omega arith))

-- ---- the order

pub ≤ℤ_trans : {a b c : ℤ} → a ≤ℤ b → b ≤ℤ c → a ≤ℤ c
≤ℤ_trans {a} {b} {c} = rw (as_diff a, as_diff b, as_diff c) (simp diffs (omega arith))

pub ≤ℤ_antisym : {a b : ℤ} → a ≤ℤ b → b ≤ℤ a → a ≡ b
≤ℤ_antisym {a} {b} = rw (as_diff a, as_diff b) (simp diffs (omega arith))

pub <ℤ→≤ℤ : {a b : ℤ} → a <ℤ b → a ≤ℤ b
<ℤ→≤ℤ {a} {b} = rw (as_diff a, as_diff b) (simp diffs (omega arith))

pub +ℤ_mono : {a b c d : ℤ} → a ≤ℤ b → c ≤ℤ d → (a +ℤ c) ≤ℤ (b +ℤ d)
+ℤ_mono {a} {b} {c} {d} = rw (as_diff a, as_diff b, as_diff c, as_diff d) (simp diffs (omega arith))

pub neg_ℤ-≤ℤ_iff : (a b : ℤ) → (neg_ℤ a ≤ℤ neg_ℤ b) ↔ (pos 0 ≤ℤ (a -ℤ b))
neg_ℤ-≤ℤ_iff a b = rw (as_diff a, as_diff b) (simp diffs (omega arith))

pub *ℤ_nonneg : {a b : ℤ} → pos 0 ≤ℤ a → pos 0 ≤ℤ b → pos 0 ≤ℤ (a *ℤ b)
*ℤ_nonneg {a = pos a} {b = pos b} h k = simp diffs (omega arith)
*ℤ_nonneg {a = pos a} {b = negsuc b} h k = absurd k.le
*ℤ_nonneg {a = negsuc a} h k = absurd h.le

pub *ℤ_nonneg_cancel : {a b : ℤ} → pos 0 <ℤ a → pos 0 ≤ℤ (a *ℤ b) → pos 0 ≤ℤ b
*ℤ_nonneg_cancel {a = pos a} {b = pos b} h k = simp diffs (omega arith)
*ℤ_nonneg_cancel {a = pos a} {b = negsuc b} h k = absurd (omega (arith, simp diffs at h, simp diffs at k))
*ℤ_nonneg_cancel {a = negsuc a} h k = absurd h.lt
