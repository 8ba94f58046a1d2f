-- Laws of the least cost: over any set, over a list, and over the numbers below a bound.
-- Assumes nothing.
use mathlib.Core.Path.{◌≡◌, refl}
use mathlib.Core.Logic.{◌⊎◌, inl, inr}
use mathlib.Core.Bool.{Bool, true, false, not, cond}
use mathlib.Core.List.Memᴰ
use mathlib.Core.List.{List, [], ◌∷◌, Memᴰ}
use Prim.Native.Nat.{ℕ, zero, suc, ◌≤◌, ◌<◌}
use native.Mathlib.Nat.{eq-or-lt_of_le, le_of_suc-le-suc, le_of_lt}
use native.Mathlib.Decide.{dec_lt}
use native.Mathlib.Omega.{arith}
use lib.Dec.{T, le→leb, nleb→lt}
use lib.IntN.{ℤ, pos, negsuc}
use lib.Signed.{le_z, lt_z, ◌≤ℤ◌, ◌<ℤ◌, le_z_yes, lt_z_yes, lt_z_no, ≤ℤ_refl, <ℤ-≤ℤ_trans, clash_ℤ}
use Rattle.arithmetic.specs.Least.{Least, min_ℤ, least_cost, first_least}
use Rattle.arithmetic.proofs.Integers.{≤ℤ_trans, ≤ℤ_antisym, <ℤ→≤ℤ}

-- ---- over any set

module _ {A : Type 0} {In : A → Type 0} {cost : A → ℤ} where
  pub least_unique : {v w : ℤ} → Least In cost v → Least In cost w → v ≡ w
  least_unique p q =
      ≤ℤ_antisym (rw q.attained at (p.bound q.best q.member)) (rw p.attained at (q.bound p.best p.member))

-- ---- over a list

le_z_no : (a b : ℤ) → T (not (le_z a b)) → b ≤ℤ a
le_z_no (pos a) (pos b) t = le_z_yes (le→leb b a (le_of_lt (nleb→lt a b t)))
le_z_no (pos a) (negsuc b) t = le_z_yes tt
le_z_no (negsuc a) (pos b) t = absurd t
le_z_no (negsuc a) (negsuc b) t = le_z_yes (le→leb a b (le_of_lt (nleb→lt b a t)))

-- the lesser of two costs, and which
data Lesser (a b : ℤ) : ℤ → Type 0 where
  left : a ≤ℤ b → Lesser a b a
  right : b ≤ℤ a → Lesser a b b

lesser : (a b : ℤ) → Lesser a b (min_ℤ a b)
unfolding min_ℤ
lesser a b = go (le_z a b) le_z_yes (le_z_no a b)
  where
    go : (c : Bool) → (T c → a ≤ℤ b) → (T (not c) → b ≤ℤ a) → Lesser a b (cond c a b)
    go true h k = left (h tt)
    go false h k = right (k tt)

-- the least over a list from that over its tail
module _ {A : Type 0} {cost : A → ℤ} where
  bound_cons : {a : A} {l : List A} {v w : ℤ} → w ≤ℤ cost a → w ≤ℤ v → ((b : A) → Memᴰ b l → v ≤ℤ cost b)
      → (b : A) → Memᴰ b (a ∷ l) → w ≤ℤ cost b
  bound_cons h k bound b (Memᴰ.head e) = rw e h
  bound_cons h k bound b (Memᴰ.tail m) = ≤ℤ_trans k (bound b m)

  least_cons : {a : A} {l : List A} {v w : ℤ} → Lesser (cost a) v w → Least (λ b. Memᴰ b l) cost v → Least (λ b. Memᴰ b (a ∷ l)) cost w
  least_cons {a} (left h) p =
      record { best = a; member = Memᴰ.head refl; attained = refl; bound = bound_cons (≤ℤ_refl (cost a)) h p.bound }
  least_cons {v} (right h) p =
      record { best = p.best; member = Memᴰ.tail p.member; attained = p.attained; bound = bound_cons h (≤ℤ_refl v) p.bound }

pub least_cost_least : (cost : ℕ → ℤ) (k : ℕ) (ks : List ℕ) → Least (λ j. Memᴰ j (k ∷ ks)) cost (least_cost cost (k ∷ ks))
unfolding least_cost
least_cost_least cost k [] =
    record { best = k; member = Memᴰ.head refl; attained = refl; bound = λ j m. rw (Memᴰ.eq_of_singleton m) (≤ℤ_refl (cost k)) }
least_cost_least cost k (i ∷ ks) = least_cons (lesser (cost k) (least_cost cost (i ∷ ks))) (least_cost_least cost i ks)

-- ---- over the numbers below a bound

-- the choice k up to n goes on as r: the number n is taken where its cost is less
data Choice (cost : ℕ → ℤ) (n k : ℕ) : ℕ → Type 0 where
  taken : cost n <ℤ cost k → Choice cost n k n
  kept : cost k ≤ℤ cost n → Choice cost n k k

module _ (cost : ℕ → ℤ) where
  choice : (n : ℕ) → Choice cost n (first_least cost n) (first_least cost (suc n))
  unfolding first_least
  choice n = go (first_least cost n) (lt_z (cost n) (cost (first_least cost n))) lt_z_yes lt_z_no
    where
      go : (k : ℕ) (c : Bool) → (T c → cost n <ℤ cost k) → (T (not c) → cost k ≤ℤ cost n) → Choice cost n k (cond c n k)
      go k true h l = taken (h tt)
      go k false h l = kept (l tt)

  choice_≤ : {n k r : ℕ} → Choice cost n k r → k ≤ n → r ≤ n
  choice_≤ (taken s) h = omega arith
  choice_≤ (kept s) h = h

  first_least-≤ : (n : ℕ) → first_least cost n ≤ n
  unfolding first_least
  first_least-≤ zero = omega arith
  first_least-≤ (suc n) = omega (arith, choice_≤ (choice n) (first_least-≤ n))

  pub first_least-below : (n : ℕ) → 0 < n → first_least cost n < n
  first_least-below zero h = absurd (omega arith)
  first_least-below (suc n) h = omega (arith, choice_≤ (choice n) (first_least-≤ n))

  choice_bound : {n k r : ℕ} → Choice cost n k r → ((j : ℕ) → j < n → cost k ≤ℤ cost j) → (j : ℕ) → (j ≡ n) ⊎ (j < n) → cost r ≤ℤ cost j
  choice_bound {n} (taken s) bound j (inl e) = rw e (≤ℤ_refl (cost n))
  choice_bound (taken s) bound j (inr l) = ≤ℤ_trans (<ℤ→≤ℤ s) (bound j l)
  choice_bound (kept s) bound j (inl e) = rw e s
  choice_bound (kept s) bound j (inr l) = bound j l

  pub first_least_bound : (n j : ℕ) → j < n → cost (first_least cost n) ≤ℤ cost j
  first_least_bound zero j h = absurd (omega arith)
  first_least_bound (suc n) j h = choice_bound (choice n) (first_least_bound n) j (eq-or-lt_of_le (le_of_suc-le-suc h))

  choice_first : {n k r : ℕ} → Choice cost n k r → ((j : ℕ) → j < n → cost k ≤ℤ cost j) → ((j : ℕ) → j < k → cost k <ℤ cost j)
      → (j : ℕ) → j < r → cost r <ℤ cost j
  choice_first (taken s) bound first j h = <ℤ-≤ℤ_trans s (bound j h)
  choice_first (kept s) bound first j h = first j h

  pub first_least_first : (n j : ℕ) → j < first_least cost n → cost (first_least cost n) <ℤ cost j
  unfolding first_least
  first_least_first zero j h = absurd (omega arith)
  first_least_first (suc n) j h = choice_first (choice n) (first_least_bound n) (first_least_first n) j h

  -- first_least is the one number below n that is least and first
  pub first_least_unique : (n k : ℕ) → k < n → ((j : ℕ) → j < n → cost k ≤ℤ cost j) → ((j : ℕ) → j < k → cost k <ℤ cost j) → k ≡ first_least cost n
  first_least_unique n k h bound first = go (dec_lt k (first_least cost n)) (dec_lt (first_least cost n) k)
    where
      go : Dec (k < first_least cost n) → Dec (first_least cost n < k) → k ≡ first_least cost n
      go (yes l) d = clash_ℤ (first_least_first n k l) (bound (first_least cost n) (first_least-below n (omega arith)))
      go (no a) (yes l) = clash_ℤ (first (first_least cost n) l) (first_least_bound n k h)
      go (no a) (no b) = omega arith
