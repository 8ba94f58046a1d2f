-- Laws of the lists that loops make (`first`, `joined`), of a list written into a buffer (`over`), of a chosen part (`keep`)
-- and of lists made from each entry (`flat_map`).
-- Assumes nothing.
use mathlib.Core.Path.{◌≡◌, refl, sym, ap, ◌∙◌}
use mathlib.Core.Logic.{◌⊎◌, inl, inr}
use mathlib.Core.Bool.{Bool, true, false, cond}
use mathlib.Core.List.{List, [], ◌∷◌, ◌++◌, map, flat_map, map-append, append-nil, append_assoc}
use mathlib.Core.List.Memᴰ
use mathlib.Core.List.{Memᴰ}
use Prim.Native.Nat.{ℕ, zero, suc, ◌+◌, ◌*◌, ◌≤◌, ◌<◌}
use native.Mathlib.Numerals.{add-one}
use native.Mathlib.Nat.{eq-or-lt_of_le, le_of_suc-le-suc, zero-add, add-zero, add-suc, zero-mul, suc-mul}
use native.Mathlib.Omega.{arith}
use lib.Dec.{T}
use lib.ListN.{length, take, drop, get_or, set, length-append, length-take, length-set, take-append-drop, get_or-append}
use lib.Seq.{take-suc, take_at, drop_at, get_or_at, set_at, drop-cons, drop-drop, take-take, take-append-le, take-append_seam, drop-append_seam, append_snoc}
use Rattle.arithmetic.specs.Lists.{first, joined, over, keep}

-- ---- f 0, f 1, .. f (n − 1)

module _ {A : Type 0} where
  pub length_first : (f : ℕ → A) (n : ℕ) → length (first f n) ≡ n
  unfolding first
  length_first f zero = refl
  length_first f (suc n) = simp (length-append, length_first f n) (omega arith)

  pub get_or_first : (f : ℕ → A) (n i : ℕ) (d : A) → i < n → get_or (first f n) i d ≡ f i
  unfolding first
  get_or_first f zero i d h = absurd (omega arith)
  get_or_first f (suc n) i d h = go (eq-or-lt_of_le (le_of_suc-le-suc h)) (get_or_first f n i d)
    where
      go : (i ≡ n) ⊎ (i < n) → (i < n → get_or (first f n) i d ≡ f i) → get_or (first f n ++ (f n ∷ [])) i d ≡ f i
      go (inl e) below = get_or_at (first f n) (f n) [] d i (length_first f n ∙ sym e) ∙ ap f (sym e)
      go (inr l) below = get_or-append (first f n) (f n ∷ []) d i (rw length_first l) ∙ below l

  pub first_cong : (f g : ℕ → A) (n : ℕ) → ((i : ℕ) → i < n → f i ≡ g i) → first f n ≡ first g n
  unfolding first
  first_cong f g zero same = refl
  first_cong f g (suc n) same =
      rw (first_cong f g n (λ i h. same i (omega arith)), same n (omega arith)) refl

  -- the first entry split off in front
  pub first_head : (f : ℕ → A) (n : ℕ) → first f (suc n) ≡ f 0 ∷ first (λ i. f (suc i)) n
  unfolding first
  first_head f zero = refl
  first_head f (suc n) = ap (λ (l : List A). l ++ (f (suc n) ∷ [])) (first_head f n)

  pub take_first : (f : ℕ → A) (n m : ℕ) → n ≤ m → take n (first f m) ≡ first f n
  unfolding first
  take_first f zero m h = refl
  take_first f (suc n) zero h = absurd (omega arith)
  take_first f (suc n) (suc m) h = rw (first_head f m, first_head f n, take_first (λ i. f (suc i)) n m (omega arith)) refl

  pub first_mem : (f : ℕ → A) (n : ℕ) {x : A} → Memᴰ x (first f n) → (i : ℕ) × (i < n) × (x ≡ f i)
  unfolding first
  first_mem f zero m = absurd (Memᴰ.not-nil m)
  first_mem f (suc n) {x} m = go (Memᴰ.append_cases (first f n) m) (first_mem f n)
    where
      go : Memᴰ x (first f n) ⊎ Memᴰ x (f n ∷ []) → (Memᴰ x (first f n) → (i : ℕ) × (i < n) × (x ≡ f i))
          → (i : ℕ) × (i < suc n) × (x ≡ f i)
      go (inl k) below = let (i, h, e) = below k in (i, omega arith, e)
      go (inr k) below = (n, omega arith, Memᴰ.eq_of_singleton k)

  pub mem_first : (f : ℕ → A) (n i : ℕ) → i < n → Memᴰ (f i) (first f n)
  unfolding first
  mem_first f zero i h = absurd (omega arith)
  mem_first f (suc n) i h = go (eq-or-lt_of_le (le_of_suc-le-suc h)) (mem_first f n i)
    where
      go : (i ≡ n) ⊎ (i < n) → (i < n → Memᴰ (f i) (first f n)) → Memᴰ (f i) (first f n ++ (f n ∷ []))
      go (inl e) below = Memᴰ.append_right (first f n) (Memᴰ.head (ap f e))
      go (inr l) below = Memᴰ.append_left (f n ∷ []) (below l)

-- ---- f 0, then f 1, .. then f (n − 1)

module _ {A : Type 0} where
  pub joined_cong : (f g : ℕ → List A) (n : ℕ) → ((i : ℕ) → i < n → f i ≡ g i) → joined f n ≡ joined g n
  unfolding joined
  joined_cong f g zero same = refl
  joined_cong f g (suc n) same =
      rw (joined_cong f g n (λ i h. same i (omega arith)), same n (omega arith)) refl

  pub length_joined : (f : ℕ → List A) (c n : ℕ) → ((i : ℕ) → i < n → length (f i) ≡ c) → length (joined f n) ≡ n * c
  unfolding joined
  length_joined f c zero all = omega arith
  length_joined f c (suc n) all =
      simp (length-append, length_joined f c n (λ i h. all i (omega arith)), all n (omega arith)) (omega arith)

module _ {A B : Type 0} (g : A → B) where
  pub map_first : (f : ℕ → A) (n : ℕ) → map g (first f n) ≡ first (λ i. g (f i)) n
  unfolding first
  map_first f zero = refl
  map_first f (suc n) = rw (map-append, map_first f n) refl

-- ---- a list written over a buffer

module _ {A : Type 0} where
  pub over_start : (d s : List A) → over d 0 s ≡ s ++ drop (length s) d
  unfolding over
  over_start d s = rw zero-add

  -- an entry of those written over the start of a buffer
  pub get_d_over : (d : List A) (f : ℕ → A) (n i : ℕ) (x : A) → i < n → get_or (over d 0 (first f n)) i x ≡ f i
  get_d_over d f n i x h = rw over_start (get_or-append (first f n) _ x i (rw length_first h) ∙ get_or_first f n i x h)

  pub over_nothing : (d : List A) (at : ℕ) → over d at [] ≡ d
  unfolding over
  over_nothing d at = rw (append-nil, add-zero) (take-append-drop at d)

  -- the part up to the end of what is written
  length_front : (d : List A) (at : ℕ) (s : List A) → at + length s ≤ length d → length (take at d ++ s) ≡ at + length s
  length_front d at s h = simp (length-append, length-take) (omega arith)

  -- writing one entry more
  pub over_step : (d : List A) (at : ℕ) (s : List A) (x : A) → at + length s < length d
      → over d at (s ++ (x ∷ [])) ≡ set (over d at s) (at + length s) x
  unfolding over
  over_step d at s x h =
      let end : at + length (s ++ (x ∷ [])) ≡ suc (at + length s) = simp length-append (omega arith) in
      let front = length_front d at s (omega arith) in
      rw (end, ← append_assoc (take at d) s (x ∷ []), append_snoc, drop-cons d (at + length s) x h)
      (sym (set_at (take at d ++ s) (get_or d (at + length s) x) (drop (suc (at + length s)) d) x (at + length s) front))

  -- writing on behind what is written
  pub over_more : (d : List A) (at : ℕ) (s t : List A) → at + length s ≤ length d
      → over (over d at s) (at + length s) t ≡ over d at (s ++ t)
  unfolding over
  over_more d at s t h =
      let front = length_front d at s h in
      let end : at + length (s ++ t) ≡ at + length s + length t = simp length-append (omega arith) in
      rw (end, ← append_assoc (take at d) s t, ← drop-drop (length t) (at + length s) (over d at s), take_at (take at d ++ s) _ _ front, drop_at (take at d ++ s) _ _ front, drop-drop) refl

  pub take_over : (d s : List A) → take (length s) (over d 0 s) ≡ s
  take_over d s = rw over_start (take-append_seam s (drop (length s) d))

  -- fewer entries than are written
  pub take_over_less : (d l : List A) (n m : ℕ) → n ≤ m → n ≤ length l → take n (over d 0 (take m l)) ≡ take n l
  take_over_less d l n m h k =
      let inside : n ≤ length (take m l) = simp length-take (omega arith) in
      rw (over_start, take-append-le n (take m l) (drop (length (take m l)) d) inside) (take-take n m l h)

  pub drop_over : (d s : List A) → drop (length s) (over d 0 s) ≡ drop (length s) d
  drop_over d s = rw over_start (drop-append_seam s (drop (length s) d))

  -- one entry more in front
  pub over_set_front : (d : List A) (at : ℕ) (s : List A) (x : A) → at < length d → set (over d (at + 1) s) at x ≡ over d at (x ∷ s)
  unfolding over
  over_set_front d at s x h =
      let front : length (take at d) ≡ at = simp length-take (omega arith) in
      let end : at + length (x ∷ s) ≡ suc at + length s = omega arith in
      rw (end, add-one, take-suc d at x h) (simp append_assoc (set_at (take at d) (get_or d at x) (s ++ drop (suc at + length s) d) x at front))

-- the list l is the buffer d with f 0, f 1, .. f (n − 1) written over it from the position `at` on
pub record Filled {A : Type 0} (d : List A) (at : ℕ) (f : ℕ → A) (n : ℕ) (l : List A) : Type 0 where
  pub contents : l ≡ over d at (first f n)
  pub long : length l ≡ length d

module _ {A : Type 0} {d : List A} {at : ℕ} {f : ℕ → A} where
  pub filled_none : Filled d at f 0 d
  unfolding first
  filled_none = record { contents = sym (over_nothing d at); long = refl }

  -- one entry more, at the position i
  pub filled_more : {n k : ℕ} {l : List A} {x : A} → Filled d at f n l → (i : ℕ) → i ≡ at + n → k ≡ n + 1 → i < length d → x ≡ f n
      → Filled d at f k (set l i x)
  unfolding first
  filled_more {n} {l} {x} filled i place count h e =
      record {
        contents = rw (filled.contents, place, count, e, add-one) (sym (rw length_first at (over_step d at (first f n) (f n) (rw length_first (omega arith)))));
        long = length-set l i x ∙ filled.long;
      }

-- ---- the entries that pass a test

module _ {A : Type 0} (test : A → Bool) where
  pub keep_mem : (xs : List A) {x : A} → Memᴰ x (keep test xs) → Memᴰ x xs × T (test x)
  unfolding keep
  keep_mem [] m = absurd (Memᴰ.not-nil m)
  keep_mem (y ∷ ys) {x} m = go (test y) refl m (keep_mem ys)
    where
      kept : test y ≡ true → (x ≡ y) ⊎ Memᴰ x (keep test ys) → (Memᴰ x (keep test ys) → Memᴰ x ys × T (test x))
          → Memᴰ x (y ∷ ys) × T (test x)
      kept t (inl e) below = (Memᴰ.head e, rw (e, t) tt)
      kept t (inr k) below = (Memᴰ.tail (below k).0, (below k).1)

      go : (b : Bool) → test y ≡ b → Memᴰ x (cond b (y ∷ keep test ys) (keep test ys))
          → (Memᴰ x (keep test ys) → Memᴰ x ys × T (test x)) → Memᴰ x (y ∷ ys) × T (test x)
      go true t k below = kept t (Memᴰ.cases_cons k) below
      go false t k below = (Memᴰ.tail (below k).0, (below k).1)

  pub mem_keep : {x : A} {xs : List A} → Memᴰ x xs → T (test x) → Memᴰ x (keep test xs)
  unfolding keep
  mem_keep {x} (Memᴰ.head {x = y} {xs = ys} e) t = go (test y) (rw e at t)
    where
      go : (b : Bool) → T b → Memᴰ x (cond b (y ∷ keep test ys) (keep test ys))
      go true t = Memᴰ.head e
      go false t = absurd t
  mem_keep {x} (Memᴰ.tail {x = y} {xs = ys} m) t = go (test y) (mem_keep m t)
    where
      go : (b : Bool) → Memᴰ x (keep test ys) → Memᴰ x (cond b (y ∷ keep test ys) (keep test ys))
      go true k = Memᴰ.tail k
      go false k = k

-- ---- a list cut into shares, and lists made from each entry

module _ {A : Type 0} where
  pub first_append : (f : ℕ → A) (n k : ℕ) → first f (n + k) ≡ first f n ++ first (λ i. f (n + i)) k
  unfolding first
  first_append f n zero = rw (add-zero, append-nil)
  first_append f n (suc k) = rw (add-suc, first_append f n k, append_assoc)

  pub drop_first : (f : ℕ → A) (m k : ℕ) → drop m (first f (m + k)) ≡ first (λ i. f (m + i)) k
  drop_first f m k = rw first_append (drop_at (first f m) (first (λ i. f (m + i)) k) m (length_first f m))

  -- n shares of c entries each
  pub joined_first : (f : ℕ → A) (c n : ℕ) → joined (λ q. first (λ i. f (q * c + i)) c) n ≡ first f (n * c)
  unfolding joined first
  joined_first f c zero = rw zero-mul
  joined_first f c (suc n) = rw (joined_first f c n, suc-mul) (sym (first_append f (n * c) c))

  pub joined_append : (f : ℕ → List A) (n k : ℕ) → joined f (n + k) ≡ joined f n ++ joined (λ i. f (n + i)) k
  unfolding joined
  joined_append f n zero = rw (add-zero, append-nil)
  joined_append f n (suc k) = rw (add-suc, joined_append f n k, append_assoc)

  -- n shares of c lists each
  pub joined_shares : (f : ℕ → List A) (c n : ℕ) → joined (λ q. joined (λ i. f (q * c + i)) c) n ≡ joined f (n * c)
  unfolding joined
  joined_shares f c zero = rw zero-mul
  joined_shares f c (suc n) = rw (joined_shares f c n, suc-mul) (sym (joined_append f (n * c) c))

  pub first_get_or : (l : List A) (d : A) → first (λ i. get_or l i d) (length l) ≡ l
  unfolding first
  first_get_or [] d = refl
  first_get_or (x ∷ l) d = first_head (λ i. get_or (x ∷ l) i d) (length l) ∙ ap (λ (t : List A). x ∷ t) (first_get_or l d)

  pub take-get_or : (l : List A) (d : A) (n : ℕ) → n ≤ length l → take n l ≡ first (λ i. get_or l i d) n
  take-get_or l d n h = ap (take n) (sym (first_get_or l d)) ∙ take_first (λ i. get_or l i d) n (length l) h

  -- filled with the first entries of a list
  pub filled_copy : {d l : List A} {at n : ℕ} (s : List A) (x : A) (count : ℕ) → Filled d at (λ i. get_or s i x) n l → n ≡ count → count ≤ length s
      → l ≡ over d at (take count s)
  filled_copy s x count filled all h = rw (take-get_or s x count h, ← all) filled.contents

module _ {A B : Type 0} (h : A → List B) where
  pub flat_map-append : (xs ys : List A) → flat_map h (xs ++ ys) ≡ flat_map h xs ++ flat_map h ys
  unfolding flat_map
  flat_map-append [] ys = refl
  flat_map-append (x ∷ xs) ys = rw (flat_map-append xs ys, append_assoc)

  pub flat_map_joined : (f : ℕ → List A) (n : ℕ) → flat_map h (joined f n) ≡ joined (λ i. flat_map h (f i)) n
  unfolding joined flat_map
  flat_map_joined f zero = refl
  flat_map_joined f (suc n) = rw (flat_map-append, flat_map_joined f n)

  flat_map_first : (f : ℕ → A) (n : ℕ) → flat_map h (first f n) ≡ joined (λ i. h (f i)) n
  unfolding first joined flat_map
  flat_map_first f zero = refl
  flat_map_first f (suc n) = rw (flat_map-append, flat_map_first f n, append-nil)

  pub flat_map_entries : (l : List A) (d : A) → flat_map h l ≡ joined (λ i. h (get_or l i d)) (length l)
  flat_map_entries l d = ap (flat_map h) (sym (first_get_or l d)) ∙ flat_map_first (λ i. get_or l i d) (length l)

-- the same made from each entry
pub flat_map_cong : {A B : Type 0} (f g : A → List B) (l : List A) (d : A) → ((i : ℕ) → i < length l → f (get_or l i d) ≡ g (get_or l i d)) → flat_map f l ≡ flat_map g l
flat_map_cong f g l d same = flat_map_entries f l d ∙ joined_cong _ _ (length l) same ∙ sym (flat_map_entries g l d)
