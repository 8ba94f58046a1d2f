-- Laws of entries written into a buffer at equal distances (`spread`): at distance 1 they are a list written over it, and two that are written by turns are
-- one such list. Assumes nothing.
use mathlib.Core.Path.{◌≡◌, refl, sym, ap, ◌∙◌}
use mathlib.Core.Logic.{◌≢◌}
use mathlib.Core.List.{List, [], ◌∷◌}
use Prim.Native.Nat.{ℕ, zero, suc, ◌+◌, ◌*◌, ◌≤◌, ◌<◌}
use native.Mathlib.Numerals.{add-one}
use native.Mathlib.Nat.{mul-one}
use native.Mathlib.Omega.{arith}
use lib.ListN.{length, set, length-set}
use Rattle.arithmetic.specs.Lists.{first, over, spread}
use Rattle.arithmetic.proofs.Lists.{length_first, over_nothing, over_step}

module _ {A : Type 0} where
  -- entries at two positions are written in either order
  set_turns : (l : List A) (i j : ℕ) (a b : A) → i ≢ j → set (set l i a) j b ≡ set (set l j b) i a
  set_turns [] i j a b d = refl
  set_turns (x ∷ xs) zero zero a b d = absurd (d refl)
  set_turns (x ∷ xs) zero (suc j) a b d = refl
  set_turns (x ∷ xs) (suc i) zero a b d = refl
  set_turns (x ∷ xs) (suc i) (suc j) a b d = ap (λ (l : List A). x ∷ l) (set_turns xs i j a b (λ e. d (ap suc e)))

  pub length_spread : (d : List A) (at apart : ℕ) (f : ℕ → A) (n : ℕ) → length (spread d at apart f n) ≡ length d
  unfolding spread
  length_spread d at apart f zero = refl
  length_spread d at apart f (suc n) = length-set (spread d at apart f n) _ (f n) ∙ length_spread d at apart f n

  pub spread_cong : (d : List A) (at apart : ℕ) (f g : ℕ → A) (n : ℕ) → ((i : ℕ) → i < n → f i ≡ g i) → spread d at apart f n ≡ spread d at apart g n
  unfolding spread
  spread_cong d at apart f g zero same = refl
  spread_cong d at apart f g (suc n) same = rw (spread_cong d at apart f g n (λ i h. same i (omega arith)), same n (omega arith))

-- entries f 0 .. f (n − 1) written into the buffer d, `apart` from each other
pub record Spread {A : Type 0} (d : List A) (at apart : ℕ) (f : ℕ → A) (n : ℕ) (l : List A) : Type 0 where
  pub contents : l ≡ spread d at apart f n
  pub long : length l ≡ length d

module _ {A : Type 0} {d : List A} {at apart : ℕ} {f : ℕ → A} where
  pub spread_none : Spread d at apart f 0 d
  unfolding spread
  spread_none = record { contents = refl; long = refl }

  -- one entry more, at the position i
  pub spread_more : {n i : ℕ} {l : List A} {x : A} → Spread d at apart f n l → i ≡ at + n * apart → x ≡ f n → Spread d at apart f (n + 1) (set l i x)
  unfolding spread
  spread_more {i} {l} {x} s place e = record { contents = rw (s.contents, place, e, add-one); long = length-set l i x ∙ s.long }

module _ {A : Type 0} where
  -- at distance 1
  pub spread_over : (d : List A) (at : ℕ) (f : ℕ → A) (n : ℕ) → at + n ≤ length d → spread d at 1 f n ≡ over d at (first f n)
  unfolding spread first
  spread_over d at f zero h = sym (over_nothing d at)
  spread_over d at f (suc n) h =
      rw (spread_over d at f n (omega arith), mul-one) (sym (rw length_first at (over_step d at (first f n) (f n) (rw length_first (omega arith)))))

  -- an entry between those that are written may be written before them
  spread_set : (d : List A) (at apart : ℕ) (f : ℕ → A) (n i : ℕ) (x : A) → ((k : ℕ) → k < n → i ≢ at + k * apart)
      → spread (set d i x) at apart f n ≡ set (spread d at apart f n) i x
  unfolding spread
  spread_set d at apart f zero i x free = refl
  spread_set d at apart f (suc n) i x free =
      rw (spread_set d at apart f n i x (λ k h. free k (omega arith))) (set_turns (spread d at apart f n) i _ x (f n) (free n (omega arith)))

  -- by turns: the entries of h at even places, and then those at odd ones
  pub spread_by_turns : (d : List A) (at : ℕ) (h : ℕ → A) (n : ℕ)
      → spread (spread d at 2 (λ i. h (2 * i)) n) (at + 1) 2 (λ i. h (2 * i + 1)) n ≡ spread d at 1 h (2 * n)
  unfolding spread
  spread_by_turns d at h zero = refl
  spread_by_turns d at h (suc n) =
      let both : 2 * suc n ≡ suc (suc (2 * n)) = omega arith in
      let even : at + 2 * n * 1 ≡ at + n * 2 = omega arith in
      let odd : at + suc (2 * n) * 1 ≡ at + 1 + n * 2 = omega arith in
      rw (both, even, odd, spread_set (spread d at 2 (λ i. h (2 * i)) n) (at + 1) 2 (λ i. h (2 * i + 1)) n (at + n * 2) (h (2 * n)) (λ k l e. omega arith), spread_by_turns d at h n, ← add-one (2 * n))
