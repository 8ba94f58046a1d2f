-- Parts with the weights of their symbols: the parts alone, and the parts of words in which each cost is multiplied by its weight, are two columns of
-- such a list. The theorems about words go over it. Assumes nothing.
use mathlib.Core.Path.{◌≡◌, refl, sym, ap, ap₂, ◌∙◌}
use mathlib.Core.List.{List, [], ◌∷◌, ◌++◌, map, flat_map, map-append}
use Prim.Native.Nat.{ℕ, zero, suc, ◌*◌}
use native.Mathlib.Nat.{mul-le-mul_left}
use native.Mathlib.Omega.{arith}
use lib.IntN.{ℤ, pos, ◌*ℤ◌, ◌-ℤ◌, *ℤ_comm, *ℤ-one, one}
use lib.ListN.{length, length-append}
use lib.Signed.{◌≤ℤ◌}
use Rattle.arithmetic.specs.Lists.{first, joined}
use Rattle.arithmetic.proofs.Integers.{as_diff, diffs}
use Rattle.arithmetic.proofs.Lists.{length_first, first_cong, first_append, joined_cong, flat_map_joined}
use Rattle.constellation.specs.Parts.{Part}
use Rattle.demapper.specs.Reading.{part_soft}
use Rattle.demapper.specs.Soft.{cost_difference, soft_value}
use Rattle.frame.specs.Frame.{Frame, symbol_count, parts_of_symbol, frame_parts, symbol_weight, frame_scale, softened, symbol_softs}
use Rattle.frame.specs.Words.{WordPart, word_part}
use Rattle.frame.specs.Demand3.{frame_places}

pub record Weighed : Type 0 where
  pub weight : ℕ
  pub part : Part

-- the two columns
unfoldable pub parts_in : List Weighed → List Part
parts_in xs = map (λ (x : Weighed). x.part) xs

unfoldable pub words_of : List Weighed → List WordPart
words_of xs = map (λ (x : Weighed). word_part x.weight x.part) xs

-- parts of one weight, and those of a frame
unfoldable pub weighed : ℕ → List Part → List Weighed
weighed w ps = map (λ p. record { weight = w; part = p }) ps

unfoldable pub frame_weighed : (ℕ → ℕ) → Frame → List Weighed
frame_weighed weight f = joined (λ n. weighed (weight n) (parts_of_symbol f n)) (symbol_count f)

-- ---- the columns of what is weighed

map_joined : {A B : Type 0} (g : A → B) (f : ℕ → List A) (n : ℕ) → map g (joined f n) ≡ joined (λ i. map g (f i)) n
unfolding joined
map_joined g f zero = refl
map_joined g f (suc n) = rw (map-append, map_joined g f n)

pub parts_of_weighed : (w : ℕ) (ps : List Part) → parts_in (weighed w ps) ≡ ps
unfolding parts_in weighed
parts_of_weighed w [] = refl
parts_of_weighed w (p ∷ ps) = rw (parts_of_weighed w ps)

pub words_of_weighed : (w : ℕ) (ps : List Part) → words_of (weighed w ps) ≡ map (word_part w) ps
unfolding words_of weighed
words_of_weighed w [] = refl
words_of_weighed w (p ∷ ps) = rw (words_of_weighed w ps)

module _ (weight : ℕ → ℕ) (f : Frame) where
  pub parts_of_frame : parts_in (frame_weighed weight f) ≡ frame_parts f
  unfolding parts_in frame_weighed frame_parts
  parts_of_frame = map_joined _ _ (symbol_count f) ∙ joined_cong _ _ (symbol_count f) (λ n l. parts_of_weighed (weight n) (parts_of_symbol f n))

  pub words_of_frame : words_of (frame_weighed weight f) ≡ frame_places weight f
  unfolding words_of frame_weighed frame_places
  words_of_frame = map_joined _ _ (symbol_count f) ∙ joined_cong _ _ (symbol_count f) (λ n l. words_of_weighed (weight n) (parts_of_symbol f n))

-- ---- weights and costs

pub weighed_le : (w : ℕ) {a b : ℤ} → a ≤ℤ b → (pos w *ℤ a) ≤ℤ (pos w *ℤ b)
weighed_le w {a} {b} = rw (as_diff a, as_diff b) (simp diffs (λ h. omega (arith, mul-le-mul_left w h)))

pub weighed_once : (a : ℤ) → pos 1 *ℤ a ≡ a
unfolding one
weighed_once a = *ℤ_comm (pos 1) a ∙ *ℤ-one a

pub weighed_difference : (w : ℕ) (a b : ℤ) → pos w *ℤ a -ℤ pos w *ℤ b ≡ pos w *ℤ (a -ℤ b)
weighed_difference w a b = rw (as_diff a, as_diff b) (simp diffs (omega arith))

-- a weight before the difference is one behind it
pub soft_weighed : (v w shift T : ℕ) (N : ℤ) → soft_value (v * w) shift T N ≡ soft_value w shift T (pos v *ℤ N)
unfolding soft_value
soft_weighed v w shift T N =
    let e : N *ℤ pos (v * w) ≡ (pos v *ℤ N) *ℤ pos w = rw (as_diff N) (simp diffs (omega arith)) in
    rw e

-- ---- lists with an entry for each bit

-- the same entry everywhere
pub constant_entries : {B : Type 0} (c : B) (ps : List Part) → let l = flat_map (λ (p : Part). first (λ i. c) p.bits) ps in l ≡ first (λ i. c) (length l)
unfolding flat_map first
constant_entries c [] = refl
constant_entries c (p ∷ ps) = rw (length-append, length_first, first_append) (ap (λ l. first (λ i. c) p.bits ++ l) (constant_entries c ps))

-- what is made of parts and weights, of parts with one weight
pub weighed_entries : {B : Type 0} (h : Weighed → List B) (w : ℕ) (ps : List Part)
    → flat_map h (weighed w ps) ≡ flat_map (λ p. h (record { weight = w; part = p })) ps
unfolding flat_map weighed
weighed_entries h w [] = refl
weighed_entries h w (p ∷ ps) = rw (weighed_entries h w ps)

-- the soft values of a frame, by a weight in the differences and one behind them
module _ (weight : ℕ → ℕ) (w : ℕ) (f : Frame) (same : (n : ℕ) → symbol_weight f n ≡ weight n * w) where
  abbrev soft_of : Weighed → ℕ → ℤ
  soft_of x i = softened f w (pos x.weight *ℤ cost_difference x.part i)

  symbol_softs_lem : (n : ℕ) (ps : List Part)
      → flat_map (λ p. first (soft_of (record { weight = weight n; part = p })) p.bits) ps ≡ flat_map (part_soft (frame_scale f (symbol_weight f n))) ps
  unfolding flat_map part_soft softened
  symbol_softs_lem n [] = refl
  symbol_softs_lem n (p ∷ ps) =
      ap₂ ◌++◌ (first_cong _ _ p.bits (λ i h. rw (same n) (sym (soft_weighed (weight n) w (frame_scale f w).shift f.header.limit (cost_difference p i))))) (symbol_softs_lem n ps)

  pub softs_weighed : flat_map (λ x. first (soft_of x) x.part.bits) (frame_weighed weight f) ≡ joined (symbol_softs f) (symbol_count f)
  unfolding frame_weighed symbol_softs
  softs_weighed =
      flat_map_joined _ _ (symbol_count f)
      ∙ joined_cong _ _ (symbol_count f) (λ n l. weighed_entries _ (weight n) (parts_of_symbol f n) ∙ symbol_softs_lem n (parts_of_symbol f n))
