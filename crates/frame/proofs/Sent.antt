-- The order sent: its places and those of the labels are each other's inverse, so that rearranging words keeps the least cost; and symbols are rearranged one
-- by one. Assumes nothing.
use mathlib.Core.Path.{◌≡◌, sym, ap, ap₂, ◌∙◌}
use mathlib.Core.List.{List, ◌++◌}
use Prim.Native.Nat.{ℕ, zero, suc, ◌+◌, ◌*◌, ◌/◌, ◌%◌, ◌<◌}
use native.Mathlib.Nat.{mul-le-mul_right, div-add-mod', mod-lt, div-lt_iff_lt-mul, div-eq_of_lt, mod-eq_of_lt, mul-add-div_right, mul-add-mod_self_right, add-zero, zero-add, mul-zero, add-mul, add_assoc}
use native.Mathlib.Omega.{arith}
use lib.IntN.{ℤ}
use lib.ListN.{length, get_or, length-append, get_or-append}
use lib.Seq.{get_or-append-add}
use Rattle.arithmetic.specs.Least.{Least}
use Rattle.arithmetic.proofs.Lists.{length_first, get_or_first, first_cong, first_append, first_get_or}
use Rattle.constellation.specs.declared.Modulation.{Modulation}
use Rattle.constellation.specs.Gray.{Label}
use Rattle.constellation.specs.Schemes.{Inverse, bits_per_symbol, sent_place}
use Rattle.constellation.proofs.Schemes.{order_inverse}
use Rattle.frame.specs.Sent.{in_symbol, rearranged, as_sent}
use Rattle.frame.specs.Words.{WordPart, CandidateWord, CandidateWith, word_length}

-- ---- places that are each other's inverse

pub inverse_sym : {n : ℕ} {to back : ℕ → ℕ} → Inverse n to back → Inverse n back to
inverse_sym v = record { to_below = v.back_below; back_below = v.to_below; back_to = v.to_back; to_back = v.back_to }

-- place t of symbol s of b bits
pub in_symbol_at : (b : ℕ) (place : ℕ → ℕ) (s t : ℕ) → t < b → in_symbol b place (s * b + t) ≡ s * b + place t
unfolding in_symbol
in_symbol_at b place s t l =
    let p : 0 < b = omega arith in
    rw (mul-add-div_right p s t, mul-add-mod_self_right s b t, div-eq_of_lt l, mod-eq_of_lt l, add-zero)

module _ {b : ℕ} (n : ℕ) (p : 0 < b) where
  in_symbol_below : (place : ℕ → ℕ) → ((t : ℕ) → t < b → place t < b) → (i : ℕ) → i < n * b → in_symbol b place i < n * b
  unfolding in_symbol
  in_symbol_below place below i h =
      let s : i / b < n = (div-lt_iff_lt-mul p).1 h in
      omega (arith, mul-le-mul_right b s, below (i % b) (mod-lt i p))

  in_symbol_back : (to back : ℕ → ℕ) → ((t : ℕ) → t < b → to t < b) → ((t : ℕ) → t < b → back (to t) ≡ t) → (i : ℕ)
      → in_symbol b back (in_symbol b to i) ≡ i
  in_symbol_back to back below same i =
      let t = mod-lt i p in
      ap (λ j. in_symbol b back (in_symbol b to j)) (sym (div-add-mod' i b))
      ∙ rw (in_symbol_at b to (i / b) (i % b) t, in_symbol_at b back (i / b) (to (i % b)) (below (i % b) t), same (i % b) t) (div-add-mod' i b)

  -- in every symbol alike
  pub inverse_symbols : {to back : ℕ → ℕ} → Inverse b to back → Inverse (n * b) (in_symbol b to) (in_symbol b back)
  inverse_symbols {to} {back} v =
      record {
        to_below = in_symbol_below to v.to_below;
        back_below = in_symbol_below back v.back_below;
        back_to = λ i h. in_symbol_back to back v.to_below v.back_to i;
        to_back = λ i h. in_symbol_back back to v.back_below v.to_back i;
      }

in_symbol_inside : (b n : ℕ) (place : ℕ → ℕ) → ((t : ℕ) → t < b → place t < b) → (i : ℕ) → i < n * b → in_symbol b place i < n * b
in_symbol_inside zero n place below i h = absurd (omega (arith, rw mul-zero at h))
in_symbol_inside (suc b) n place below i h = in_symbol_below n (omega arith) place below i h

in_symbol_behind : (b n : ℕ) (place : ℕ → ℕ) (i : ℕ) → in_symbol b place (n * b + i) ≡ n * b + in_symbol b place i
unfolding in_symbol
in_symbol_behind zero n place i = let none : n * 0 ≡ 0 = mul-zero n in rw (none, zero-add i, zero-add)
in_symbol_behind (suc b) n place i =
    let p : 0 < suc b = omega arith in
    rw (mul-add-div_right p n i, mul-add-mod_self_right n (suc b) i, add-mul, add_assoc)

-- ---- lists rearranged

module _ {A : Type 0} (place : ℕ → ℕ) (d : A) (l : List A) where
  pub length-rearranged : length (rearranged place d l) ≡ length l
  unfolding rearranged
  length-rearranged = length_first _ (length l)

  pub get_or-rearranged : (i : ℕ) → i < length l → get_or (rearranged place d l) i d ≡ get_or l (place i) d
  unfolding rearranged
  get_or-rearranged i h = get_or_first _ (length l) i d h

pub rearranged-back : {A : Type 0} {to back : ℕ → ℕ} (d : A) (l : List A) → Inverse (length l) to back → rearranged back d (rearranged to d l) ≡ l
unfolding rearranged
rearranged-back {to} {back} d l v =
    rw (length_first (λ i. get_or l (to i) d) (length l))
    (first_cong _ _ (length l) (λ i h. get_or_first _ (length l) (back i) d (v.back_below i h) ∙ ap (λ j. get_or l j d) (v.to_back i h)) ∙ first_get_or l d)

pub label_rearranged : {n : ℕ} {to back : ℕ → ℕ} {label : List ℕ} → Inverse n to back → Label n label → Label n (rearranged to 0 label)
label_rearranged {to} {label} v l =
    let e = l.fills in
    let f : length (rearranged to 0 label) ≡ length label = length-rearranged to 0 label in
    record {
      fills = f ∙ e;
      bits = record { bit = λ j h. rw (get_or-rearranged to 0 label j (omega arith)) (l.bits.bit (to j) (omega (arith, v.to_below j (omega arith)))) };
    }

-- ---- rearranging keeps the least cost of the words with a bit given

module _ (ps : List WordPart) {to back : ℕ → ℕ} (v : Inverse (word_length ps) to back) (cost : List ℕ → ℤ) where
  back_to_lem : {word : List ℕ} → CandidateWord ps word → rearranged back 0 (rearranged to 0 word) ≡ word
  back_to_lem {word} c = rearranged-back 0 word (rw c.fills v)

  pub least_with_rearranged : {i β : ℕ} {z : ℤ} → i < word_length ps → Least (CandidateWith ps (to i) β) cost z
      → Least (CandidateWith ps i β) (λ word. cost (rearranged back 0 word)) z
  least_with_rearranged {i} h l =
      record {
        best = rearranged to 0 l.best;
        member = record {
          candidate = label_rearranged v l.member.candidate;
          given = get_or-rearranged to 0 l.best i (rw l.member.candidate.fills h) ∙ l.member.given;
        };
        attained = rw (back_to_lem l.member.candidate) l.attained;
        bound = λ word c. l.bound (rearranged back 0 word) (record {
          candidate = label_rearranged (inverse_sym v) c.candidate;
          given = get_or-rearranged back 0 word (to i) (rw c.candidate.fills (v.to_below i h)) ∙ rw (v.back_to i h) c.given;
        });
      }

-- ---- what is sent

-- label by label
pub as_sent_in_order : {A : Type 0} (q : Modulation) (d : A) (l : List A) → ((j : ℕ) → sent_place q j ≡ j) → as_sent q d l ≡ l
unfolding rearranged in_symbol
as_sent_in_order q d l same =
    first_cong _ _ (length l) (λ i h. ap (λ j. get_or l j d) (rw (same (i % bits_per_symbol q)) (div-add-mod' i (bits_per_symbol q)))) ∙ first_get_or l d

-- whole symbols, and what comes behind them
pub as_sent_append : {A : Type 0} (q : Modulation) (d : A) (n : ℕ) (xs ys : List A) → length xs ≡ n * bits_per_symbol q
    → as_sent q d (xs ++ ys) ≡ as_sent q d xs ++ as_sent q d ys
unfolding rearranged
as_sent_append q d n xs ys whole =
    let b = bits_per_symbol q in
    let place = sent_place q in
    let inside : (i : ℕ) → i < length xs → in_symbol b place i < length xs = λ i h. rw whole (in_symbol_inside b n place (order_inverse q).to_below i (rw whole at h)) in
    let behind : (i : ℕ) → in_symbol b place (length xs + i) ≡ length xs + in_symbol b place i = λ i. rw whole (in_symbol_behind b n place i) in
    rw (length-append xs ys, first_append)
    (ap₂ ◌++◌ (first_cong _ _ (length xs) (λ i h. get_or-append xs ys d _ (inside i h)))
    (first_cong _ _ (length ys) (λ i h. ap (λ j. get_or (xs ++ ys) j d) (behind i) ∙ get_or-append-add xs ys _ d)))
