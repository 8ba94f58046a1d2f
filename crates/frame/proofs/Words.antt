-- The frame theorem (REQUIREMENTS, "Demands" 3) over word parts with any costs: best labels make a best word, and the least cost of the
-- words with one bit given is the least of that bit's part with it given, plus what the other parts cost at best.
-- That the parts of a frame have best labels is not here. Assumes nothing.
use mathlib.Core.Path.{◌≡◌, refl, ◌∙◌}
use mathlib.Core.List.{List, [], ◌∷◌, ◌++◌}
use Prim.Native.Nat.{ℕ, ◌+◌, ◌<◌}
use native.Mathlib.Omega.{arith}
use lib.IntN.{ℤ, pos, ◌+ℤ◌, ◌-ℤ◌}
use lib.ListN.{get_or, take, drop, get_or-append}
use lib.Seq.{take_at, drop_at, get_or-append-add, get_or-take, get_or-drop}
use lib.Signed.{◌≤ℤ◌, ≤ℤ_refl}
use Rattle.arithmetic.specs.Least.{Least}
use Rattle.arithmetic.proofs.Integers.{+ℤ_mono, +ℤ_left_comm, -ℤ-+ℤ_both}
use Rattle.constellation.specs.Gray.{Label}
use Rattle.constellation.proofs.Labels.{label_append, label_take, label_drop}
use Rattle.frame.specs.Words.{WordPart, word_length, CandidateWord, CandidateWith, word_cost}

-- ---- labels of a part, and words by their parts

-- a label of a part whose bit i is β
pub record LabelWith (p : WordPart) (i β : ℕ) (label : List ℕ) : Type 0 where
  pub candidate : Label p.places label
  pub given : get_or label i 0 ≡ β

-- a word made of a best label of each part
pub data BestWord : List WordPart → List ℕ → Type 0 where
  none : BestWord [] []
  more : {p : WordPart} {ps : List WordPart} {best word : List ℕ} → Label p.places best
      → ((label : List ℕ) → Label p.places label → p.cost_of best ≤ℤ p.cost_of label) → BestWord ps word → BestWord (p ∷ ps) (best ++ word)

-- place i of a word is place t of the part q
pub data PartAt : List WordPart → ℕ → WordPart → ℕ → Type 0 where
  here : {p : WordPart} {ps : List WordPart} {i : ℕ} → i < p.places → PartAt (p ∷ ps) i p i
  there : {p q : WordPart} {ps : List WordPart} {i j t : ℕ} → i ≡ p.places + j → PartAt ps j q t → PartAt (p ∷ ps) i q t

-- ---- a label of the first part in front of a word of the others

pub cost_cons : (p : WordPart) (ps : List WordPart) {label : List ℕ} (word : List ℕ) → Label p.places label
    → word_cost (p ∷ ps) (label ++ word) ≡ p.cost_of label +ℤ word_cost ps word
unfolding word_cost
cost_cons p ps {label} word l = rw (take_at label word p.places l.fills, drop_at label word p.places l.fills)

-- words made of a set of labels and a set of words of the other parts: the least costs of the two add up
least_cons : (p : WordPart) (ps : List WordPart) {Front Back Both : List ℕ → Type 0}
    → ((label : List ℕ) → Front label → Label p.places label)
    → ((label word : List ℕ) → Front label → Back word → Both (label ++ word))
    → ((word : List ℕ) → Both word → Front (take p.places word) × Back (drop p.places word))
    → {v w : ℤ} → Least Front p.cost_of v → Least Back (word_cost ps) w → Least Both (word_cost (p ∷ ps)) (v +ℤ w)
unfolding word_cost
least_cons p ps fits join split a b =
    record {
      best = a.best ++ b.best;
      member = join a.best b.best a.member b.member;
      attained = cost_cons p ps b.best (fits a.best a.member) ∙ rw (a.attained, b.attained);
      bound = λ word m. +ℤ_mono (a.bound _ (split word m).0) (b.bound _ (split word m).1);
    }

-- ---- the word of best labels

pub best_word_candidate : {ps : List WordPart} {word : List ℕ} → BestWord ps word → CandidateWord ps word
unfolding word_length
best_word_candidate none = record { fills = refl; bits = record { bit = λ j h. absurd (omega arith) } }
best_word_candidate (more l b w) = label_append l (best_word_candidate w)

pub best_word_least : {ps : List WordPart} {word : List ℕ} → BestWord ps word
    → (other : List ℕ) → CandidateWord ps other → word_cost ps word ≤ℤ word_cost ps other
unfolding word_cost word_length
best_word_least none other c = ≤ℤ_refl (pos 0)
best_word_least (more {p} {ps} {word} l b w) other c =
    rw (cost_cons p ps word l) (+ℤ_mono (b _ (label_take p.places _ c)) (best_word_least w _ (label_drop p.places _ c)))

least_word : {ps : List WordPart} {word : List ℕ} → BestWord ps word → Least (CandidateWord ps) (word_cost ps) (word_cost ps word)
least_word {word} w = record { best = word; member = best_word_candidate w; attained = refl; bound = best_word_least w }

-- ---- one bit given

-- the bit stands in the first part
least_with_bit_here : (p : WordPart) (ps : List WordPart) {i β : ℕ} {v w : ℤ} → i < p.places → Least (LabelWith p i β) p.cost_of v
    → Least (CandidateWord ps) (word_cost ps) w → Least (CandidateWith (p ∷ ps) i β) (word_cost (p ∷ ps)) (v +ℤ w)
unfolding word_length
least_with_bit_here p ps {i} h =
    least_cons p ps (λ label l. l.candidate)
    (λ label word l w. record { candidate = label_append l.candidate w; given = get_or-append label word 0 i (omega (arith, l.candidate.fills)) ∙ l.given })
    (λ word w. (record { candidate = label_take p.places _ w.candidate; given = get_or-take p.places word i 0 h ∙ w.given }, label_drop p.places _ w.candidate))

-- the bit stands in a later part
least_with_bit_there : (p : WordPart) (ps : List WordPart) {i j β : ℕ} {v w : ℤ} → i ≡ p.places + j → Least (Label p.places) p.cost_of v
    → Least (CandidateWith ps j β) (word_cost ps) w → Least (CandidateWith (p ∷ ps) i β) (word_cost (p ∷ ps)) (v +ℤ w)
unfolding word_length
least_with_bit_there p ps e =
    least_cons p ps (λ label l. l)
    (λ label word l w. record { candidate = label_append l w.candidate; given = rw (e, ← l.fills, get_or-append-add) w.given })
    (λ word w. (label_take p.places _ w.candidate, record { candidate = label_drop p.places _ w.candidate; given = rw (get_or-drop, ← e) w.given }))

-- the least cost of the words with bit i given is that of its part with the bit given, plus the least of the other parts, which is
-- the same for each value of the bit
pub least_with_bit : {ps : List WordPart} {word : List ℕ} {i : ℕ} {q : WordPart} {t : ℕ} → BestWord ps word → PartAt ps i q t
    → (rest : ℤ) × ((β : ℕ) (v : ℤ) → Least (LabelWith q t β) q.cost_of v → Least (CandidateWith ps i β) (word_cost ps) (v +ℤ rest))
least_with_bit none at = elim at [ ]
least_with_bit (more {p} {ps} {word} l b w) (here h) =
    (word_cost ps word, λ β v a. least_with_bit_here p ps h a (least_word w))
least_with_bit (more {p} {ps} {best} l b w) (there e at) =
    let first : Least (Label p.places) p.cost_of (p.cost_of best) = record { best = best; member = l; attained = refl; bound = b } in
    let (rest, later) = least_with_bit w at in
    (p.cost_of best +ℤ rest, λ β v a. rw (+ℤ_left_comm v (p.cost_of best) rest) (least_with_bit_there p ps e first (later β v a)))

-- the least costs of the words with bit i 1 and with it 0, whose difference is d
pub record BitDifference (ps : List WordPart) (i : ℕ) (d : ℤ) : Type 0 where
  pub one : ℤ
  pub zero : ℤ
  pub one_least : Least (CandidateWith ps i 1) (word_cost ps) one
  pub zero_least : Least (CandidateWith ps i 0) (word_cost ps) zero
  pub difference : one -ℤ zero ≡ d

-- it is the difference of the least costs of the bit's own part
pub bit_difference : {ps : List WordPart} {word : List ℕ} {i : ℕ} {q : WordPart} {t : ℕ} {v₁ v₀ : ℤ} → BestWord ps word → PartAt ps i q t
    → Least (LabelWith q t 1) q.cost_of v₁ → Least (LabelWith q t 0) q.cost_of v₀ → BitDifference ps i (v₁ -ℤ v₀)
bit_difference {v₁} {v₀} w at one zero =
    let (rest, least) = least_with_bit w at in
    record {
      one = v₁ +ℤ rest;
      zero = v₀ +ℤ rest;
      one_least = least 1 v₁ one;
      zero_least = least 0 v₀ zero;
      difference = -ℤ-+ℤ_both v₁ v₀ rest;
    }
