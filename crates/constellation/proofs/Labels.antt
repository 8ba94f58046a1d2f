-- Labels of m bits: put together, cut and turned round, and that each is the Gray label of its own index, which is below 2^m. Assumes nothing.
use mathlib.Core.Path.{◌≡◌, refl, sym, ◌∙◌}
use mathlib.Core.List.{List, [], ◌∷◌, ◌++◌}
use Prim.Native.Nat.{ℕ, zero, suc, ◌+◌, ◌-◌, ◌^◌, ◌<◌, suc-le-suc}
use native.Mathlib.Nat.{le_of_suc-le-suc}
use native.Mathlib.Decide.{dec_lt}
use native.Mathlib.Omega.{arith}
use lib.ListN.{length, get_or, take, drop, length-append, length-take, length-drop, length-map, get_or-append, get_or-eq_default}
use lib.Seq.{get_or-append-add, get_or-take, get_or-drop}
use Rattle.constellation.specs.Gray.{AllBits, Label, complement, label_bit, gray_label, index_of_label}
use Rattle.constellation.proofs.Gray.{length-gray_label, get_or-gray_label, gray_label_bits, index_of_label-below, label_of_index_lem}

-- ---- bits

-- a bit of the list, or padding behind it
pub bit_below_lem : (bits : List ℕ) → AllBits bits → (i : ℕ) → get_or bits i 0 < 2
bit_below_lem bits all i = go (dec_lt i (length bits))
  where
    go : Dec (i < length bits) → get_or bits i 0 < 2
    go (yes l) = all.bit i l
    go (no n) = rw (get_or-eq_default bits 0 {n = i} (omega arith)) (omega arith)

-- ---- put together and cut

all_bits_append : {a b : List ℕ} → AllBits a → AllBits b → AllBits (a ++ b)
all_bits_append {a} {b} p q = record { bit = λ j h. go j (rw length-append at h) (dec_lt j (length a)) }
  where
    go : (j : ℕ) → j < length a + length b → Dec (j < length a) → get_or (a ++ b) j 0 < 2
    go j h (yes l) = rw get_or-append (p.bit j l)
    go j h (no l) =
        let e : j ≡ length a + (j - length a) = omega arith in
        rw (e, get_or-append-add) (q.bit (j - length a) (omega arith))

all_bits_take : (n : ℕ) {a : List ℕ} → AllBits a → AllBits (take n a)
all_bits_take n {a} p =
    record { bit = λ j h. rw (get_or-take n a j 0 (omega (arith, rw length-take at h))) (p.bit j (omega (arith, rw length-take at h))) }

all_bits_drop : (n : ℕ) {a : List ℕ} → AllBits a → AllBits (drop n a)
all_bits_drop n p = record { bit = λ j h. rw get_or-drop (p.bit (n + j) (omega (arith, rw length-drop at h))) }

pub label_append : {m n : ℕ} {a b : List ℕ} → Label m a → Label n b → Label (m + n) (a ++ b)
label_append l r = record { fills = rw length-append (omega arith); bits = all_bits_append l.bits r.bits }

pub label_take : (m n : ℕ) {a : List ℕ} → Label (m + n) a → Label m (take m a)
label_take m n l = record { fills = rw length-take (omega arith); bits = all_bits_take m l.bits }

pub label_drop : (m n : ℕ) {a : List ℕ} → Label (m + n) a → Label n (drop m a)
label_drop m n l = record { fills = rw length-drop (omega arith); bits = all_bits_drop m l.bits }

-- ---- each bit turned round

pub length-complement : (label : List ℕ) → length (complement label) ≡ length label
unfolding complement
length-complement label = length-map label (λ b. 1 - b)

pub get_or-complement : (label : List ℕ) (i : ℕ) → i < length label → get_or (complement label) i 0 ≡ 1 - get_or label i 0
unfolding complement
get_or-complement [] i h = absurd (omega arith)
get_or-complement (b ∷ bs) zero h = refl
get_or-complement (b ∷ bs) (suc i) h = get_or-complement bs i (le_of_suc-le-suc h)

pub label_complement : {m : ℕ} {label : List ℕ} → Label m label → Label m (complement label)
label_complement {label} l =
    record {
      fills = length-complement label ∙ l.fills;
      bits = record { bit = λ j h. rw (get_or-complement label j (rw length-complement at h)) (omega arith) };
    }

-- twice is not at all
pub complement_twice : (label : List ℕ) → AllBits label → complement (complement label) ≡ label
unfolding complement
complement_twice [] a = refl
complement_twice (b ∷ bs) a =
    let e : 1 - (1 - b) ≡ b = omega (arith, a.bit 0 (omega arith)) in
    rw (e, complement_twice bs (record { bit = λ j h. a.bit (suc j) (suc-le-suc h) }))

-- ---- the index of a label

pub gray_label_lem : (m k : ℕ) → Label m (gray_label m k)
gray_label_lem m k = record { fills = length-gray_label m k; bits = gray_label_bits m k }

module _ {m : ℕ} {label : List ℕ} (l : Label m label) where
  pub label_index_below : index_of_label label < 2 ^ m
  label_index_below = rw l.fills at (index_of_label-below label)

  pub label_of_own_index : gray_label m (index_of_label label) ≡ label
  label_of_own_index = rw l.fills at (label_of_index_lem label l.bits)

  -- the label bits of the index are the label's
  pub label_bit_lem : (i : ℕ) → i < m → label_bit m i (index_of_label label) ≡ get_or label i 0
  label_bit_lem i h = sym (get_or-gray_label m (index_of_label label) i h) ∙ rw label_of_own_index
