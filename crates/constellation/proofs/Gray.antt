-- The laws of the Gray labelling (001, lemma 1): label and index are inverse, and neighbours, around the circle too, differ in one bit.
-- All go by the lowest digit: the label of k is that of k / 2 and one bit more. Assumes nothing.
use mathlib.Core.Path.{◌≡◌, refl}
use mathlib.Core.Logic.{◌≢◌, ◌⊎◌, inl, inr}
use mathlib.Core.List.{List, [], ◌∷◌, ◌++◌, append-nil}
use Prim.Native.Nat.{ℕ, zero, suc, ◌+◌, ◌*◌, ◌-◌, ◌/◌, ◌%◌, ◌^◌, ◌≤◌, ◌<◌, suc-le-suc}
use native.Mathlib.Nat.{zero-add, add-zero, suc-add, add-suc, sub_self, le_of_suc-le-suc, eq-or-lt_of_le, mul-le-mul_right, mod-lt, mod-eq_of_lt, div-one, div-div-eq-div-mul, pow-succ', pow-suc}
use native.Mathlib.Decide.{ℕ_discrete}
use native.Mathlib.Omega.{arith}
use lib.Arith.{mod-mul}
use lib.Dec.{lit<}
use lib.ListN.{length, get_or}
use lib.Pow.{pow_pos}
use lib.Seq.{append_snoc}
use Rattle.arithmetic.specs.Lists.{first}
use Rattle.arithmetic.proofs.Lists.{length_first, get_or_first, first_cong}
use Rattle.constellation.specs.Gray.{AllBits, xor, digit, label_bit, gray_label, index_from, index_of_label, OneBitApart}

-- ---- bits

xor_below : (a b : ℕ) → xor a b < 2
unfolding xor
xor_below a b = omega arith

xor_twice : (a b : ℕ) → a < 2 → xor (xor a b) b ≡ a
unfolding xor
xor_twice a b h = omega arith

xor_cancel : (a b c : ℕ) → a < 2 → b < 2 → xor a c ≡ xor b c → a ≡ b
unfolding xor
xor_cancel a b c h l = omega arith

pub digit-below : (m i k : ℕ) → digit m i k < 2
unfolding digit
digit-below m i k = omega arith

pub label_bit-below : (m i k : ℕ) → label_bit m i k < 2
unfolding label_bit
label_bit-below m zero k = digit-below m 0 k
label_bit-below m (suc i) k = xor_below (digit m (suc i) k) (digit m i k)

-- ---- the lowest digit, and the upper ones, which are those of k / 2

half_below : (m k : ℕ) → k < 2 ^ suc m → k / 2 < 2 ^ m
half_below m k h = omega (arith, pow-suc 2 m)

digit_upper : (m i k : ℕ) → i < m → digit (suc m) i k ≡ digit m i (k / 2)
unfolding digit
digit_upper m i k h =
    let e : suc m - suc i ≡ suc (m - suc i) = omega arith in
    rw (e, pow-succ', ← div-div-eq-div-mul)

digit_lowest : (m k : ℕ) → digit (suc m) m k ≡ k % 2
unfolding digit
digit_lowest m k = rw (sub_self, div-one)

label_bit_upper : (m i k : ℕ) → i < m → label_bit (suc m) i k ≡ label_bit m i (k / 2)
unfolding label_bit
label_bit_upper m zero k h = digit_upper m 0 k h
label_bit_upper m (suc i) k h = rw (digit_upper m (suc i) k h, digit_upper m i k (omega arith))

-- the label bit of the lowest digit
lowest_bit : ℕ → ℕ
lowest_bit k = xor (k % 2) (k / 2 % 2)

label_bit_lowest : (m k : ℕ) → k < 2 ^ suc m → label_bit (suc m) m k ≡ lowest_bit k
unfolding label_bit lowest_bit xor
label_bit_lowest zero k h = rw (digit_lowest 0 k) (omega arith)
label_bit_lowest (suc m) k h = rw (digit_lowest (suc m) k, digit_upper (suc m) m k (omega arith), digit_lowest m (k / 2))

-- ---- the label

pub length-gray_label : (m k : ℕ) → length (gray_label m k) ≡ m
unfolding gray_label
length-gray_label m k = length_first (λ i. label_bit m i k) m

pub get_or-gray_label : (m k i : ℕ) → i < m → get_or (gray_label m k) i 0 ≡ label_bit m i k
unfolding gray_label
get_or-gray_label m k i h = get_or_first (λ j. label_bit m j k) m i 0 h

pub gray_label_bits : (m k : ℕ) → AllBits (gray_label m k)
gray_label_bits m k = record { bit = λ j h. rw (get_or-gray_label m k j (rw length-gray_label at h)) (label_bit-below m j k) }

gray_label-zero : (k : ℕ) → gray_label 0 k ≡ []
unfolding gray_label first
gray_label-zero k = refl

-- one digit more is one bit more at the end
gray_label-suc : (m k : ℕ) → k < 2 ^ suc m → gray_label (suc m) k ≡ gray_label m (k / 2) ++ (lowest_bit k ∷ [])
unfolding gray_label first
gray_label-suc m k h =
    rw (label_bit_lowest m k h, first_cong (λ i. label_bit (suc m) i k) (λ i. label_bit m i (k / 2)) m (λ i l. label_bit_upper m i k l))

-- ---- the index

index_from-append : (k : ℕ) (bits : List ℕ) (b : ℕ) → index_from k (bits ++ (b ∷ [])) ≡ 2 * index_from k bits + xor b (index_from k bits % 2)
unfolding index_from
index_from-append k [] b = refl
index_from-append k (c ∷ bits) b = index_from-append (2 * k + xor c (k % 2)) bits b

index_from-below : (k : ℕ) (bits : List ℕ) → index_from k bits < suc k * 2 ^ length bits
unfolding index_from
index_from-below k [] = omega arith
index_from-below k (b ∷ bits) =
    let x : xor b (k % 2) < 2 = xor_below b (k % 2) in
    let next : suc (2 * k + xor b (k % 2)) ≤ 2 * suc k = omega arith in
    rw pow-suc (omega (arith, index_from-below (2 * k + xor b (k % 2)) bits, mul-le-mul_right (2 ^ length bits) next))

pub index_of_label-below : (label : List ℕ) → index_of_label label < 2 ^ length label
unfolding index_of_label
index_of_label-below label = omega (arith, index_from-below 0 label)

-- ---- label and index are inverse

pub index_of_label_lem : (m k : ℕ) → k < 2 ^ m → index_of_label (gray_label m k) ≡ k
unfolding index_of_label index_from lowest_bit
index_of_label_lem zero k h = rw gray_label-zero (omega arith)
index_of_label_lem (suc m) k h =
    let upper : index_from 0 (gray_label m (k / 2)) ≡ k / 2 = index_of_label_lem m (k / 2) (half_below m k h) in
    rw (gray_label-suc m k h, index_from-append, upper, xor_twice (k % 2) (k / 2 % 2) (omega arith)) (omega arith)

-- one label bit more is one digit more
gray_label-append : (m k b : ℕ) → k < 2 ^ m → b < 2 → gray_label (suc m) (2 * k + xor b (k % 2)) ≡ gray_label m k ++ (b ∷ [])
unfolding lowest_bit
gray_label-append m k b h l =
    let x : xor b (k % 2) < 2 = xor_below b (k % 2) in
    let upper : (2 * k + xor b (k % 2)) / 2 ≡ k = omega arith in
    let lowest : (2 * k + xor b (k % 2)) % 2 ≡ xor b (k % 2) = omega arith in
    rw (gray_label-suc m (2 * k + xor b (k % 2)) (omega (arith, pow-suc 2 m)), upper, lowest, xor_twice b (k % 2) l)

-- the label of an index whose first m digits are those of k
gray_label_from : (bits : List ℕ) → AllBits bits → (m k : ℕ) → k < 2 ^ m → gray_label (m + length bits) (index_from k bits) ≡ gray_label m k ++ bits
unfolding index_from
gray_label_from [] all m k h = rw (add-zero, append-nil)
gray_label_from (b ∷ bits) all m k h =
    let x : xor b (k % 2) < 2 = xor_below b (k % 2) in
    let below : 2 * k + xor b (k % 2) < 2 ^ suc m = omega (arith, pow-suc 2 m) in
    let rest : AllBits bits = record { bit = λ j l. all.bit (suc j) (suc-le-suc l) } in
    rw (add-suc, ← suc-add, gray_label_from bits rest (suc m) (2 * k + xor b (k % 2)) below, gray_label-append m k b h (all.bit 0 (omega arith)), append_snoc)

pub label_of_index_lem : (label : List ℕ) → AllBits label → gray_label (length label) (index_of_label label) ≡ label
unfolding index_of_label
label_of_index_lem label bits = rw (zero-add, gray_label-zero) at (gray_label_from label bits 0 0 (omega arith))

-- ---- neighbours

-- indices that differ in the lowest digit only
apart_lowest : (m k j : ℕ) → k < 2 ^ suc m → j < 2 ^ suc m → k / 2 ≡ j / 2 → k % 2 ≢ j % 2 → OneBitApart (suc m) k j
unfolding lowest_bit
apart_lowest m k j hk hj upper lowest =
    record {
      place = m;
      in_label = omega arith;
      differs = rw (label_bit_lowest m k hk, label_bit_lowest m j hj, upper) (λ e. lowest (xor_cancel (k % 2) (j % 2) (j / 2 % 2) (omega arith) (omega arith) e));
      elsewhere = λ i h l. let u : i < m = omega arith in rw (label_bit_upper m i k u, label_bit_upper m i j u, upper);
    }

-- indices with the same lowest label bit, and one bit apart without it
apart_upper : (m k j : ℕ) → k < 2 ^ suc m → j < 2 ^ suc m → lowest_bit k ≡ lowest_bit j → OneBitApart m (k / 2) (j / 2) → OneBitApart (suc m) k j
apart_upper m k j hk hj lowest a =
    record {
      place = a.place;
      in_label = omega arith;
      differs = rw (label_bit_upper m a.place k a.in_label, label_bit_upper m a.place j a.in_label) a.differs;
      elsewhere = λ i h l. go i l (eq-or-lt_of_le (le_of_suc-le-suc h));
    }
  where
    go : (i : ℕ) → i ≢ a.place → (i ≡ m) ⊎ (i < m) → label_bit (suc m) i k ≡ label_bit (suc m) i j
    go i l (inl e) = rw (e, label_bit_lowest m k hk, label_bit_lowest m j hj) lowest
    go i l (inr u) = rw (label_bit_upper m i k u, label_bit_upper m i j u) (a.elsewhere i u l)

-- the upper digits and the lowest one of the next index around the circle
next_split : (m k : ℕ) → suc k % 2 ^ suc m ≡ (suc k / 2 % 2 ^ m) * 2 + suc k % 2
next_split m k = rw (pow-suc, mod-mul (suc k) (pow_pos m) (lit< tt))

-- the next index has the same upper digits
next_lowest : (m k : ℕ) → k < 2 ^ suc m → suc k / 2 % 2 ^ m ≡ k / 2 → OneBitApart (suc m) k (suc k % 2 ^ suc m)
next_lowest m k h e =
    let s : suc k % 2 ^ suc m ≡ (suc k / 2 % 2 ^ m) * 2 + suc k % 2 = next_split m k in
    apart_lowest m k (suc k % 2 ^ suc m) h (mod-lt (suc k) (pow_pos (suc m))) (omega arith) (omega arith)

lowest_bit_next : (k j : ℕ) → k % 2 ≡ 1 → j % 2 ≡ 0 → j / 2 % 2 ≡ suc (k / 2) % 2 → lowest_bit k ≡ lowest_bit j
unfolding lowest_bit xor
lowest_bit_next k j odd even upper = rw (odd, even, upper) (omega arith)

-- the index is odd: the lowest label bit stays, and the upper digits go on to the next
next_upper : (m k : ℕ) → k < 2 ^ suc (suc m) → k % 2 ≡ 1 → OneBitApart (suc m) (k / 2) (suc (k / 2) % 2 ^ suc m)
    → OneBitApart (suc (suc m)) k (suc k % 2 ^ suc (suc m))
next_upper m k h odd a =
    let e : suc k / 2 ≡ suc (k / 2) = omega arith in
    let s : suc k % 2 ^ suc (suc m) ≡ (suc (k / 2) % 2 ^ suc m) * 2 + suc k % 2 = rw e at (next_split (suc m) k) in
    let upper : suc k % 2 ^ suc (suc m) / 2 ≡ suc (k / 2) % 2 ^ suc m = omega arith in
    let parity : suc (k / 2) % 2 ^ suc m % 2 ≡ suc (k / 2) % 2 = omega (arith, next_split m (k / 2)) in
    let lowest : lowest_bit k ≡ lowest_bit (suc k % 2 ^ suc (suc m)) = lowest_bit_next k (suc k % 2 ^ suc (suc m)) odd (omega arith) (rw upper parity) in
    apart_upper (suc m) k (suc k % 2 ^ suc (suc m)) h (mod-lt (suc k) (pow_pos (suc (suc m)))) lowest (rw upper a)

pub circle_one_bit_apart : (m k : ℕ) → 0 < m → k < 2 ^ m → OneBitApart m k (suc k % 2 ^ m)
circle_one_bit_apart zero k h l = absurd (omega arith)
circle_one_bit_apart (suc zero) k h l = next_lowest 0 k l (omega arith)
circle_one_bit_apart (suc (suc m)) k h l = go (ℕ_discrete (k % 2) 1) (circle_one_bit_apart (suc m) (k / 2) (omega arith) half)
  where
    half : k / 2 < 2 ^ suc m
    half = half_below (suc m) k l

    go : Dec (k % 2 ≡ 1) → OneBitApart (suc m) (k / 2) (suc (k / 2) % 2 ^ suc m) → OneBitApart (suc (suc m)) k (suc k % 2 ^ suc (suc m))
    go (yes odd) a = next_upper m k l odd a
    go (no even) a = let u : suc k / 2 ≡ k / 2 = omega arith in next_lowest (suc m) k l (rw u (mod-eq_of_lt half))

pub neighbours_one_bit_apart : (m k : ℕ) → suc k < 2 ^ m → OneBitApart m k (suc k)
neighbours_one_bit_apart zero k h = absurd (omega arith)
neighbours_one_bit_apart (suc m) k h = rw (mod-eq_of_lt h) at (circle_one_bit_apart (suc m) k (omega arith) (omega arith))
