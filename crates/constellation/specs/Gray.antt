-- The binary-reflected Gray labelling (REQUIREMENTS, "Points and labels"; 001, lemma 1). Bits are the numbers 0 and 1.
-- That label and index are inverse, and that neighbours differ in one bit, is proofs/Gray. Assumes nothing.
use Rattle.std.specs.Prelude.{◌≡◌, ◌≢◌, List, [], ◌∷◌, map, ℕ, zero, suc, ◌+◌, ◌*◌, ◌-◌, ◌/◌, ◌%◌, ◌^◌, ◌<◌, length, get_or}
use Rattle.std.specs.Coded.{le_prop}
use Rattle.arithmetic.specs.Lists.{first}

-- each entry of the list is a bit
pub record AllBits (bits : List ℕ) : Type 0 where
  pub bit : (j : ℕ) → j < length bits → get_or bits j 0 < 2

-- there is one proof of it at most
pub AllBits_prop : (bits : List ℕ) → IsProp (AllBits bits)
AllBits_prop bits p q = λ i. record { bit = λ j h. le_prop (p.bit j h) (q.bit j h) i }

-- m bits
pub record Label (m : ℕ) (label : List ℕ) : Type 0 where
  pub fills : length label ≡ m
  pub bits : AllBits label

-- the exclusive-or of two bits
unfoldable pub xor : ℕ → ℕ → ℕ
xor a b = (a + b) % 2

-- each bit turned round: 1 for 0, and 0 for 1
unfoldable pub complement : List ℕ → List ℕ
complement label = map (λ b. 1 - b) label

-- binary digit ci of the index k, which has m digits; c0 is the most significant
unfoldable pub digit : ℕ → ℕ → ℕ → ℕ
digit m i k = k / 2 ^ (m - suc i) % 2

-- label bit bi of the index k: ci exclusive-or c(i−1), with c(−1) = 0
unfoldable pub label_bit : ℕ → ℕ → ℕ → ℕ
label_bit m zero k = digit m 0 k
label_bit m (suc i) k = xor (digit m (suc i) k) (digit m i k)

-- the label of the index k, b0 first, as it is sent
unfoldable pub gray_label : ℕ → ℕ → List ℕ
gray_label m k = first (λ i. label_bit m i k) m

-- the index whose digits before the label's bits are those of k: each digit is its label bit exclusive-or the digit before it
unfoldable pub index_from : ℕ → List ℕ → ℕ
index_from k [] = k
index_from k (b ∷ bs) = index_from (2 * k + xor b (k % 2)) bs

-- the index with a label
unfoldable pub index_of_label : List ℕ → ℕ
index_of_label label = index_from 0 label

-- the labels of two indices differ in exactly one bit
pub record OneBitApart (m k j : ℕ) : Type 0 where
  pub place : ℕ
  pub in_label : place < m
  pub differs : label_bit m place k ≢ label_bit m place j
  pub elsewhere : (i : ℕ) → i < m → i ≢ place → label_bit m i k ≡ label_bit m i j
