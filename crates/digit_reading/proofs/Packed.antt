-- Numbers packed into the fields of one, the first in the highest: a mask on every field, each two neighbouring fields joined, and so the number in
-- four or eight digits from all their characters at once. Each law is over the number of fields. Assumes nothing.
use mathlib.Core.Path.{◌≡◌, refl, sym, ◌∙◌}
use mathlib.Core.Bool.{true, cond}
use mathlib.Core.List.{List, ◌++◌}
use Prim.Native.Nat.{ℕ, zero, suc, ◌+◌, ◌*◌, ◌-◌, ◌/◌, ◌%◌, ◌^◌, ◌<◌, ◌≤◌}
use native.Mathlib.Nat.{zero-div, suc-add, add-zero, add-suc, mod-lt, div-add-mod', lt_of_lt_of_le}
use native.Mathlib.Decide.{dec_lt}
use native.Mathlib.Omega.{arith}
use lib.Arith.{digits_lt, digits_div, digits_mod}
use lib.Bits.{bit_and, and_le_r, and_block, and_mask}
use lib.ListN.{length, get_or, take, drop, replicate, length-take, length-drop, get_or-append}
use lib.Dec.{ltb}
use lib.Seq.{get_or-take, get_or-drop, get_or-append-add, length-take-le}
use mir.Syntax.{w64}
use Rattle.std.specs.Int.{from_be_bytes}
use Rattle.std.proofs.lemmas.List.{get_or-replicate}
use borrow.Author.Tests.{lt-ltb, le-ltb}
use lib.Pow.{pow_pos, pow_mono, pow-add, ones_lt}
use Rattle.hexadecimal.specs.Digits.{all_digits, number_at}
use Rattle.hexadecimal.proofs.Digits.{digit_small, digit_value_below, digit_value_bits}
use Rattle.hexadecimal.proofs.Fields.{digit_at_lem}

-- f 0 to f (n - 1) in n fields, each with room for the numbers below b
unfoldable pub packed : ℕ → (ℕ → ℕ) → ℕ → ℕ
packed b f zero = 0
packed b f (suc n) = packed b f n * b + f n

-- the same number in each of n fields
abbrev pub mask : ℕ → ℕ → ℕ → ℕ
mask b m n = packed b (λ i. m) n

-- a mask that has the i low bits of the lowest field, of j bits, keeps these of it, and of the other fields what the rest of it keeps
mask_keeps : (j i q m r : ℕ) → i ≤ j → r < 2 ^ j → bit_and (q * 2 ^ j + r) (m * 2 ^ j + (2 ^ i - 1)) ≡ bit_and q m * 2 ^ j + r % 2 ^ i
mask_keeps j i q m r l h = and_block j q m r (2 ^ i - 1) h (lt_of_lt_of_le (ones_lt i) (pow_mono l)) ∙ rw (and_mask r i)

-- ---- neighbouring fields joined

-- y has a and b, below p, in its two lowest fields, with room for the numbers below p * p, and v above them: added to itself moved down by p it
-- has a * p + b in the lowest field, and above the two what v so moved and added is
moved_added : (p v a b : ℕ) → a < p → b < p
    → let y = (v * (p * p) + a) * (p * p) + b in
    y + y / p ≡ (v + v / p) * (p * p * (p * p)) + ((v % p * p + a) * (p * p) + (a * p + b))
moved_added p v a b h l = go (v / p) (v % p) (div-add-mod' v p)
  where
    go : (q t : ℕ) → q * p + t ≡ v → let y = (v * (p * p) + a) * (p * p) + b in
        y + y / p ≡ (v + q) * (p * p * (p * p)) + ((t * p + a) * (p * p) + (a * p + b))
    go q t e =
        let whole : (v * (p * p) + a) * (p * p) + b ≡ (v * p * (p * p) + a * p) * p + b = omega arith in
        rw (whole, digits_div (v * p * (p * p) + a * p) l, ← e) (omega arith)

-- f (2i) and f (2i + 1) as one number
abbrev paired : ℕ → (ℕ → ℕ) → ℕ → ℕ
paired p f i = f (i + i) * p + f (suc (i + i))

-- two numbers below p are one below p * p
paired_below : (p : ℕ) (f : ℕ → ℕ) (n : ℕ) → ((i : ℕ) → i < n + n → f i < p) → (i : ℕ) → i < n → paired p f i < p * p
paired_below p f n h i l = digits_lt (h (i + i) (omega arith)) (h (suc (i + i)) (omega arith))

-- what the code computes of 2n fields v that hold numbers of k bits in 2k: n fields, each of which holds two of these numbers as one
abbrev pub joined : ℕ → ℕ → ℕ → ℕ
joined k n v = let p = 2 ^ k in bit_and (v + v / p) (mask (p * p * (p * p)) (p * p - 1) n)

-- what a mask leaves is at most the mask
pub joined_below : (k n v : ℕ) → let p = 2 ^ k in joined k n v ≤ mask (p * p * (p * p)) (p * p - 1) n
joined_below k n v = and_le_r (v + v / 2 ^ k) _

-- where each number is below 2^k, the pairs as numbers
joined_pairs : (k : ℕ) (f : ℕ → ℕ) (n : ℕ) → ((i : ℕ) → i < n + n → f i < 2 ^ k)
    → let p = 2 ^ k in joined k n (packed (p * p) f (n + n)) ≡ packed (p * p * (p * p)) (paired p f) n
unfolding packed
joined_pairs k f zero h = rw (zero-div (2 ^ k))
joined_pairs k f (suc n) h =
    let p : ℕ = 2 ^ k in
    let v : ℕ = packed (p * p) f (n + n) in
    let a : ℕ = f (n + n) in
    let b : ℕ = f (suc (n + n)) in
    let ha : a < p = h (n + n) (omega arith) in
    let hb : b < p = h (suc (n + n)) (omega arith) in
    let two : 2 ^ (k + k) ≡ p * p = pow-add 2 k k in
    let four : 2 ^ (k + k + (k + k)) ≡ p * p * (p * p) = rw (pow-add 2 (k + k) (k + k), two) in
    let small = digits_lt (digits_lt (mod-lt v (pow_pos k)) ha) (digits_lt ha hb) in
    let kept = rw (four, two) at (mask_keeps (k + k + (k + k)) (k + k) (v + v / p) (mask (p * p * (p * p)) (p * p - 1) n) _ (omega arith) (rw (← four) at small)) in
    rw (add-suc, suc-add, moved_added p v a b ha hb, kept, digits_mod (v % p * p + a) (digits_lt ha hb), joined_pairs k f n (λ i l. h i (omega arith)))

-- ---- the digits of a text

-- the value of a digit, from its code (hexadecimal/proofs/Digits, `digit_value_bits`)
abbrev bits_value : ℕ → ℕ
bits_value c = c % 16 + 9 * (c / 64)

-- what the code computes of n characters x, in fields of 8 bits: of each the lower four bits, and 9 more where bit 6 is set
abbrev pub values_of : ℕ → ℕ → ℕ
values_of n x = bit_and x (mask 256 15 n) + 9 * bit_and (x / 64) (mask 256 1 n)

-- where each is below the first code that is no digit's, it is their values
values_packed : (f : ℕ → ℕ) (n : ℕ) → ((i : ℕ) → i < n → f i < 71) → values_of n (packed 256 f n) ≡ packed 256 (λ i. bits_value (f i)) n
unfolding packed
values_packed f zero h = refl
values_packed f (suc n) h =
    let x : ℕ = packed 256 f n in
    let small : f n < 71 = h n (omega arith) in
    let down : (x * 256 + f n) / 64 ≡ x / 64 * 256 + (x % 64 * 4 + f n / 64) = omega arith in
    let bit : (x % 64 * 4 + f n / 64) % 2 ≡ f n / 64 = omega arith in
    let low = mask_keeps 8 4 x (mask 256 15 n) (f n) (omega arith) (omega arith) in
    let high = mask_keeps 8 1 (x / 64) (mask 256 1 n) (x % 64 * 4 + f n / 64) (omega arith) (omega arith) in
    rw (low, down, high, bit) (omega (arith, values_packed f n (λ i l. h i (omega arith))))

-- zeros in front change nothing
packed_zeros : (b : ℕ) (g : ℕ → ℕ) (m : ℕ) → ((i : ℕ) → i < m → g i ≡ 0) → packed b g m ≡ 0
unfolding packed
packed_zeros b g zero h = refl
packed_zeros b g (suc m) h = rw (packed_zeros b g m (λ i l. h i (omega arith)), h m (omega arith)) (omega arith)

packed_same : (b : ℕ) (f g : ℕ → ℕ) (n : ℕ) → ((i : ℕ) → i < n → f i ≡ g i) → packed b f n ≡ packed b g n
unfolding packed
packed_same b f g zero same = refl
packed_same b f g (suc n) same = rw (packed_same b f g n (λ i l. same i (omega arith)), same n (omega arith))

packed_padded : (b : ℕ) (f g : ℕ → ℕ) (m n : ℕ) → ((i : ℕ) → i < m → g i ≡ 0) → ((i : ℕ) → i < n → g (m + i) ≡ f i) → packed b g (m + n) ≡ packed b f n
unfolding packed
packed_padded b f g m zero none same = rw add-zero (packed_zeros b g m none)
packed_padded b f g m (suc n) none same = rw (add-suc, packed_padded b f g m n none (λ i l. same i (omega arith)), same n (omega arith))

-- what the code computes of eight characters x
abbrev pub number_of : ℕ → ℕ
number_of x = joined 16 1 (joined 8 2 (joined 4 4 (values_of 8 x)))

number_of_eight : (g : ℕ → ℕ) → ((i : ℕ) → i < 8 → (g i < 71) × (bits_value (g i) < 16)) → number_of (packed 256 g 8) ≡ packed 16 (λ i. bits_value (g i)) 8
unfolding packed
number_of_eight g h =
    let digits : ℕ → ℕ = λ i. bits_value (g i) in
    let below : (i : ℕ) → i < 8 → digits i < 16 = λ i l. (h i l).1 in
    let pairs = paired_below 16 digits 4 below in
    let fours = paired_below 256 (paired 16 digits) 2 pairs in
    rw (values_packed g 8 (λ i l. (h i l).0), joined_pairs 4 digits 4 below)
    (rw (joined_pairs 8 (paired 16 digits) 2 pairs, joined_pairs 16 (paired 256 (paired 16 digits)) 1 fours) (omega arith))

-- eight bytes before anything is read
abbrev pub zeros : List ℕ
zeros = replicate 8 0

-- in a text of digits, from the position `at` on
module _ (text : List ℕ) (at : ℕ) (h : all_digits text ≡ true) where
  -- the characters and their values
  abbrev chars : ℕ → ℕ
  chars i = get_or text (at + i) 0

  packed_number : (n : ℕ) → at + n ≤ length text → packed 16 (λ i. bits_value (chars i)) n ≡ number_at text at n
  unfolding packed number_at
  packed_number zero l = refl
  packed_number (suc n) l =
      rw (packed_number n (omega arith), digit_value_bits (chars n) (digit_at_lem text (at + n) h (omega arith)))

  -- up to eight of them, with zeros in front
  module _ {n : ℕ} (few : n ≤ 8) (l : at + n ≤ length text) where
    abbrev padded : ℕ → ℕ
    padded i = cond (ltb i (8 - n)) 0 (chars (i - (8 - n)))

    padded_zero : (i : ℕ) → i < 8 - n → padded i ≡ 0
    padded_zero i m = rw (lt-ltb i (8 - n) m)

    padded_char : (i : ℕ) → i < n → padded (8 - n + i) ≡ chars i
    padded_char i m =
        let place : 8 - n + i - (8 - n) ≡ i = omega arith in
        rw (le-ltb (8 - n + i) (8 - n) (omega arith), place)

    chars_small : (i : ℕ) → i < n → (chars i < 71) × (bits_value (chars i) < 16)
    chars_small i m =
        let digit = digit_at_lem text (at + i) h (omega arith) in
        (digit_small (chars i) digit, rw (digit_value_bits (chars i) digit) (digit_value_below (chars i) digit))

    padded_small : (i : ℕ) → i < 8 → (padded i < 71) × (bits_value (padded i) < 16)
    padded_small i m = go (dec_lt i (8 - n))
      where
        go : Dec (i < 8 - n) → (padded i < 71) × (bits_value (padded i) < 16)
        go (yes k) = rw (padded_zero i k) (omega arith, omega arith)
        go (no k) = rw (le-ltb i (8 - n) (omega arith)) (chars_small (i - (8 - n)) (omega arith))

    -- what the code computes of them is their number
    number_of_chars : number_of (packed 256 padded 8) ≡ number_at text at n
    number_of_chars =
        let whole : 8 - n + n ≡ 8 = omega arith in
        let values = rw whole at (packed_padded 16 (λ i. bits_value (chars i)) (λ i. bits_value (padded i)) (8 - n) n
        (λ i k. rw (padded_zero i k)) (λ i k. rw (padded_char i k))) in
        rw (number_of_eight padded padded_small, values) (packed_number n l)

    -- n of them, in eight bytes
    abbrev pub field : List ℕ
    field = take (at + n - at) (drop at text)

    pub length_field : length field ≡ n
    length_field = simp (length-take, length-drop) (omega arith)

    field_at : (bytes : List ℕ) → take 8 bytes ≡ take (8 - n) zeros ++ field → (i : ℕ) → i < 8 → get_or bytes i 0 ≡ padded i
    field_at bytes e i m = sym (get_or-take 8 bytes i 0 m) ∙ rw e (go (dec_lt i (8 - n)))
      where
        long : length (take (8 - n) zeros) ≡ 8 - n
        long = length-take-le (8 - n) zeros (omega arith)

        go : Dec (i < 8 - n) → get_or (take (8 - n) zeros ++ field) i 0 ≡ padded i
        go (yes k) =
            rw (padded_zero i k, get_or-append (take (8 - n) zeros) field 0 i (rw long k), get_or-take (8 - n) zeros i 0 k) (get_or-replicate 8 i 0 0 m)
        go (no k) =
            let place : length (take (8 - n) zeros) + (i - (8 - n)) ≡ i = rw long (omega arith) in
            let read = rw place at (get_or-append-add (take (8 - n) zeros) field (i - (8 - n)) 0) in
            rw (read, le-ltb i (8 - n) (omega arith), get_or-take (at + n - at) (drop at text) (i - (8 - n)) 0 (omega arith), get_or-drop at text (i - (8 - n)) 0)

    pub number_of_field : (bytes : List ℕ) {x : ℕ} → x ≡ from_be_bytes w64 bytes → take 8 bytes ≡ take (8 - n) zeros ++ field → number_of x ≡ number_at text at n
    unfolding packed
    number_of_field bytes {x} e cut =
        let same = packed_same 256 (λ i. get_or bytes i 0) padded 8 (field_at bytes cut) in
        let all : x ≡ packed 256 (λ i. get_or bytes i 0) 8 = e ∙ omega arith in
        rw (all, same) number_of_chars
