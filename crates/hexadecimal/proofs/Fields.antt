-- Fields: a number written with n digits is read back, and n digits that are read are written again. Assumes nothing.
use mathlib.Core.Path.{◌≡◌, refl, sym, ap, subst, ◌∙◌}
use mathlib.Core.Bool.{true}
use mathlib.Core.List.{List, [], ◌∷◌, ◌++◌, append-nil, append_assoc}
use Prim.Native.Nat.{ℕ, zero, suc, ◌+◌, ◌*◌, ◌-◌, ◌/◌, ◌%◌, ◌^◌, ◌<◌, ◌≤◌}
use native.Mathlib.Nat.{add-zero, add-suc, add_assoc, pow-suc, pow-succ', one-le-pow}
use native.Mathlib.Nat.{mod-lt, mod-eq_of_lt, mul-add-mod_self_left, div-add-mod', div-one, div-div-eq-div-mul}
use native.Mathlib.Decide.{dec_lt}
use native.Mathlib.Omega.{arith}
use lib.Ieee.Bits.{is_true}
use lib.ListN.{length, get_or, take, drop, length-append, length-drop, get_or-append}
use lib.Seq.{take-suc, get_or_at, get_or-drop, get_or-append-add, append_snoc}
use Rattle.arithmetic.specs.Tests.{all_below}
use Rattle.arithmetic.proofs.Tests.{all_below_at, all_below_lem}
use Rattle.hexadecimal.specs.Digits.{is_digit, all_digits, digit_value, digit_of, number_at, digits_of}
use Rattle.hexadecimal.proofs.Digits.{digit_value_below, digit_of_value, digit_of_is_digit, digit_value_of}

pub length_digits : (n v : ℕ) → length (digits_of n v) ≡ n
unfolding digits_of
length_digits zero v = refl
length_digits (suc n) v = simp (length-append, length_digits n (v / 16)) (omega arith)

-- a character of a text of digits
pub digit_at_lem : (text : List ℕ) (i : ℕ) → all_digits text ≡ true → i < length text → is_digit (get_or text i 0) ≡ true
unfolding all_digits
digit_at_lem text i h l = is_true _ (all_below_at (length text) (λ i. is_digit (get_or text i 0)) (rw h tt) i l)

-- a text of which every character is a digit
pub all_digits_lem : (text : List ℕ) → ((i : ℕ) → i < length text → is_digit (get_or text i 0) ≡ true) → all_digits text ≡ true
unfolding all_digits
all_digits_lem text each = is_true _ (all_below_lem (length text) (λ i. is_digit (get_or text i 0)) (λ i l. rw (each i l) tt))

-- a text of digits behind another
pub all_digits_append : (a b : List ℕ) → all_digits a ≡ true → all_digits b ≡ true → all_digits (a ++ b) ≡ true
all_digits_append a b h k = all_digits_lem (a ++ b) (λ i l. go i (rw length-append at l) (dec_lt i (length a)))
  where
    behind : (j : ℕ) → j < length b → is_digit (get_or (a ++ b) (length a + j) 0) ≡ true
    behind j l = rw (get_or-append-add a b j 0) (digit_at_lem b j k l)

    go : (i : ℕ) → i < length a + length b → Dec (i < length a) → is_digit (get_or (a ++ b) i 0) ≡ true
    go i l (yes m) = rw (get_or-append a b 0 i m) (digit_at_lem a i h m)
    go i l (no m) =
        let e : length a + (i - length a) ≡ i = omega arith in
        rw e at (behind (i - length a) (omega arith))

-- every character that is written is a digit
pub digits_are_digits : (n v : ℕ) → all_digits (digits_of n v) ≡ true
unfolding all_digits all_below digits_of
digits_are_digits zero v = refl
digits_are_digits (suc n) v =
    let last = digit_of_is_digit (v % 16) (mod-lt v (omega arith)) in
    all_digits_append (digits_of n (v / 16)) (digit_of (v % 16) ∷ []) (digits_are_digits n (v / 16)) last

pub number_below : (text : List ℕ) (at n : ℕ) → all_digits text ≡ true → at + n ≤ length text → number_at text at n < 16 ^ n
unfolding number_at
number_below text at zero h l = omega arith
number_below text at (suc n) h l =
    omega (arith, number_below text at n h (omega arith), digit_value_below _ (digit_at_lem text (at + n) h (omega arith)))

-- a field in two parts
pub number_split : (text : List ℕ) (at a b : ℕ) → number_at text at (a + b) ≡ number_at text at a * 16 ^ b + number_at text (at + a) b
unfolding number_at
number_split text at a zero = rw (add-zero a) (omega arith)
number_split text at a (suc b) = rw (add-suc, number_split text at a b, pow-suc, add_assoc at a b) (omega arith)

-- the remainder by 16 times p, from the last digit and what stands before it
mod_shift : (v p : ℕ) → 0 < p → v % (16 * p) ≡ v / 16 % p * 16 + v % 16
mod_shift v p h =
    let whole : v ≡ 16 * p * (v / 16 / p) + (v / 16 % p * 16 + v % 16) = omega (arith, div-add-mod' v 16, div-add-mod' (v / 16) p) in
    let small : v / 16 % p * 16 + v % 16 < 16 * p = omega (arith, mod-lt (v / 16) h) in
    ap (λ (x : ℕ). x % (16 * p)) whole ∙ mul-add-mod_self_left (16 * p) (v / 16 / p) _ ∙ mod-eq_of_lt small

pub digits_split : (a b v : ℕ) → digits_of (a + b) v ≡ digits_of a (v / 16 ^ b) ++ digits_of b (v % 16 ^ b)
unfolding digits_of
digits_split a zero v = rw (add-zero, div-one, append-nil)
digits_split a (suc b) v =
    let shift = mod_shift v (16 ^ b) (one-le-pow b 16 (omega arith)) in
    let front : v % (16 * 16 ^ b) / 16 ≡ v / 16 % 16 ^ b = rw shift (omega arith) in
    let last : v % (16 * 16 ^ b) % 16 ≡ v % 16 = rw shift (omega arith) in
    rw (add-suc, pow-succ', front, last, digits_split a b (v / 16), div-div-eq-div-mul, append_assoc)

-- printed, then parsed: wherever a number's digits stand in a text
pub printed_number : (before after : List ℕ) (n v : ℕ) → v < 16 ^ n → number_at (before ++ digits_of n v ++ after) (length before) n ≡ v
unfolding number_at digits_of
printed_number before after zero v h = omega arith
printed_number before after (suc n) v h =
    let front : List ℕ = before ++ digits_of n (v / 16) in
    let last : ℕ = digit_of (v % 16) in
    let place : length front ≡ length before + n = simp (length-append, length_digits) in
    let earlier = printed_number before (last ∷ after) n (v / 16) (omega arith) in
    let text : before ++ digits_of (suc n) v ++ after ≡ front ++ (last ∷ after) =
    rw (← append_assoc before (digits_of n (v / 16)) (last ∷ []), append_snoc front last after)
    in
    subst (λ (t : List ℕ). number_at t (length before) n * 16 + digit_value (get_or t (length before + n) 0) ≡ v) (sym text)
    (rw (earlier, get_or_at front last after 0 (length before + n) place, digit_value_of (v % 16) (mod-lt v (omega arith))) (div-add-mod' v 16))

-- parsed, then printed
pub parsed_number : (text : List ℕ) (at n : ℕ) → all_digits text ≡ true → at + n ≤ length text
    → digits_of n (number_at text at n) ≡ take n (drop at text)
unfolding number_at digits_of
parsed_number text at zero h l = refl
parsed_number text at (suc n) h l =
    let digit = digit_at_lem text (at + n) h (omega arith) in
    let inside : n < length (drop at text) = simp length-drop (omega arith) in
    let x : ℕ = digit_value (get_or text (at + n) 0) in
    let small : x < 16 = digit_value_below _ digit in
    let front : (number_at text at n * 16 + x) / 16 ≡ number_at text at n = omega arith in
    let last : (number_at text at n * 16 + x) % 16 ≡ x = omega arith in
    rw (front, last, parsed_number text at n h (omega arith), digit_of_value _ digit, take-suc (drop at text) n 0 inside, get_or-drop)
