-- A test at each number below a bound, block by block, where the last block may overlap the ones before it. Assumes nothing.
use mathlib.Core.Path.{◌≡◌, refl, sym, ◌∙◌}
use mathlib.Core.Bool.{Bool, true, false, ◌&&◌, and-true, and-false, and_assoc}
use mathlib.Core.List.{List, [], ◌∷◌}
use Prim.Native.Nat.{ℕ, zero, suc, ◌+◌, ◌*◌, ◌-◌, ◌/◌, ◌≤◌, ◌<◌}
use native.Mathlib.Nat.{add-zero, add-suc}
use native.Mathlib.Omega.{arith}
use lib.ListN.{length, get_or, take, drop, length-drop}
use lib.Seq.{length-take-le, get_or-take, get_or-drop, take_all}
use Rattle.std.specs.List.{fold, list_all}
use Rattle.std.specs.Simd.{first_chunks}
use Rattle.arithmetic.specs.Tests.{all_below}
use Rattle.hexadecimal.specs.Digits.{is_digit, all_digits}

-- whether the character at a position is a digit
abbrev pub digit_at : List ℕ → ℕ → Bool
digit_at text i = is_digit (get_or text i 0)

-- the first n numbers, and the k after them
all_below_split : (n k : ℕ) (test : ℕ → Bool) → all_below (n + k) test ≡ all_below n test && all_below k (λ i. test (n + i))
unfolding all_below
all_below_split n zero test = rw (add-zero n, and-true (all_below n test))
all_below_split n (suc k) test = rw (add-suc, all_below_split n k test, and_assoc (all_below n test))

-- what both parts test counts once
and_overlap : (a b c : Bool) → b && c && (a && b) ≡ a && (b && c)
and_overlap true true c = and-true c
and_overlap true false c = refl
and_overlap false b c = and-false (b && c)

blocks_overlap : (a b c : ℕ) (test : ℕ → Bool)
    → all_below (b + c) (λ i. test (a + i)) && all_below (a + b) test ≡ all_below (a + (b + c)) test
blocks_overlap a b c test =
    rw (all_below_split a (b + c) test, all_below_split b c (λ i. test (a + i)), all_below_split a b test)
    (and_overlap (all_below a test) (all_below b (λ i. test (a + i))) (all_below c (λ i. test (a + (b + i)))))

-- the last k of n numbers, and the ones below a bound that leaves none between
all_below_last : (n k at : ℕ) (test : ℕ → Bool) → k ≤ n → n - k ≤ at → at ≤ n
    → all_below k (λ i. test (n - k + i)) && all_below at test ≡ all_below n test
all_below_last n k at test h l m =
    let last : at - (n - k) + (n - at) ≡ k = omega arith in
    let front : n - k + (at - (n - k)) ≡ at = omega arith in
    let whole : n - k + k ≡ n = omega arith in
    rw (last, front, whole) at (blocks_overlap (n - k) (at - (n - k)) (n - at) test)

-- ---- blocks of a text

all_below_same : (n : ℕ) (f g : ℕ → Bool) → ((i : ℕ) → i < n → f i ≡ g i) → all_below n f ≡ all_below n g
unfolding all_below
all_below_same zero f g same = refl
all_below_same (suc n) f g same = rw (all_below_same n f g (λ i h. same i (omega arith)), same n (omega arith))

-- the n characters from a position on
part_digits : (text : List ℕ) (at n : ℕ) → at + n ≤ length text → all_digits (take n (drop at text)) ≡ all_below n (λ i. digit_at text (at + i))
unfolding all_digits
part_digits text at n h =
    let long : length (take n (drop at text)) ≡ n = length-take-le n (drop at text) (rw length-drop (omega arith)) in
    rw long (all_below_same n _ _ (λ i l. rw (get_or-take n (drop at text) i 0 l, get_or-drop at text i 0)))

-- the last block
last_digits : (text last : List ℕ) → 16 ≤ length text → last ≡ drop (length text - 16) text
    → all_digits last ≡ all_below 16 (λ i. digit_at text (length text - 16 + i))
last_digits text last h e =
    let all : take 16 (drop (length text - 16) text) ≡ drop (length text - 16) text = take_all 16 (drop (length text - 16) text) (rw length-drop (omega arith)) in
    rw (e, ← all) (part_digits text (length text - 16) 16 (omega arith))

-- where it has only digits, the whole blocks decide, and else it does
pub last_decides : (text last : List ℕ) {b c : Bool} → 16 ≤ length text → last ≡ drop (length text - 16) text → b ≡ all_digits last
    → c ≡ all_below (length text / 16 * 16) (digit_at text) → b && c ≡ all_digits text
unfolding all_digits
last_decides text last h e all front =
    rw (all, last_digits text last h e, front)
    (all_below_last (length text) 16 (length text / 16 * 16) (digit_at text) h (omega arith) (omega arith))

-- a test of each entry of a text is one at each position
list_digits : (text : List ℕ) → list_all is_digit text ≡ all_digits text
unfolding all_digits all_below
list_digits [] = refl
list_digits (c ∷ text) =
    let whole : 1 + length text ≡ suc (length text) = omega arith in
    let moved = all_below_same (length text) (λ i. digit_at (c ∷ text) (1 + i)) (digit_at text) (λ i l. let next : 1 + i ≡ suc i = omega arith in rw next) in
    let split = all_below_split 1 (length text) (digit_at (c ∷ text)) in
    rw (list_digits text) (sym (rw (whole, moved) at split))

fold_from : (all : Bool) (text : List ℕ) → fold (λ b c. b && is_digit c) all text ≡ all && list_all is_digit text
fold_from all [] = sym (and-true all)
fold_from all (c ∷ text) = fold_from (all && is_digit c) text ∙ and_assoc all _ _

pub fold_digits : (text : List ℕ) → fold (λ b c. b && is_digit c) true text ≡ all_digits text
fold_digits text = fold_from true text ∙ list_digits text

-- the first k blocks
pub blocks_digits : (k : ℕ) (text : List ℕ) → k * 16 ≤ length text → list_all all_digits (first_chunks 16 k text) ≡ all_below (k * 16) (digit_at text)
unfolding all_below
blocks_digits zero text h = refl
blocks_digits (suc k) text h =
    let whole : suc k * 16 ≡ 16 + k * 16 = omega arith in
    let rest = blocks_digits k (drop 16 text) (rw length-drop (omega arith)) in
    let moved = all_below_same (k * 16) (digit_at (drop 16 text)) (λ i. digit_at text (16 + i)) (λ i l. rw get_or-drop) in
    rw (whole, all_below_split 16 (k * 16) (digit_at text), rest, moved, part_digits text 0 16 (omega arith)) refl
