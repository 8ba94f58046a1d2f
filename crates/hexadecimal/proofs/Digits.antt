-- A digit and its value are inverse. Assumes nothing.
use mathlib.Core.Path.{◌≡◌}
use mathlib.Core.Logic.{◌⊎◌, inl, inr}
use mathlib.Core.Bool.{Bool, true, not, ◌&&◌, ◌||◌}
use Prim.Native.Nat.{ℕ, ◌+◌, ◌*◌, ◌/◌, ◌%◌, ◌≤◌, ◌<◌}
use native.Mathlib.Omega.{arith}
use lib.Dec.{T, leb, ltb, eqb}
use lib.Ieee.Bits.{is_true}
use Rattle.arithmetic.specs.Tests.{all_below}
use Rattle.arithmetic.proofs.Tests.{all_below_at, or_true, passed}
use Rattle.hexadecimal.specs.Digits.{is_digit, digit_value, digit_of}

-- ---- of a digit

pub digit_small : (c : ℕ) → is_digit c ≡ true → c < 71
unfolding is_digit
digit_small c h = go (or_true (leb 48 c && leb c 57) (leb 65 c && leb c 70) h)
  where
    upper : (a b : ℕ) → T (leb a c && leb c b) → c ≤ b
    upper a b t = (simp passed at t).1

    go : (leb 48 c && leb c 57 ≡ true) ⊎ (leb 65 c && leb c 70 ≡ true) → c < 71
    go (inl e) = omega (arith, upper 48 57 (rw e tt))
    go (inr e) = omega (arith, upper 65 70 (rw e tt))

digit_test : ℕ → Bool
digit_test c = not (is_digit c) || ltb (digit_value c) 16 && eqb (digit_of (digit_value c)) c && eqb (c % 16 + 9 * (c / 64)) (digit_value c)

digits_pass : T (all_below 71 digit_test)
unfolding all_below digit_test is_digit digit_value digit_of
digits_pass = tt

digit_facts : (c : ℕ) → is_digit c ≡ true → ((digit_value c < 16) × (digit_of (digit_value c) ≡ c)) × (c % 16 + 9 * (c / 64) ≡ digit_value c)
unfolding digit_test
digit_facts c h = simp passed at (rw h at (all_below_at 71 digit_test digits_pass c (digit_small c h)))

pub digit_value_below : (c : ℕ) → is_digit c ≡ true → digit_value c < 16
digit_value_below c h = (digit_facts c h).0.0

pub digit_of_value : (c : ℕ) → is_digit c ≡ true → digit_of (digit_value c) ≡ c
digit_of_value c h = (digit_facts c h).0.1

-- its lower four bits, and 9 more for a letter, whose code is above 64
pub digit_value_bits : (c : ℕ) → is_digit c ≡ true → c % 16 + 9 * (c / 64) ≡ digit_value c
digit_value_bits c h = (digit_facts c h).1

-- ---- of a value

value_test : ℕ → Bool
value_test v = is_digit (digit_of v) && eqb (digit_value (digit_of v)) v

values_pass : T (all_below 16 value_test)
unfolding all_below value_test is_digit digit_value digit_of
values_pass = tt

value_facts : (v : ℕ) → v < 16 → T (is_digit (digit_of v)) × (digit_value (digit_of v) ≡ v)
unfolding value_test
value_facts v h = simp passed at (all_below_at 16 value_test values_pass v h)

pub digit_of_is_digit : (v : ℕ) → v < 16 → is_digit (digit_of v) ≡ true
digit_of_is_digit v h = is_true _ (value_facts v h).0

pub digit_value_of : (v : ℕ) → v < 16 → digit_value (digit_of v) ≡ v
digit_value_of v h = (value_facts v h).1
