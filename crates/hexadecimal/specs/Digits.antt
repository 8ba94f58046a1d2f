-- Hexadecimal digits and fields: unsigned, most significant digit first, digits 0-9 and A-F (REQUIREMENTS, "Lines"). A text is the list of its
-- characters' codes. Laws: proofs/Digits and proofs/Fields. Assumes nothing.
use Rattle.std.specs.Prelude.{Bool, cond, ◌&&◌, ◌||◌, List, [], ◌∷◌, ◌++◌, ℕ, zero, suc, ◌+◌, ◌*◌, ◌-◌, ◌/◌, ◌%◌, ltb, leb, length, get_or}
use Rattle.arithmetic.specs.Tests.{all_below}

-- '0' is 48 and '9' is 57, 'A' is 65 and 'F' is 70; a digit is one of these characters
unfoldable pub is_digit : ℕ → Bool
is_digit c = (leb 48 c && leb c 57) || (leb 65 c && leb c 70)

-- every character is a digit
unfoldable pub all_digits : List ℕ → Bool
all_digits text = all_below (length text) (λ i. is_digit (get_or text i 0))

-- the value of a digit, and the digit of a value
unfoldable pub digit_value : ℕ → ℕ
digit_value c = cond (ltb c 65) (c - 48) (c - 65 + 10)

unfoldable pub digit_of : ℕ → ℕ
digit_of v = cond (ltb v 10) (48 + v) (65 + (v - 10))

-- the number that the n digits from the position `at` on stand for
unfoldable pub number_at : List ℕ → ℕ → ℕ → ℕ
number_at text at zero = 0
number_at text at (suc n) = number_at text at n * 16 + digit_value (get_or text (at + n) 0)

-- a number written with n digits, of which the last is its remainder by 16
unfoldable pub digits_of : ℕ → ℕ → List ℕ
digits_of zero v = []
digits_of (suc n) v = digits_of n (v / 16) ++ (digit_of (v % 16) ∷ [])
