-- Two's complement in n hexadecimal digits (REQUIREMENTS, "Lines"): numbers from half of 16^n on stand for themselves less 16^n.
-- Laws: proofs/Signs. Assumes nothing.
use Rattle.std.specs.Prelude.{cond, List, ℕ, suc, ◌*◌, ◌-◌, ◌^◌, ◌<◌, ◌≤◌, ltb, ℤ, pos, negsuc, ◌-ℤ◌}
use Rattle.hexadecimal.specs.Digits.{number_at, digits_of}

unfoldable pub signed_of : ℕ → ℕ → ℤ
signed_of n v = cond (ltb (2 * v) (16 ^ n)) (pos v) (pos v -ℤ pos (16 ^ n))

unfoldable pub unsigned_of : ℕ → ℤ → ℕ
unsigned_of n (pos v) = v
unsigned_of n (negsuc v) = 16 ^ n - suc v

-- the signed number in the n digits from the position `at` on, and a signed number written with n digits
unfoldable pub signed_at : List ℕ → ℕ → ℕ → ℤ
signed_at text at n = signed_of n (number_at text at n)

unfoldable pub signed_digits : ℕ → ℤ → List ℕ
signed_digits n z = digits_of n (unsigned_of n z)

-- the last n digits of a number written with 4; its n digits, where they have room for it (proofs/Signs, `last_digits_lem`)
unfoldable pub last_digits : ℕ → ℤ → List ℕ
last_digits n z = digits_of n (unsigned_of 4 z)

-- the numbers that n digits have room for: at least minus half of 16^n, and below half of it
unfoldable pub Representable : ℕ → ℤ → Type 0
Representable n (pos v) = 2 * v < 16 ^ n
Representable n (negsuc v) = 2 * suc v ≤ 16 ^ n
