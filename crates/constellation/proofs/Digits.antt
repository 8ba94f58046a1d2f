-- The digits of an index as the code counts them: with h = 2^(m − 1 − i), the digits 0 to i are k / h, and digit i is the lowest of them.
-- Assumes nothing.
use mathlib.Core.Path.{◌≡◌, ap}
use Prim.Native.Nat.{ℕ, suc, ◌*◌, ◌-◌, ◌/◌, ◌^◌, ◌≤◌, ◌<◌}
use native.Mathlib.Nat.{sub-zero, pow-suc, div-lt_iff_lt-mul}
use native.Mathlib.Omega.{arith}
use lib.Pow.{pow_pos, pow_mono, shr_le}
use Rattle.constellation.specs.Ranges.{BitInRange}

-- the place value of digit i
abbrev pub place : ℕ → ℕ → ℕ
place m i = 2 ^ (m - 1 - i)

pub place_suc : (m i : ℕ) → 2 ^ (m - suc i) ≡ place m i
place_suc m i = ap (λ e. 2 ^ e) (omega arith)

-- that of the digit before is twice it
pub place_before : (m i : ℕ) → i < m → 2 ^ (m - i) ≡ place m i * 2
place_before m i h =
    let e : m - i ≡ suc (m - 1 - i) = omega arith in
    rw (e, pow-suc)

module _ {m k i : ℕ} (r : BitInRange m k i) where
  pub index_small : k < 64
  index_small = omega (arith, pow_mono {j = 6} r.few)

  pub place_small : place m i ≤ 64
  place_small = pow_mono {j = 6} (omega arith)

  pub digits_small : k / place m i < 64
  digits_small = omega (arith, index_small, shr_le k (m - 1 - i))

-- digit 0 has none before it
module _ {m k : ℕ} (r : BitInRange m k 0) where
  pub place_first : 2 ^ m ≡ place m 0 * 2
  place_first = rw (sub-zero m) at (place_before m 0 r.in_label)

  pub first_digit : k / place m 0 < 2
  first_digit = (div-lt_iff_lt-mul (pow_pos (m - 1 - 0))).1 (omega (arith, place_first))
