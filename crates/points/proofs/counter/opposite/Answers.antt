-- `counter::opposite` meets its contract: half of the indices is the place value of digit 0, and 2·k / half has digit 1 lowest.
-- With one bit that digit counts for nothing. Assumes nothing.
use mathlib.Core.Path.{◌≡◌}
use Prim.Native.Nat.{ℕ, zero, suc, ◌+◌, ◌*◌, ◌-◌, ◌/◌, ◌%◌, ◌^◌}
use native.Mathlib.Nat.{le_of_suc-le-suc, mod-eq_of_lt, mul-div-mul_left}
use native.Mathlib.Omega.{arith}
use lib.Dec.{lit<}
use lib.Pow.{pow_pos}
use Rattle.constellation.specs.Ranges.{BitInRange}
use Rattle.constellation.specs.Gray.{digit}
use Rattle.constellation.specs.Counter.{phase_counter}
use Rattle.constellation.proofs.Digits.{place, place_suc, place_before, place_first, first_digit}
use Rattle.points.proofs.counter.opposite.Goals as goal

half : {m k : ℕ} → BitInRange m k 0 → 2 ^ m / 2 ≡ place m 0
half r = omega (arith, place_first r)

opposite_digits : (m k : ℕ) → BitInRange m k 0 → (1 - k / place m 0) * place m 0 + (1 - 2 * k / place m 0 % 2) * (place m 0 - 1) ≡ phase_counter m k 0
unfolding phase_counter digit
opposite_digits zero k r = absurd (omega arith)
opposite_digits (suc zero) k r = omega arith
opposite_digits (suc (suc n)) k r =
    let m : ℕ = suc (suc n) in
    let e : place m 0 ≡ 2 * place m 1 = omega (arith, place_suc m 0, place_before m 1 (omega arith)) in
    rw (place_suc m 0, mod-eq_of_lt (first_digit r), place_suc m 1, e, mul-div-mul_left k (place m 1) (lit< tt))

pub nonzero_div-digit0 : goal.nonzero_div-digit0
nonzero_div-digit0 c = rw (c.power-half.ensures, half c.requires) (pow_pos _)

pub nonzero_div-digit1 : goal.nonzero_div-digit1
nonzero_div-digit1 c = nonzero_div-digit0 c

pub overflow_sub-result : goal.overflow_sub-result
overflow_sub-result c = rw (c.power-half.ensures, half c.requires) (le_of_suc-le-suc (first_digit c.requires))

pub overflow_sub-result-3 : goal.overflow_sub-result-3
overflow_sub-result-3 c = nonzero_div-digit0 c

pub returns : goal.returns
returns c = rw (c.power-half.ensures, half c.requires) (opposite_digits _ _ c.requires)
