-- `counter::axis_counter` meets its contract: with q = k / h, the digits before digit i and a 1 are q + 1 − q % 2. Assumes nothing.
use mathlib.Core.Path.{◌≡◌}
use Prim.Native.Nat.{ℕ, ◌+◌, ◌*◌, ◌-◌, ◌/◌, ◌%◌, ◌≤◌}
use native.Mathlib.Nat.{div-div-eq-div-mul, mul-le-mul}
use native.Mathlib.Omega.{arith}
use Rattle.constellation.specs.Ranges.{BitInRange}
use Rattle.constellation.specs.Gray.{digit}
use Rattle.constellation.specs.Counter.{axis_counter}
use Rattle.constellation.proofs.Digits.{place, place_suc, place_before, place_small, digits_small}
use Rattle.points.proofs.counter.axis_counter.Goals as goal

odd : (q : ℕ) → q + 1 - q % 2 ≡ q / 2 * 2 + 1
odd q = omega arith

module _ {m k i : ℕ} (r : BitInRange m k i) where
  axis_counter_digits : (k / place m i + 1 - k / place m i % 2) * place m i - k / place m i % 2 ≡ axis_counter m k i
  unfolding axis_counter digit
  axis_counter_digits = rw (odd (k / place m i), place_suc m i, place_before m i r.in_label, ← div-div-eq-div-mul) (omega arith)

  product_small : (k / place m i + 1 - k / place m i % 2) * place m i ≤ 64 * 64
  product_small = mul-le-mul {n₂ = 64} (omega (arith, digits_small r)) (place_small r)

pub returns : goal.returns
returns c = rw c.power.ensures (axis_counter_digits c.requires)
