-- `label::label_bit` meets its contract: the label bit is the lowest digit of k / h added to the next, which at digit 0 is 0. Assumes nothing.
use mathlib.Core.Path.{◌≡◌, ap}
use Prim.Native.Nat.{ℕ, zero, suc, ◌+◌, ◌/◌, ◌%◌}
use native.Mathlib.Nat.{div-div-eq-div-mul, add-mod}
use native.Mathlib.Omega.{arith}
use Rattle.constellation.specs.Ranges.{BitInRange}
use Rattle.constellation.specs.Gray.{xor, digit, label_bit}
use Rattle.constellation.proofs.Digits.{place, place_suc, place_before, first_digit}
use Rattle.points.proofs.label.label_bit.Goals as goal

label_bit_digits : (m k i : ℕ) → BitInRange m k i → (k / place m i + k / place m i / 2) % 2 ≡ label_bit m i k
unfolding label_bit digit xor
label_bit_digits m k zero r = rw place_suc (ap (λ x. x % 2) (omega (arith, first_digit r)))
label_bit_digits m k (suc i) r = rw (place_suc m (suc i), place_before m (suc i) r.in_label, ← div-div-eq-div-mul, ← add-mod)

pub returns : goal.returns
returns c = label_bit_digits _ _ _ c.requires
