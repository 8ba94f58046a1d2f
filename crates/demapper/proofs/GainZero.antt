-- Gain 0 makes all costs equal, so the nearest index is 0, every difference 0 and every soft value 0 (REQUIREMENTS, "Cost of a point").
-- Assumes nothing.
use mathlib.Core.Path.{◌≡◌, sym}
use Prim.Native.Nat.{ℕ, ◌^◌, ◌<◌}
use native.Mathlib.Nat.{not-suc-le-zero}
use lib.IntN.{ℤ, pos, zero-*ℤ, +ℤ_invr}
use lib.Dec.{lit<}
use lib.Pow.{pow_pos}
use lib.Signed.{≤ℤ_refl}
use Rattle.arithmetic.specs.Least.{first_least}
use Rattle.arithmetic.proofs.Least.{first_least_unique}
use Rattle.constellation.specs.Levels.{axis_cost}
use Rattle.constellation.specs.Psk.{phase_cost}
use Rattle.constellation.specs.Parts.{Part, gray_part, axis, phase}
use Rattle.constellation.specs.Shown.{Shown}
use Rattle.demapper.specs.Soft.{cost_difference, soft_value}
use Rattle.demapper.proofs.Difference.{least_by_bit}
use Rattle.demapper.proofs.Soft.{soft_of_zero}

-- all indices of a part cost the same
abbrev pub CostsEqual : Part → Type 0
CostsEqual p = (j k : ℕ) → p.cost j ≡ p.cost k

pub axis_costs_equal : (m : ℕ) (y : ℤ) → CostsEqual (axis m 0 y)
unfolding axis gray_part axis_cost
axis_costs_equal m y j k = simp zero-*ℤ

pub phase_costs_equal : (m : ℕ) (y_i y_q : ℤ) → CostsEqual (phase m 0 y_i y_q)
unfolding phase gray_part phase_cost
phase_costs_equal m y_i y_q j k = simp zero-*ℤ

first_at_equal_costs : (m : ℕ) (cost : ℕ → ℤ) → ((j k : ℕ) → cost j ≡ cost k) → first_least cost (2 ^ m) ≡ 0
first_at_equal_costs m cost e =
    sym (first_least_unique cost (2 ^ m) 0 (pow_pos m) (λ j h. rw (e 0 j) (≤ℤ_refl (cost j))) (λ j h. absurd (not-suc-le-zero h)))

pub axis_at_gain_zero : (m : ℕ) (y : ℤ) → (axis m 0 y).nearest ≡ 0
unfolding axis gray_part
axis_at_gain_zero m y = first_at_equal_costs m _ (axis_costs_equal m y)

pub phase_at_gain_zero : (m : ℕ) (y_i y_q : ℤ) → (phase m 0 y_i y_q).nearest ≡ 0
unfolding phase gray_part
phase_at_gain_zero m y_i y_q = first_at_equal_costs m _ (phase_costs_equal m y_i y_q)

pub difference_at_equal_costs : {p : Part} → Shown p → CostsEqual p → (i : ℕ) → i < p.bits → cost_difference p i ≡ pos 0
unfolding cost_difference
difference_at_equal_costs {p} s e i h =
    let one = least_by_bit s i 1 h (lit< tt) in
    let zero = least_by_bit s i 0 h (lit< tt) in
    rw (← one.attained, ← zero.attained, e one.best zero.best, +ℤ_invr)

pub soft_at_equal_costs : {p : Part} → Shown p → CostsEqual p → (i : ℕ) → i < p.bits → (w shift T : ℕ)
    → soft_value w shift T (cost_difference p i) ≡ pos 0
soft_at_equal_costs s e i h w shift T = rw (difference_at_equal_costs s e i h) (soft_of_zero w shift T)
