-- A part with complemented labels: each bit's difference, and its soft value, is the negative of what it is without the complement. Assumes nothing.
use mathlib.Core.Path.{◌≡◌, ap, ap₂, ◌∙◌}
use Prim.Native.Nat.{ℕ, ◌-◌, ◌<◌}
use native.Mathlib.Omega.{arith}
use lib.IntN.{ℤ, neg_ℤ, ◌-ℤ◌}
use Rattle.arithmetic.proofs.Integers.{as_diff, diffs, diff_neg}
use Rattle.arithmetic.proofs.Least.{least_unique}
use Rattle.constellation.specs.Parts.{Part, complemented}
use Rattle.constellation.specs.Shown.{Shown}
use Rattle.constellation.proofs.Shown.{complemented_shown, complemented_with, with_complemented}
use Rattle.demapper.specs.Soft.{least_with, cost_difference, soft_value}
use Rattle.demapper.proofs.Difference.{least_by_bit}
use Rattle.demapper.proofs.Soft.{soft_negates}

turned_round : (a b : ℤ) → a -ℤ b ≡ neg_ℤ (b -ℤ a)
turned_round a b = rw (as_diff a, as_diff b) (simp (diffs, diff_neg) (omega arith))

module _ {p : Part} (s : Shown p) (i : ℕ) (h : i < p.bits) where
  complemented_least : (β : ℕ) → β < 2 → least_with (complemented p) i β ≡ least_with p i (1 - β)
  unfolding complemented
  complemented_least β l =
      let own = least_by_bit (complemented_shown s) i β h l in
      least_unique (record { best = own.best; member = complemented_with s h l own.member; attained = own.attained; bound = λ j w. own.bound j (with_complemented l w) })
      (least_by_bit s i (1 - β) h (omega arith))

  pub complemented_difference : cost_difference (complemented p) i ≡ neg_ℤ (cost_difference p i)
  unfolding cost_difference
  complemented_difference = ap₂ ◌-ℤ◌ (complemented_least 1 (omega arith)) (complemented_least 0 (omega arith)) ∙ turned_round (least_with p i 0) (least_with p i 1)

  pub complemented_soft : (w shift T : ℕ) → soft_value w shift T (cost_difference (complemented p) i) ≡ neg_ℤ (soft_value w shift T (cost_difference p i))
  complemented_soft w shift T = ap (soft_value w shift T) complemented_difference ∙ soft_negates w shift T (cost_difference p i)
