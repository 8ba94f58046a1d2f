-- `LabelLayout::index_at` meets its contract. Assumes nothing.
use mathlib.Core.Path.{◌≡◌, refl}
use Prim.Native.Nat.{ℕ, zero, suc, ◌+◌, ◌*◌, ◌%◌, ◌≤◌, ◌<◌}
use native.Mathlib.Nat.{add-mod-mod}
use native.Mathlib.Numerals.{add-one}
use native.Mathlib.Omega.{arith}
use lib.Pow.{pow_mono}
use Rattle.arithmetic.specs.Lists.{first}
use Rattle.arithmetic.proofs.Lists.{length_first, first_head}
use Rattle.constellation.specs.Ranges.{max_axis_bits}
use Rattle.constellation.specs.Gray.{xor, index_from, index_of_label}
use Rattle.constellation.proofs.Gray.{index_of_label-below}
use Rattle.constellation.proofs.Labels.{bit_below_lem}
use Rattle.points.proofs.LabelWithin.{turned-below}
use Rattle.points.proofs.label.LabelLayout.index_at.Goals as goal
use Rattle.points.proofs.label.LabelLayout.index_at.Goals.{After-turned_bit, In-loop-i}

-- one bit more
index_from_first : (k : ℕ) (f : ℕ → ℕ) (n : ℕ) → index_from k (first f (suc n)) ≡ 2 * index_from k (first f n) + (f n + index_from k (first f n)) % 2
unfolding index_from first xor
index_from_first k f zero = rw add-mod-mod
index_from_first k f (suc n) = rw (first_head f (suc n), first_head f n) (index_from_first (2 * k + xor (f 0) (k % 2)) (λ i. f (suc i)) n)

index_of_label_small : (f : ℕ → ℕ) (n k : ℕ) → k ≡ index_of_label (first f n) → n ≤ max_axis_bits → k < 64
index_of_label_small f n k e h = omega (arith, rw length_first at (index_of_label-below (first f n)), pow_mono {j = 6} h)

pub loop-i-init : goal.loop-i-init
unfolding index_of_label index_from first
loop-i-init c = refl

pub loop-i-preserved : goal.loop-i-preserved
unfolding index_of_label
loop-i-preserved c = rw (add-one, index_from_first, ← c.loop-i.invariant, c.turned_bit.ensures, c.bit_or_padding-bit.ensures)

pub turned_bit-requires : goal.turned_bit-requires
turned_bit-requires c = rw c.bit_or_padding-bit.ensures (bit_below_lem _ c.args.bits.bits _)

turned_small : (c : After-turned_bit) → c.turned_bit.result < 2
turned_small c = rw c.turned_bit.ensures (turned-below _ _ (rw c.bit_or_padding-bit.ensures (bit_below_lem _ c.args.bits.bits _)))

pub overflow_mul-k : goal.overflow_mul-k
overflow_mul-k c = omega (arith, index_of_label_small _ _ _ c.loop-i.invariant (omega arith))

pub overflow_add-k : goal.overflow_add-k
overflow_add-k c = omega (arith, turned_small c, index_of_label_small _ _ _ c.loop-i.invariant (omega arith))

pub overflow_add-k-in-loop-i : goal.overflow_add-k-in-loop-i
overflow_add-k-in-loop-i c = omega (arith, index_of_label_small _ _ _ c.loop-i.invariant (omega arith))
