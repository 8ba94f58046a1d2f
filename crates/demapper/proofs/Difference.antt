-- N of a bit from two indices (001, equation 6): the least cost over all points with the bit of a nearest index is that index's, so N is the
-- difference to the least over the points with the other bit, and has the sign of the nearest index's bit. Assumes nothing.
use mathlib.Core.Path.{◌≡◌, refl}
use mathlib.Core.List.{List, [], ◌∷◌, Memᴰ}
use Prim.Native.Nat.{ℕ, zero, suc, ◌-◌, ◌<◌}
use native.Mathlib.Omega.{arith}
use lib.Dec.{eqb}
use lib.IntN.{ℤ, pos, neg_ℤ, nat_abs, ◌-ℤ◌}
use lib.Signed.{◌≤ℤ◌}
use mir.Facts.{eqb_yes, yes_eqb}
use Rattle.arithmetic.specs.Lists.{first}
use Rattle.arithmetic.specs.Least.{Least, least_cost}
use Rattle.arithmetic.proofs.Integers.{as_diff, diffs, neg-pos}
use Rattle.arithmetic.proofs.Lists.{first_mem, mem_first, keep_mem, mem_keep}
use Rattle.arithmetic.proofs.Least.{least_unique, least_cost_least}
use Rattle.constellation.specs.Parts.{Part}
use Rattle.constellation.specs.Nearest.{IsNearest}
use Rattle.constellation.specs.Shown.{IndexWith, Shown}
use Rattle.demapper.specs.Soft.{indices_with, least_with, cost_difference, signed_by}

-- ---- the computed least is the least

indices_with_lem : (p : Part) (i β k : ℕ) → Memᴰ k (indices_with p i β) → IndexWith p i β k
unfolding indices_with
indices_with_lem p i β k mem =
    let kept = keep_mem (λ k. eqb (p.bit i k) β) (first (λ k. k) p.points) mem in
    let found = first_mem (λ k. k) p.points kept.0 in
    record { below = rw found.2 found.1; bit = eqb_yes kept.1 }

with_indices : (p : Part) (i β k : ℕ) → IndexWith p i β k → Memᴰ k (indices_with p i β)
unfolding indices_with
with_indices p i β k w =
    mem_keep (λ k. eqb (p.bit i k) β) (mem_first (λ k. k) p.points k w.below) (yes_eqb w.bit)

-- the least over a list that is not empty
least_of_list : (cost : ℕ → ℤ) (ks : List ℕ) {k : ℕ} → Memᴰ k ks → Least (λ j. Memᴰ j ks) cost (least_cost cost ks)
least_of_list cost [] mem = absurd (mathlib.Core.List.Memᴰ.not-nil mem)
least_of_list cost (k ∷ ks) mem = least_cost_least cost k ks

-- where some index has the bit
least_with_lem : (p : Part) (i β : ℕ) {k : ℕ} → IndexWith p i β k → Least (IndexWith p i β) p.cost (least_with p i β)
unfolding least_with
least_with_lem p i β {k} w =
    let l = least_of_list p.cost (indices_with p i β) (with_indices p i β k w) in
    record {
      best = l.best;
      member = indices_with_lem p i β l.best l.member;
      attained = l.attained;
      bound = λ j m. l.bound j (with_indices p i β j m);
    }

-- so it is for each value of each bit of a part that is shown
pub least_by_bit : {p : Part} → Shown p → (i β : ℕ) → i < p.bits → β < 2 → Least (IndexWith p i β) p.cost (least_with p i β)
least_by_bit {p} s i β h l = least_with_lem p i β (s.probes i β h l).has

-- ---- N by its sign and size

above_is_size : (a b : ℤ) → a ≤ℤ b → b -ℤ a ≡ pos (nat_abs (b -ℤ a))
above_is_size a b = rw (as_diff a, as_diff b) (simp diffs (omega arith))

below_is_size : (a b : ℤ) → a ≤ℤ b → a -ℤ b ≡ neg_ℤ (pos (nat_abs (b -ℤ a)))
below_is_size a b = rw (neg-pos, as_diff a, as_diff b) (simp diffs (omega arith))

-- k is a nearest index, and v the least cost of the indices with the other bit
module _ {p : Part} {k i : ℕ} {v : ℤ} (n : IsNearest p.points p.cost k) (other : Least (IndexWith p i (1 - p.bit i k)) p.cost v) where
  -- among the points with the bit of k, k itself is best
  pub least_with_own : least_with p i (p.bit i k) ≡ p.cost k
  least_with_own =
      let own : IndexWith p i (p.bit i k) k = record { below = n.below; bit = refl } in
      least_unique (least_with_lem p i (p.bit i k) own) (record { best = k; member = own; attained = refl; bound = λ j m. n.least j m.below })

  pub least_with_other : least_with p i (1 - p.bit i k) ≡ v
  least_with_other = least_unique (least_with_lem p i (1 - p.bit i k) other.member) other

  -- the other bit costs no less
  pub other_not_less : p.cost k ≤ℤ v
  other_not_less = rw other.attained at (n.least other.best other.member.below)

  -- the sign of N is that of the nearest index's bit, and its size is how much more the other bit costs
  pub difference_signed : p.bit i k < 2 → cost_difference p i ≡ signed_by (p.bit i k) (nat_abs (v -ℤ p.cost k))
  unfolding signed_by cost_difference
  difference_signed h = go (p.bit i k) refl h
    where
      go : (b : ℕ) → p.bit i k ≡ b → b < 2 → cost_difference p i ≡ signed_by b (nat_abs (v -ℤ p.cost k))
      go zero e l = rw (rw e at least_with_own, rw e at least_with_other) (above_is_size _ _ other_not_less)
      go (suc zero) e l = rw (rw e at least_with_own, rw e at least_with_other) (below_is_size _ _ other_not_less)
      go (suc (suc b)) e l = absurd (omega arith)
