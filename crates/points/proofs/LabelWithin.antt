-- What `label_within` takes for a label of a list of bits is one; turned round, it is the complement of what it is as it stands. Assumes nothing.
use mathlib.Core.Path.{◌≡◌, sym}
use mathlib.Core.Bool.{Bool, true, false}
use mathlib.Core.List.{List}
use Prim.Native.Nat.{ℕ, ◌+◌, ◌*◌, ◌-◌, ◌<◌}
use native.Mathlib.Omega.{arith}
use lib.ListN.{get_or}
use Rattle.arithmetic.proofs.Lists.{length_first, get_or_first, map_first}
use Rattle.constellation.specs.Gray.{AllBits, Label, complement}
use Rattle.constellation.proofs.Labels.{bit_below_lem}
use Rattle.points.specs.LabelWithin.{turned_bit, label_within}

pub turned-below : (turned : Bool) (b : ℕ) → b < 2 → turned_bit turned b < 2
unfolding turned_bit
turned-below false b h = h
turned-below true b h = omega arith

pub label_within_lem : (bits : List ℕ) → AllBits bits → (at apart : ℕ) (turned : Bool) (m : ℕ) → Label m (label_within bits at apart turned m)
label_within_lem bits all at apart turned m =
    let entry : ℕ → ℕ = λ i. turned_bit turned (get_or bits (at + i * apart) 0) in
    record {
      fills = length_first entry m;
      bits = record { bit = λ j h. rw (get_or_first entry m j 0 (rw length_first at h)) (turned-below turned _ (bit_below_lem bits all (at + j * apart))) };
    }

pub within_turned : (bits : List ℕ) (at apart m : ℕ) → label_within bits at apart true m ≡ complement (label_within bits at apart false m)
unfolding turned_bit complement
within_turned bits at apart m = sym (map_first (λ b. 1 - b) (λ i. get_or bits (at + i * apart) 0) m)
