-- What reading a part goes by, for an axis and a phase alike: the ranges of a part's indices and costs, what one turn of the loop writes into
-- the four buffers, and what they hold at the end. Assumes nothing.
use mathlib.Core.Path.{◌≡◌, refl, sym, ◌∙◌}
use mathlib.Core.List.{List, ◌∷◌}
use Prim.Native.Nat.{ℕ, ◌+◌, ◌*◌, ◌-◌, ◌^◌, ◌<◌, ◌≤◌}
use native.Mathlib.Omega.{arith}
use lib.IntN.{ℤ, pos, nat_abs, ◌-ℤ◌}
use lib.ListN.{length, set, length-append, length-take, length-drop, length-map}
use lib.Dec.{T}
use lib.Pow.{pow_mono}
use lib.Signed.{◌≤ℤ◌, non_neg, yes_non_neg}
use mir.Syntax.{w8, w16, w64}
use mir.Val.{Fits, SFits}
use mir.Facts.{to_z-of_z}
use Rattle.arithmetic.specs.Lists.{first, over}
use Rattle.arithmetic.specs.Least.{Least}
use Rattle.arithmetic.proofs.Lists.{Filled, filled_none, filled_more, over_set_front, map_first}
use Rattle.arithmetic.proofs.Spread.{Spread, spread_none, spread_more, length_spread}
use Rattle.arithmetic.proofs.Integers.{as_diff, diffs}
use Rattle.arithmetic.proofs.Signed.{Sized, held, sized_fits, sized_held, sized_sub}
use Rattle.constellation.specs.Ranges.{max_axis_bits}
use Rattle.constellation.specs.Parts.{Part, complemented, gray_part}
use Rattle.constellation.proofs.Gray.{label_bit-below}
use Rattle.demapper.specs.Soft.{Scale}
use Rattle.constellation.specs.Nearest.{IsNearest}
use Rattle.constellation.specs.Shown.{IndexWith}
use Rattle.demapper.specs.Probes.{probe_at, part_probes, probe_indices, probe_costs}
use Rattle.demapper.specs.Reading.{Buffers, buffers, bit_soft, PartFits, PartRead}
use Rattle.demapper.specs.Soft.{cost_difference, soft_value, signed_by}
use Rattle.demapper.proofs.Probes.{length-part_probes}
use Rattle.demapper.proofs.Difference.{difference_signed, other_not_less}
use Rattle.constellation.proofs.Countered.{Countered}
use Rattle.constellation.proofs.Shown.{counter_least_lem}

-- ---- ranges

-- a part that is probed at its nearest index k* and, for each bit i, at the index `counter k* i`, the best with the other bit; with indices that
-- a byte holds, and costs that 64 bits hold
pub record InRange (p : Part) (counter : ℕ → ℕ → ℕ) : Type 0 where
  pub few : p.points ≤ 2 ^ 6
  pub small : (k : ℕ) → k < p.points → nat_abs (p.cost k) ≤ 2 ^ 48
  pub is_nearest : IsNearest p.points p.cost p.nearest
  pub probed : p.probed ≡ p.nearest ∷ first (counter p.nearest) p.bits
  pub bit_below : (i k : ℕ) → p.bit i k < 2
  pub counter_below : (i : ℕ) → i < p.bits → counter p.nearest i < p.points
  pub counter_least : (i : ℕ) → i < p.bits → Least (IndexWith p i (1 - p.bit i p.nearest)) p.cost (p.cost (counter p.nearest i))

-- with Gray labels of at most six bits
pub gray_in_range : {m : ℕ} {cost : ℕ → ℤ} {k : ℕ} {counter : ℕ → ℕ → ℕ} → m ≤ max_axis_bits → ((k : ℕ) → k < 2 ^ m → nat_abs (cost k) ≤ 2 ^ 48)
    → Countered m cost counter → IsNearest (2 ^ m) cost k → InRange (gray_part m cost k counter) counter
unfolding gray_part
gray_in_range {m} few small c n =
    record {
      few = pow_mono {j = 6} few;
      small = small;
      is_nearest = n;
      probed = refl;
      bit_below = label_bit-below m;
      counter_below = λ i. c.below _ i n.below;
      counter_least = counter_least_lem c n;
    }

-- and with complemented labels
pub complemented_in_range : {p : Part} {counter : ℕ → ℕ → ℕ} → InRange p counter → InRange (complemented p) counter
unfolding complemented
complemented_in_range {p} r =
    record {
      few = r.few;
      small = r.small;
      is_nearest = r.is_nearest;
      probed = r.probed;
      bit_below = λ i k. omega arith;
      counter_below = r.counter_below;
      counter_least = λ i h.
          let best = r.counter_least i h in
          let own = r.bit_below i p.nearest in
          record {
            best = best.best;
            member = record { below = best.member.below; bit = omega (arith, best.member.bit, own) };
            attained = best.attained;
            bound = λ j w. best.bound j (record { below = w.below; bit = omega (arith, w.bit, own, r.bit_below i j) });
          };
    }

-- an index is stored as a byte
index_fits : {p : Part} {counter : ℕ → ℕ → ℕ} {k : ℕ} → InRange p counter → k < p.points → Fits w8 k
index_fits h l = omega (arith, l, h.few)

-- a cost, as the machine holds it
cost_held : {p : Part} {counter : ℕ → ℕ → ℕ} {k : ℕ} {z : ℤ} → InRange p counter → k < p.points → z ≡ p.cost k → Sized (held w64 z) (p.cost k) (2 ^ 48)
cost_held {k} h l e = sized_held w64 tt (record { value = e; size = h.small k l })

-- ---- the nearest index

pub nearest-below : {p : Part} {counter : ℕ → ℕ → ℕ} {k : ℕ} → InRange p counter → k ≡ p.nearest → k < p.points
nearest-below h e = rw e h.is_nearest.below

-- k is the nearest index of a part in range, and z its cost
pub record NearestFound (p : Part) (counter : ℕ → ℕ → ℕ) (k : ℕ) (z : ℤ) : Type 0 where
  pub in_range : InRange p counter
  pub index : k ≡ p.nearest
  pub cost : z ≡ p.cost k

module _ {p : Part} {counter : ℕ → ℕ → ℕ} {k : ℕ} {z : ℤ} (n : NearestFound p counter k z) where
  pub nearest-fits : Fits w8 k
  nearest-fits = index_fits n.in_range (nearest-below n.in_range n.index)

  least_held : Sized (held w64 z) (p.cost p.nearest) (2 ^ 48)
  least_held = rw n.index at (cost_held n.in_range (nearest-below n.in_range n.index) n.cost)

  pub counter_index_below : {i j : ℕ} → i < p.bits → j ≡ counter k i → j < p.points
  counter_index_below {i} l e = rw (e, n.index) (n.in_range.counter_below i l)

  pub counter_fits : {i j : ℕ} → i < p.bits → j ≡ counter k i → Fits w8 j
  counter_fits l e = index_fits n.in_range (counter_index_below l e)

-- ---- one bit

-- what the calls of a turn of the loop give, at bit i
pub record Turn (p : Part) (counter : ℕ → ℕ → ℕ) (i nearest other bit : ℕ) (least cost : ℤ) : Type 0 where
  pub found : NearestFound p counter nearest least
  pub in_label : i < p.bits
  pub other_is : other ≡ counter nearest i
  pub bit_is : bit ≡ p.bit i nearest
  pub cost_is : cost ≡ p.cost other

-- z is the cost of the counter-hypothesis less that of the nearest index, as the machine has them
pub record BitDifference (p : Part) (i bit : ℕ) (z : ℤ) : Type 0 where
  pub fits : SFits w64 z
  pub positive : T (non_neg (held w64 z))
  pub small : nat_abs (held w64 z) < 2 ^ 50
  pub signed : signed_by bit (nat_abs (held w64 z)) ≡ cost_difference p i

difference_nonneg : {a b : ℤ} → a ≤ℤ b → pos 0 ≤ℤ (b -ℤ a)
difference_nonneg {a} {b} = rw (as_diff a, as_diff b) (simp diffs (omega arith))

module _ {p : Part} {counter : ℕ → ℕ → ℕ} {i nearest other bit : ℕ} {least cost : ℤ} (t : Turn p counter i nearest other bit least cost) where
  pub turn_bit_below : bit < 2
  turn_bit_below = rw (t.bit_is, t.found.index) (t.found.in_range.bit_below i _)

  other_in_range : other < p.points
  other_in_range = counter_index_below t.found t.in_label t.other_is

  counter_held : Sized (held w64 cost) (p.cost (counter p.nearest i)) (2 ^ 48)
  counter_held = rw (t.other_is, t.found.index) at (cost_held t.found.in_range other_in_range t.cost_is)

  pub turn_difference : BitDifference p i bit (held w64 cost -ℤ held w64 least)
  turn_difference =
      let z = sized_sub counter_held (least_held t.found) in
      let kept = sized_held w64 tt z in
      let r = t.found.in_range in
      let best = r.counter_least i t.in_label in
      record {
        fits = sized_fits w64 tt z;
        positive = rw kept.value (yes_non_neg (difference_nonneg (other_not_less r.is_nearest best)));
        small = rw kept.value (omega (arith, kept.size));
        signed = rw (kept.value, t.bit_is, t.found.index) (sym (difference_signed r.is_nearest best (r.bit_below i _)));
      }

-- ---- the loop

-- buffers of the same lengths
pub record SameLengths (lent now : Buffers) : Type 0 where
  pub hard : length now.hard ≡ length lent.hard
  pub soft : length now.soft ≡ length lent.soft
  pub indices : length now.indices ≡ length lent.indices
  pub costs : length now.costs ≡ length lent.costs

-- a list written over a buffer that has room for it leaves its length as it is
pub length_over : {A : Type 0} (d : List A) (at : ℕ) (s : List A) → at + length s ≤ length d → length (over d at s) ≡ length d
unfolding over
length_over d at s h = simp (length-append, length-take, length-drop) (omega arith)

-- and so does reading a part with n probes
pub part_keeps_lengths : {p : Part} {scale : Scale} {at apart start n : ℕ} {lent out : Buffers} → length p.probed ≡ n → start + n ≤ length lent.indices
    → start + n ≤ length lent.costs → PartRead p scale at apart start lent out → SameLengths lent out
part_keeps_lengths {p} {start} {lent} e h k r =
    let indices : length (probe_indices (part_probes p)) ≡ length p.probed = rw length-map (length-part_probes p) in
    let costs : length (probe_costs (part_probes p)) ≡ length p.probed = rw length-map (length-part_probes p) in
    record {
      hard = rw r.hard (length_spread lent.hard _ _ _ p.bits);
      soft = rw r.soft (length_spread lent.soft _ _ _ p.bits);
      indices = rw r.indices (length_over lent.indices start _ (omega (arith, indices)));
      costs = rw r.costs (length_over lent.costs start _ (omega (arith, costs)));
    }

-- the bits before bit n are read: their label bits, soft values, counter-hypotheses and costs are written
pub record ReadUpTo (p : Part) (counter : ℕ → ℕ → ℕ) (scale : Scale) (at apart start : ℕ) (lent out : Buffers) (n : ℕ) : Type 0 where
  pub hard : Spread lent.hard at apart (λ i. p.bit i p.nearest) n out.hard
  pub soft : Spread lent.soft at apart (bit_soft scale p) n out.soft
  pub indices : Filled lent.indices (start + 1) (λ i. counter p.nearest i) n out.indices
  pub costs : Filled lent.costs (start + 1) (λ i. p.cost (counter p.nearest i)) n out.costs

module _ {p : Part} {counter : ℕ → ℕ → ℕ} {scale : Scale} {at apart start : ℕ} {lent : Buffers} where
  pub read_none : ReadUpTo p counter scale at apart start lent lent 0
  read_none = record { hard = spread_none; soft = spread_none; indices = filled_none; costs = filled_none }

  -- one bit more, at the position k of the buffers for bits
  pub read_more : {i k nearest other bit : ℕ} {least cost soft : ℤ} {out : Buffers} → PartFits p.bits at apart start lent → k ≡ at + i * apart
      → Turn p counter i nearest other bit least cost → SFits w16 soft
      → soft ≡ soft_value scale.weight scale.shift scale.limit (signed_by bit (nat_abs (held w64 (held w64 cost -ℤ held w64 least))))
      → ReadUpTo p counter scale at apart start lent out i
      → ReadUpTo p counter scale at apart start lent (buffers (set out.hard k bit) (set out.soft k (held w16 soft)) (set out.indices (start + 1 + i) other) (set out.costs (start + 1 + i) (held w64 cost))) (i + 1)
  read_more {i} fits place t f s r =
      record {
        hard = spread_more r.hard place (rw t.found.index at t.bit_is);
        soft = spread_more r.soft place (to_z-of_z f ∙ rw (turn_difference t).signed at s);
        indices = filled_more r.indices (start + 1 + i) refl refl (omega arith) (rw t.found.index at t.other_is);
        costs = filled_more r.costs (start + 1 + i) refl refl (omega arith) (counter_held t).value;
      }

  -- all bits are read, and then the nearest index and its cost are written in front of the counter-hypotheses
  pub read_all : {i nearest : ℕ} {least : ℤ} {out : Buffers} → PartFits p.bits at apart start lent → NearestFound p counter nearest least
      → i ≡ p.bits → ReadUpTo p counter scale at apart start lent out i
      → PartRead p scale at apart start lent (buffers out.hard out.soft (set out.indices start nearest) (set out.costs start (held w64 least)))
  unfolding part_probes probe_at
  read_all fits n all r =
      record {
        hard = rw all at r.hard.contents;
        soft = rw all at r.soft.contents;
        indices = rw n.in_range.probed (simp map_first (rw (n.index, r.indices.contents, all) (over_set_front lent.indices start _ _ (omega arith))));
        costs = rw n.in_range.probed (simp map_first (rw ((least_held n).value, r.costs.contents, all) (over_set_front lent.costs start _ _ (omega arith))));
      }
