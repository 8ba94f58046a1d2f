-- An axis, and a phase with 1 to 4 bits, are shown; and a part that is shown is so with complemented labels. Assumes nothing.
use mathlib.Core.Path.{◌≡◌, refl, sym, ap, ◌∙◌}
use Prim.Native.Nat.{ℕ, zero, suc, ◌+◌, ◌-◌, ◌^◌, ◌<◌, suc-le-suc}
use native.Mathlib.Nat.{le_of_suc-le-suc}
use native.Mathlib.Decide.{ℕ_discrete}
use native.Mathlib.Omega.{arith}
use lib.IntN.{ℤ}
use lib.ListN.{length}
use lib.Pow.{pow_pos}
use Rattle.arithmetic.specs.Least.{Least, first_least}
use Rattle.arithmetic.proofs.Lists.{length_first, get_or_first, map_first}
use Rattle.arithmetic.proofs.Least.{first_least-below, first_least_bound}
use Rattle.constellation.specs.Gray.{complement, label_bit, gray_label}
use Rattle.constellation.specs.Levels.{axis_cost}
use Rattle.constellation.specs.Psk.{phase_cost}
use Rattle.constellation.specs.Counter.{axis_counter, phase_counter}
use Rattle.constellation.specs.Parts.{Part, complemented, part_label, gray_part, axis, phase}
use Rattle.constellation.proofs.Gray.{label_bit-below, index_of_label_lem}
use Rattle.constellation.proofs.Labels.{gray_label_lem, label_index_below, label_of_own_index, label_complement, complement_twice}
use Rattle.constellation.specs.Nearest.{IsNearest}
use Rattle.constellation.specs.Shown.{IndexWith, probed_at, ProbeFor, Shown}
use Rattle.constellation.proofs.Countered.{Countered, axis_countered, phase_countered}

module _ (m : ℕ) (cost : ℕ → ℤ) (k : ℕ) (counter : ℕ → ℕ → ℕ) where
  -- the label of an index is its Gray label
  gray_part_label : (j : ℕ) → part_label (gray_part m cost k counter) j ≡ gray_label m j
  unfolding part_label gray_part gray_label
  gray_part_label j = refl

  -- probed are k and then the counter-hypotheses
  gray_probed-length : length (gray_part m cost k counter).probed ≡ suc m
  unfolding gray_part
  gray_probed-length = simp length_first (omega arith)

  gray_probed_counter : (i : ℕ) → i < m → probed_at (gray_part m cost k counter) (suc i) ≡ counter k i
  unfolding gray_part
  gray_probed_counter i h = get_or_first _ m i 0 h

-- the index that the rule for ties takes is a nearest one
pub first_nearest : (m : ℕ) (cost : ℕ → ℤ) → IsNearest (2 ^ m) cost (first_least cost (2 ^ m))
first_nearest m cost = record { below = first_least-below cost (2 ^ m) (pow_pos m); least = first_least_bound cost (2 ^ m) }

module _ {m : ℕ} {cost : ℕ → ℤ} {k : ℕ} {counter : ℕ → ℕ → ℕ} (c : Countered m cost counter) (n : IsNearest (2 ^ m) cost k) where
  -- the counter-hypothesis is best among the indices with the other bit
  pub counter_least_lem : (i : ℕ) → i < m → Least (IndexWith (gray_part m cost k counter) i (1 - label_bit m i k)) cost (cost (counter k i))
  unfolding gray_part
  counter_least_lem i h =
      record {
        best = counter k i;
        member = record { below = c.below k i n.below h; bit = c.other_bit k i n.below h };
        attained = refl;
        bound = λ j w. c.least k i h n j w.below (λ same. omega (arith, label_bit-below m i k, w.bit));
      }

  gray_probed-below : (j : ℕ) → j < suc m → probed_at (gray_part m cost k counter) j < 2 ^ m
  unfolding gray_part
  gray_probed-below zero h = n.below
  gray_probed-below (suc i) h = rw (gray_probed_counter m cost k counter i (le_of_suc-le-suc h)) (c.below k i n.below (le_of_suc-le-suc h))

  gray_probe_for : (i β : ℕ) → i < m → β < 2 → ProbeFor (gray_part m cost k counter) i β
  unfolding gray_part counter_least_lem
  gray_probe_for i β h l = go (ℕ_discrete (label_bit m i k) β)
    where
      go : Dec (label_bit m i k ≡ β) → ProbeFor (gray_part m cost k counter) i β
      go (yes e) =
          record {
            position = 0;
            in_list = rw (gray_probed-length m cost k counter) (omega arith);
            has = record { below = n.below; bit = e };
            least = λ j w. n.least j w.below;
          }
      go (no d) =
          let e : 1 - label_bit m i k ≡ β = omega (arith, label_bit-below m i k) in
          let best = rw e at (counter_least_lem i h) in
          record {
            position = suc i;
            in_list = rw (gray_probed-length m cost k counter) (suc-le-suc h);
            has = rw (gray_probed_counter m cost k counter i h) best.member;
            least = rw (gray_probed_counter m cost k counter i h) best.bound;
          }

  pub gray_shown : Shown (gray_part m cost k counter)
  unfolding gray_part
  gray_shown =
      record {
        labels = λ j b. rw (gray_part_label m cost k counter j) (gray_label_lem m j);
        indices = λ label l. label_index_below l;
        index_of_label = λ j b. rw (gray_part_label m cost k counter j) (index_of_label_lem m j b);
        label_of_index = λ label l. gray_part_label m cost k counter _ ∙ label_of_own_index l;
        nearest = n;
        probed = λ j b. gray_probed-below j (rw (gray_probed-length m cost k counter) at b);
        probes = gray_probe_for;
      }

pub axis_shown : (m g : ℕ) (y : ℤ) → Shown (axis m g y)
unfolding axis
axis_shown m g y = gray_shown (axis_countered m g y) (first_nearest m _)

pub phase_shown : (m g : ℕ) (y_i y_q : ℤ) → 0 < m → m < 5 → Shown (phase m g y_i y_q)
unfolding phase
phase_shown m g y_i y_q low high = gray_shown (phase_countered m g y_i y_q low high) (first_nearest m _)

-- ---- complemented labels

pub with_complemented : {p : Part} {i β k : ℕ} → β < 2 → IndexWith p i (1 - β) k → IndexWith (complemented p) i β k
unfolding complemented
with_complemented l w = record { below = w.below; bit = omega (arith, w.bit) }

module _ {p : Part} (s : Shown p) where
  -- label bits of the part are bits
  shown_bit_below : (i k : ℕ) → i < p.bits → k < p.points → p.bit i k < 2
  unfolding part_label
  shown_bit_below i k h b = let l = s.labels k b in rw (get_or_first (λ j. p.bit j k) p.bits i 0 h) at (l.bits.bit i (rw l.fills h))

  -- the labels of the complemented part are the complements of the part's
  complemented_label : (k : ℕ) → part_label (complemented p) k ≡ complement (part_label p k)
  unfolding part_label complemented complement
  complemented_label k = sym (map_first (λ b. 1 - b) (λ i. p.bit i k) p.bits)

  -- an index has β in the one where it has the other bit in the other
  pub complemented_with : {i β k : ℕ} → i < p.bits → β < 2 → IndexWith (complemented p) i β k → IndexWith p i (1 - β) k
  unfolding complemented
  complemented_with {i} {β} {k} h l w = record { below = w.below; bit = omega (arith, w.bit, shown_bit_below i k h w.below) }

  complemented_probe : (i β : ℕ) → i < p.bits → β < 2 → ProbeFor (complemented p) i β
  unfolding complemented
  complemented_probe i β h l =
      let probe = s.probes i (1 - β) h (omega arith) in
      record {
        position = probe.position;
        in_list = probe.in_list;
        has = with_complemented l probe.has;
        least = λ j w. probe.least j (complemented_with h l w);
      }

  pub complemented_shown : Shown (complemented p)
  unfolding complemented
  complemented_shown =
      record {
        labels = λ k b. rw (complemented_label k) (label_complement (s.labels k b));
        indices = λ label l. s.indices _ (label_complement l);
        index_of_label = λ k b. ap p.index (ap complement (complemented_label k) ∙ complement_twice _ (s.labels k b).bits) ∙ s.index_of_label k b;
        label_of_index = λ label l. complemented_label _ ∙ rw (s.label_of_index _ (label_complement l)) (complement_twice label l.bits);
        nearest = s.nearest;
        probed = s.probed;
        probes = complemented_probe;
      }

-- they have m bits and m + 1 probes, and so with complemented labels
pub axis_bits : (m g : ℕ) (y : ℤ) → (axis m g y).bits ≡ m
unfolding axis gray_part
axis_bits m g y = refl

pub phase_bits : (m g : ℕ) (y_i y_q : ℤ) → (phase m g y_i y_q).bits ≡ m
unfolding phase gray_part
phase_bits m g y_i y_q = refl

pub complemented_bits : (p : Part) → (complemented p).bits ≡ p.bits
unfolding complemented
complemented_bits p = refl

pub complemented-probed : (p : Part) → (complemented p).probed ≡ p.probed
unfolding complemented
complemented-probed p = refl

pub axis_probes : (m g : ℕ) (y : ℤ) → length (axis m g y).probed ≡ m + 1
unfolding axis
axis_probes m g y = rw (gray_probed-length m (axis_cost m g y) _ (axis_counter m)) (omega arith)

pub phase_probes : (m g : ℕ) (y_i y_q : ℤ) → length (phase m g y_i y_q).probed ≡ m + 1
unfolding phase
phase_probes m g y_i y_q = rw (gray_probed-length m (phase_cost m g y_i y_q) _ (phase_counter m)) (omega arith)
