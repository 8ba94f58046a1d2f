-- What reading a phase goes by besides: its costs are in range, and what is probed of it is handed over in two lists. Assumes nothing.
use mathlib.Core.Path.{◌≡◌, sym, ◌∙◌}
use mathlib.Core.List.{List, ◌∷◌}
use Prim.Native.Nat.{ℕ, suc, ◌+◌, ◌*◌, ◌^◌, ◌<◌, ◌≤◌}
use native.Mathlib.Nat.{mul-le-mul, mul-le-mul_left}
use native.Mathlib.Numerals.{add-one}
use native.Mathlib.Omega.{arith}
use lib.IntN.{ℤ, pos, nat_abs}
use lib.ListN.{get_or, take}
use lib.Seq.{get_or-take}
use Rattle.arithmetic.specs.Lists.{first}
use Rattle.arithmetic.proofs.Lists.{get_or_first}
use Rattle.arithmetic.proofs.Ranges.{abs_neg}
use Rattle.arithmetic.proofs.Signed.{sized, sized_add, sized_mul}
use Rattle.constellation.specs.Ranges.{IndexInRange, PhaseInRange, max_phase_bits, max_gain, max_sample, max_weighted}
use Rattle.constellation.specs.Gray.{label_bit}
use Rattle.constellation.specs.Psk.{psk_point, phase_cost}
use Rattle.constellation.specs.Counter.{phase_counter}
use Rattle.constellation.specs.Parts.{gray_part, phase}
use Rattle.constellation.proofs.PskTables.{psk_size}
use Rattle.phase_costs.specs.PhaseCosts.{SizesInRange, costs_by_sizes}
use Rattle.phase_costs.proofs.PhaseCosts.{costs_by_sizes_lem}
use Rattle.constellation.proofs.Countered.{phase_countered}
use Rattle.constellation.proofs.Shown.{first_nearest}
use Rattle.part_reading.proofs.PartReading.{InRange, gray_in_range, nearest-below, NearestFound, Turn}
use Rattle.phase_reading.specs.PhaseProbes.{PhaseProbes}

phase_cost_size : (m g : ℕ) (y_i y_q : ℤ) (k : ℕ) → PhaseInRange m g y_i y_q → k < 2 ^ m → nat_abs (phase_cost m g y_i y_q k) ≤ 2 ^ 48
unfolding phase_cost
phase_cost_size m g y_i y_q k h l =
    let far = psk_size m k h.some (omega arith) l in
    let twice : 2 * g ≤ 8190 = omega arith in
    let sum = sized_add (sized_mul (sized y_i h.sample_i) (sized (psk_point m k).u far.0)) (sized_mul (sized y_q h.sample_q) (sized (psk_point m k).v far.1)) in
    rw abs_neg (omega (arith, (sized_mul (sized (pos (2 * g)) twice) sum).size))

pub phase_in_range : {m g : ℕ} {y_i y_q : ℤ} → PhaseInRange m g y_i y_q → InRange (phase m g y_i y_q) (phase_counter m)
unfolding phase
phase_in_range {m} {g} {y_i} {y_q} h =
    gray_in_range (omega arith) (λ k l. phase_cost_size m g y_i y_q k h l) (phase_countered m g y_i y_q h.some (omega arith)) (first_nearest m _)

pub weighted_size : {g a : ℕ} → g ≤ max_gain → a ≤ max_sample → 2 * g * a ≤ max_weighted
weighted_size h l = mul-le-mul (mul-le-mul_left 2 h) l

-- what is asked for on the way, and handed over: k is the nearest index, and a and b are the sizes of the sample's coordinates
module _ {m g : ℕ} {y_i y_q : ℤ} (h : PhaseInRange m g y_i y_q) where
  pub index_ready : {k : ℕ} → k ≡ (phase m g y_i y_q).nearest → (m ≤ max_phase_bits) × IndexInRange m k
  unfolding phase gray_part
  index_ready e = (h.few, record { few = omega (arith, h.few); below = nearest-below (phase_in_range h) e })

  module _ {a b : ℕ} (e : a ≡ nat_abs y_i) (f : b ≡ nat_abs y_q) where
    pub sizes_ready : SizesInRange m (2 * g * a) (2 * g * b)
    sizes_ready =
        record {
          some = h.some;
          few = h.few;
          small_p = weighted_size h.gain (rw e h.sample_i);
          small_q = weighted_size h.gain (rw f h.sample_q);
        }

    pub probes_ready : {k : ℕ} {ks : List ℕ} {cs : List ℤ} → k ≡ (phase m g y_i y_q).nearest → take (suc m) ks ≡ k ∷ first (phase_counter m k) m
        → cs ≡ costs_by_sizes m (2 * g * a) (2 * g * b) → PhaseProbes m g y_i y_q ks cs
    unfolding phase gray_part
    probes_ready n probed cost = record { in_range = h; probed = rw n at probed; cost = λ j l. rw (cost, e, f) (costs_by_sizes_lem h j l) }

module _ {m g : ℕ} {y_i y_q : ℤ} {ks : List ℕ} {cs : List ℤ} (h : PhaseProbes m g y_i y_q ks cs) where
  index_at : (n : ℕ) → n ≤ m → get_or ks n 0 ≡ get_or (phase m g y_i y_q).probed n 0
  index_at n l = sym (rw h.probed at (get_or-take (suc m) ks n 0 (omega arith)))

  cost_at_lem : (n : ℕ) → n ≤ m → get_or cs n (pos 0) ≡ (phase m g y_i y_q).cost (get_or ks n 0)
  cost_at_lem n l = rw (index_at n l) (h.cost n l)

  pub probes_found : NearestFound (phase m g y_i y_q) (phase_counter m) (get_or ks 0 0) (get_or cs 0 (pos 0))
  unfolding phase gray_part
  probes_found = record { in_range = phase_in_range h.in_range; index = index_at 0 (omega arith); cost = cost_at_lem 0 (omega arith) }

  pub probes_turn : (i : ℕ) {bit : ℕ} → i < m → bit ≡ label_bit m i (get_or ks 0 0)
      → Turn (phase m g y_i y_q) (phase_counter m) i (get_or ks 0 0) (get_or ks (i + 1) 0) bit (get_or cs 0 (pos 0)) (get_or cs (i + 1) (pos 0))
  unfolding phase gray_part
  probes_turn i l e =
      record {
        found = probes_found;
        in_label = l;
        other_is = rw (probes_found.index, add-one) (index_at (suc i) l ∙ get_or_first _ m i 0 l);
        bit_is = e;
        cost_is = cost_at_lem (i + 1) (omega arith);
      }
