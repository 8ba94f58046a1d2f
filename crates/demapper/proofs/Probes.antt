-- The probes of a part: how many there are, that they are the probed indices with their costs, and that the probe for β of a bit costs the
-- least of all points with that bit. So N is the difference of the bit's two probes. Assumes nothing.
use mathlib.Core.Path.{◌≡◌, refl}
use mathlib.Core.List.{List, [], ◌∷◌, map}
use Prim.Native.Nat.{ℕ, zero, suc, ◌<◌}
use native.Mathlib.Nat.{le_of_suc-le-suc}
use native.Mathlib.Omega.{arith}
use lib.IntN.{pos}
use lib.ListN.{length, get_or, length-map}
use Rattle.arithmetic.specs.Least.{Least}
use Rattle.arithmetic.proofs.Least.{least_unique}
use Rattle.constellation.specs.Parts.{Part}
use Rattle.demapper.specs.Probes.{probe_at, part_probes, probe_indices, probe_costs}
use Rattle.constellation.specs.Shown.{IndexWith, probed_at, Shown}
use Rattle.demapper.specs.Soft.{least_with}
use Rattle.demapper.proofs.Difference.{least_by_bit}

pub length-part_probes : (p : Part) → length (part_probes p) ≡ length p.probed
unfolding part_probes
length-part_probes p = length-map p.probed (probe_at p)

pub indices_of_probes : (p : Part) → probe_indices (part_probes p) ≡ p.probed
unfolding part_probes probe_at
indices_of_probes p = go p.probed
  where
    go : (ks : List ℕ) → probe_indices (map (probe_at p) ks) ≡ ks
    go [] = refl
    go (k ∷ ks) = rw (go ks)

pub cost_of_probe : (p : Part) (n : ℕ) → n < length p.probed → get_or (probe_costs (part_probes p)) n (pos 0) ≡ p.cost (probed_at p n)
unfolding part_probes probe_at
cost_of_probe p n h = go p.probed n h
  where
    go : (ks : List ℕ) (n : ℕ) → n < length ks → get_or (probe_costs (map (probe_at p) ks)) n (pos 0) ≡ p.cost (get_or ks n 0)
    go [] n h = absurd (omega arith)
    go (k ∷ ks) zero h = refl
    go (k ∷ ks) (suc n) h = go ks n (le_of_suc-le-suc h)

-- the positions of a part's probes whose label has bit i = β
pub record PartProbeWith (p : Part) (i β n : ℕ) : Type 0 where
  pub below : n < length p.probed
  pub bit : p.bit i (probed_at p n) ≡ β

-- the probe for β of bit i: its cost is the least over all points with that bit
pub probe_for : {p : Part} → Shown p → (i β : ℕ) → i < p.bits → β < 2 → Least (PartProbeWith p i β) (λ n. p.cost (probed_at p n)) (least_with p i β)
probe_for {p} s i β h l =
    let for = s.probes i β h l in
    let least : Least (IndexWith p i β) p.cost (p.cost (probed_at p for.position)) = record { best = _; member = for.has; attained = refl; bound = for.least } in
    let e : least_with p i β ≡ p.cost (probed_at p for.position) = least_unique (least_by_bit s i β h l) least in
    rw e
    (record {
      best = for.position;
      member = record { below = for.in_list; bit = for.has.bit };
      attained = refl;
      bound = λ n m. for.least (probed_at p n) (record { below = s.probed n m.below; bit = m.bit });
    })
