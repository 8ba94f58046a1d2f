-- Probes (REQUIREMENTS, "Probes"): an index with its cost, as an entry of a list. Assumes nothing.
use Rattle.std.specs.Prelude.{List, map, ℕ, ℤ}
use Rattle.constellation.specs.Parts.{Part}

pub record Probe : Type 0 where
  pub index : ℕ
  pub cost : ℤ

unfoldable pub probe_at : Part → ℕ → Probe
probe_at p k = record { index = k; cost = p.cost k }

-- the probes of a part
unfoldable pub part_probes : Part → List Probe
part_probes p = map (probe_at p) p.probed

-- the two columns of a list of probes
abbrev pub probe_indices : List Probe → List ℕ
probe_indices ps = map (λ (q : Probe). q.index) ps

abbrev pub probe_costs : List Probe → List ℤ
probe_costs ps = map (λ (q : Probe). q.cost) ps
