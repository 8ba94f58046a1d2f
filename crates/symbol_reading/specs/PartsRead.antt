-- What the functions that read a symbol need and do. Nobody has to believe this file to read the frame call's promise (crate frame, specs/Promise).
-- Assumes nothing.
use Rattle.std.specs.Prelude.{◌≡◌, ℕ, ◌+◌, ◌≤◌, ℤ, pos, length, get_or, take}
use mathlib.Core.List.{List, flat_map}
use Rattle.arithmetic.specs.Lists.{joined, over}
use Rattle.constellation.specs.declared.Modulation.{Modulation}
use Rattle.constellation.specs.declared.Modulation.TheVariants.{Pam, Qam, Psk, Cellular}
use Rattle.constellation.specs.Ranges.{AxisInRange, PhaseInRange, max_cellular_bits}
use Rattle.constellation.specs.Parts.{Part, part_hard}
use Rattle.constellation.specs.Schemes.{symbol_parts, bits_per_symbol, probes_per_symbol}
use Rattle.demapper.specs.Probes.{part_probes, probe_indices, probe_costs}
use Rattle.demapper.specs.Soft.{Scale}
use Rattle.demapper.specs.Reading.{Buffers, part_soft}
use Rattle.demapper.specs.Rounding.{scale_of}
use Rattle.frame.specs.Sent.{as_sent}
use Rattle.symbol_reading.specs.declared.Symbol.{Symbol}
use Rattle.demapper.specs.declared.Place.{Place}
use Rattle.demapper.specs.declared.Rounding.{Rounding}

-- the parts of a symbol, and those of the first n symbols
abbrev pub parts_for : Modulation → Symbol → List Part
parts_for q s = symbol_parts q s.gain s.yi s.yq

abbrev pub parts_of : Modulation → (ℕ → Symbol) → ℕ → List Part
parts_of q symbol n = joined (λ j. parts_for q (symbol j)) n

-- the soft values of a symbol, label by label, by a scale, and those of the first n symbols, each by its own
abbrev pub softs_for : Modulation → Scale → Symbol → List ℤ
softs_for q scale s = flat_map (part_soft scale) (parts_for q s)

abbrev pub softs_of : Modulation → (ℕ → Scale) → (ℕ → Symbol) → ℕ → List ℤ
softs_of q scale symbol n = joined (λ j. softs_for q (scale j) (symbol j)) n

-- a scale with the weight of symbol n, where there are weights
abbrev pub scale_at : Scale → List ℕ → ℕ → Scale
scale_at scale weights n = record { weight = get_or weights n scale.weight; shift = scale.shift; limit = scale.limit }

-- the bits, gain and sample of a symbol are in their ranges: a fact of two values, of which the modulation is one for all symbols of a frame, so that a type
-- which held it would repeat the modulation in each symbol
abbrev pub SymbolInRange : Modulation → Symbol → Type 0
SymbolInRange (Pam m) s = AxisInRange m s.gain s.yi
SymbolInRange (Qam m_i m_q) s = AxisInRange m_i s.gain s.yi × AxisInRange m_q s.gain s.yq
SymbolInRange (Psk m) s = PhaseInRange m s.gain s.yi s.yq
SymbolInRange (Cellular m) s = AxisInRange m s.gain s.yi × AxisInRange m s.gain s.yq × (m ≤ max_cellular_bits)

-- room for so many bits and so many probes: a fact of two positions and four buffers that differ from call to call, so that a type which held it would carry
-- the others once more in each
pub record Fit (bits probes : ℕ) (lent : Buffers) : Type 0 where
  pub hard : bits ≤ length lent.hard
  pub soft : bits ≤ length lent.soft
  pub indices : probes ≤ length lent.indices
  pub costs : probes ≤ length lent.costs

-- the first of the parts' hard bits and of soft values, both label by label, so many of them, are written in the order sent from the place on, and all the parts'
-- probes; and `next` is the place behind them
pub record PartsRead (q : Modulation) (parts : List Part) (softs : List ℤ) (bits : ℕ) (place : Place) (lent out : Buffers) (next : Place) : Type 0 where
  pub hard : out.hard ≡ over lent.hard place.bit (take bits (as_sent q 0 (flat_map part_hard parts)))
  pub soft : out.soft ≡ over lent.soft place.bit (take bits (as_sent q (pos 0) softs))
  pub indices : out.indices ≡ over lent.indices place.probe (probe_indices (flat_map part_probes parts))
  pub costs : out.costs ≡ over lent.costs place.probe (probe_costs (flat_map part_probes parts))
  pub bits_counted : next.bit ≡ place.bit + bits
  pub probes_counted : next.probe ≡ place.probe + length (flat_map part_probes parts)

-- a symbol can be read: it is in range, and there is room for it from the place on
abbrev pub SymbolReady : Modulation → Symbol → Place → Buffers → Type 0
SymbolReady q s place lent = SymbolInRange q s × Fit (place.bit + bits_per_symbol q) (place.probe + probes_per_symbol q) lent

-- and it is read there with all its bits
abbrev pub SymbolRead : Modulation → Rounding → Symbol → Place → (lent out : Buffers) → (next : Place) → Type 0
SymbolRead q r s place lent out next = PartsRead q (parts_for q s) (softs_for q (scale_of r) s) (bits_per_symbol q) place lent out next
