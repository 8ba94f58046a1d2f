-- What reading symbols asks for follows from the ranges that a frame's checks are about, for any modulation. Assumes nothing.
use Prim.Native.Nat.{◌≤◌}
use native.Mathlib.Omega.{arith}
use lib.IntN.{nat_abs}
use Rattle.constellation.specs.declared.Modulation.{Modulation}
use Rattle.constellation.specs.declared.Modulation.TheVariants.{Pam, Qam, Psk, Cellular}
use Rattle.constellation.specs.Ranges.{max_axis_bits, max_symbol_bits, max_symbol_probes, max_gain, max_sample}
use Rattle.constellation.specs.Schemes.{ModulationInRange, bits_per_symbol, probes_per_symbol}
use Rattle.symbol_reading.specs.declared.Symbol.{Symbol}
use Rattle.demapper.specs.Reading.{Buffers}
use Rattle.symbol_reading.specs.PartsRead.{SymbolInRange, Fit, SymbolReady}

pub symbol_in : (q : Modulation) (x : Symbol) → ModulationInRange q → x.gain ≤ max_gain → (nat_abs x.yi ≤ max_sample) × (nat_abs x.yq ≤ max_sample)
    → SymbolInRange q x
symbol_in (Pam m) x ok h s = record { some = ok.0; few = ok.1; gain = h; sample = s.0 }
symbol_in (Qam m_i m_q) x ok h s =
    (record { some = ok.0; few = ok.1; gain = h; sample = s.0 }, record { some = ok.2; few = ok.3; gain = h; sample = s.1 })
symbol_in (Psk m) x ok h s = record { some = ok.0; few = ok.1; gain = h; sample_i = s.0; sample_q = s.1 }
symbol_in (Cellular m) x ok h s =
    let few : m ≤ max_axis_bits = omega (arith, ok.1) in
    (record { some = ok.0; few = few; gain = h; sample = s.0 }, record { some = ok.0; few = few; gain = h; sample = s.1 }, ok.1)

-- and a symbol has no more bits and probes than the largest
pub symbol_few : (q : Modulation) (x : Symbol) → SymbolInRange q x → (bits_per_symbol q ≤ max_symbol_bits) × (probes_per_symbol q ≤ max_symbol_probes)
unfolding bits_per_symbol probes_per_symbol
symbol_few (Pam m) x r = omega (arith, r.few)
symbol_few (Qam m_i m_q) x r = omega (arith, r.0.few, r.1.few)
symbol_few (Psk m) x r = omega (arith, r.few)
symbol_few (Cellular m) x r = omega (arith, r.0.few)

-- so buffers with room for any symbol have room for it
pub own_room : (q : Modulation) (x : Symbol) {own : Buffers} → SymbolInRange q x → Fit max_symbol_bits max_symbol_probes own
    → SymbolReady q x (record { bit = 0; probe = 0 }) own
own_room q x r room = (r, omega (arith, symbol_few q x r, room))
