-- `read_symbol` meets its contract: each arm is given which modulation it has, reads its parts, and moves the place behind them. Assumes nothing.
use mathlib.Core.Path.{◌≡◌, refl, ap, ◌∙◌}
use Prim.Native.Nat.{ℕ, ◌+◌, ◌*◌, ◌≤◌}
use native.Mathlib.Omega.{arith}
use lib.IntN.{ℤ, nat_abs}
use lib.ListN.{length}
use mir.Syntax.{w32, w64}
use Rattle.arithmetic.proofs.Signed.{held}
use Rattle.constellation.specs.declared.Modulation.{Modulation}
use Rattle.constellation.specs.declared.Modulation.TheVariants.{Pam, Qam, Psk, Cellular}
use Rattle.constellation.specs.Ranges.{AxisInRange, PhaseInRange, max_cellular_bits, max_sample}
use Rattle.constellation.specs.Parts.{complemented, axis}
use Rattle.constellation.specs.Schemes.{symbol_parts, bits_per_symbol, probes_per_symbol, sent_place}
use Rattle.constellation.proofs.Shown.{axis_bits, axis_probes, phase_bits, phase_probes, complemented_bits, complemented-probed}
use Rattle.demapper.specs.Reading.{Buffers}
use Rattle.demapper.specs.declared.Place.{Place}
use Rattle.symbol_reading.specs.declared.Symbol.{Symbol}
use Rattle.symbol_reading.specs.PartsRead.{Fit, SymbolReady}
use Rattle.part_reading.proofs.PartReading.{part_keeps_lengths}
use Rattle.symbol_reading.proofs.PartsReading.{one_part, two_parts, two_by_turns, sample_widened}
use Rattle.symbol_reading.proofs.read_symbol.Goals as goal

-- ---- what each arm starts from: the ranges of the symbol and the room for it, of the modulation that it has

module _ {q : Modulation} (x : Symbol) (p : Place) {lent : Buffers} where
  pam_ready : {m : ℕ} → q ≡ Pam m → SymbolReady q x p lent → AxisInRange m x.gain x.yi × Fit (p.bit + m) (p.probe + (m + 1)) lent
  unfolding bits_per_symbol probes_per_symbol
  pam_ready e h = rw e at h

  qam_ready : {m k : ℕ} → q ≡ Qam m k → SymbolReady q x p lent
      → (AxisInRange m x.gain x.yi × AxisInRange k x.gain x.yq) × Fit (p.bit + (m + k)) (p.probe + (m + k + 2)) lent
  unfolding bits_per_symbol probes_per_symbol
  qam_ready e h = rw e at h

  psk_ready : {m : ℕ} → q ≡ Psk m → SymbolReady q x p lent → PhaseInRange m x.gain x.yi x.yq × Fit (p.bit + m) (p.probe + (m + 1)) lent
  unfolding bits_per_symbol probes_per_symbol
  psk_ready e h = rw e at h

  cellular_ready : {m : ℕ} → q ≡ Cellular m → SymbolReady q x p lent
      → (AxisInRange m x.gain x.yi × AxisInRange m x.gain x.yq × (m ≤ max_cellular_bits)) × Fit (p.bit + 2 * m) (p.probe + (2 * m + 2)) lent
  unfolding bits_per_symbol probes_per_symbol
  cellular_ready e h = rw e at h

-- ---- a sample is widened without loss, and an axis with turned labels probes as many

widened : {z : ℤ} (y : ℤ) → z ≡ held w32 y → nat_abs y ≤ max_sample → held w64 z ≡ y
widened y e h = rw e (sample_widened y h).same

turned_probes : (m g : ℕ) (y : ℤ) → length (complemented (axis m g y)).probed ≡ m + 1
turned_probes m g y = ap length (complemented-probed (axis m g y)) ∙ axis_probes m g y

turned_bits : (m g : ℕ) (y : ℤ) → (complemented (axis m g y)).bits ≡ m
turned_bits m g y = complemented_bits (axis m g y) ∙ axis_bits m g y

-- ---- the code

pub read_axis-requires : goal.read_axis-requires
read_axis-requires c =
    let (axis, fits) = pam_ready c.args.symbol c.args.place c.in-Pam.is c.requires in
    rw (c.from-m.ensures, c.from-gain.ensures, widened c.args.symbol.yi c.from-yi.ensures axis.sample) (axis, axis.few, omega (arith, fits))

pub read_axis-requires-in-Qam : goal.read_axis-requires-in-Qam
read_axis-requires-in-Qam c =
    let (axes, fits) = qam_ready c.args.symbol c.args.place c.in-Qam.is c.requires in
    simp (c.from-mi.ensures, c.from-gain.ensures, widened c.args.symbol.yi c.from-yi.ensures axes.0.sample, widened c.args.symbol.yq c.from-yq.ensures axes.1.sample)
    (record { some = axes.0.some; few = axes.0.few; gain = axes.0.gain; sample = omega (arith, axes) }, axes.0.few, omega (arith, fits))

pub read_axis-requires-in-Qam-2 : goal.read_axis-requires-in-Qam-2
read_axis-requires-in-Qam-2 c =
    let (axes, fits) = qam_ready c.args.symbol c.args.place c.in-Qam.is c.requires in
    let read = rw c.from-mi.ensures at c.read_axis-in-Qam.ensures.read in
    let long = part_keeps_lengths (axis_probes _ _ _) (omega (arith, fits)) (omega (arith, fits)) read in
    rw (c.behind-second.ensures, c.from-mi.ensures, c.from-mq.ensures, c.from-gain.ensures, widened c.args.symbol.yq c.from-yq.ensures axes.1.sample)
    (axes.1, axes.1.few, omega (arith, fits, long))

pub read_phase-requires : goal.read_phase-requires
read_phase-requires c =
    let (phase, fits) = psk_ready c.args.symbol c.args.place c.in-Psk.is c.requires in
    rw (c.from-m-in-Psk.ensures, c.from-gain.ensures, widened c.args.symbol.yi c.from-yi.ensures phase.sample_i, widened c.args.symbol.yq c.from-yq-in-Psk.ensures phase.sample_q)
    (phase, omega (arith, fits))

pub read_axis-requires-in-Cellular : goal.read_axis-requires-in-Cellular
read_axis-requires-in-Cellular c =
    let (axes, fits) = cellular_ready c.args.symbol c.args.place c.in-Cellular.is c.requires in
    rw (c.from-m-in-Cellular.ensures, c.from-gain.ensures, widened c.args.symbol.yi c.from-yi.ensures axes.0.sample) (axes.0, axes.2, omega (arith, fits))

pub read_axis-requires-in-Cellular-2 : goal.read_axis-requires-in-Cellular-2
read_axis-requires-in-Cellular-2 c =
    let (axes, fits) = cellular_ready c.args.symbol c.args.place c.in-Cellular.is c.requires in
    let read = rw c.from-m-in-Cellular.ensures at c.read_axis-in-Cellular.ensures.read in
    let long = part_keeps_lengths (turned_probes _ _ _) (omega (arith, fits)) (omega (arith, fits)) read in
    rw (c.behind-second-in-Cellular.ensures, c.from-m-in-Cellular.ensures, c.from-gain.ensures, widened c.args.symbol.yq c.from-yq-in-Cellular.ensures axes.1.sample)
    (axes.1, axes.2, omega (arith, fits, axes.1.some, long))

pub returns-in-Pam-clause-read : goal.returns-in-Pam-clause-read
unfolding symbol_parts bits_per_symbol sent_place
returns-in-Pam-clause-read c =
    let (axis, fits) = pam_ready c.args.symbol c.args.place c.in-Pam.is c.requires in
    let read = rw (c.from-m.ensures, c.from-gain.ensures, widened c.args.symbol.yi c.from-yi.ensures axis.sample) at c.read_axis.ensures.read in
    rw (c.in-Pam.is, c.behind.ensures, c.from-m.ensures) (one_part (Pam _) (λ j. refl) (axis_bits _ _ _) (axis_probes _ _ _) fits read refl refl)

pub returns-in-Qam-clause-read : goal.returns-in-Qam-clause-read
unfolding symbol_parts bits_per_symbol sent_place
returns-in-Qam-clause-read c =
    let (axes, fits) = qam_ready c.args.symbol c.args.place c.in-Qam.is c.requires in
    let yi = widened c.args.symbol.yi c.from-yi.ensures axes.0.sample in
    let yq = widened c.args.symbol.yq c.from-yq.ensures axes.1.sample in
    let read_i = simp (c.from-mi.ensures, c.from-gain.ensures, yi, yq) at c.read_axis-in-Qam.ensures.read in
    let read_q =
    rw (c.behind-second.ensures, c.from-mi.ensures, c.from-mq.ensures, c.from-gain.ensures, yq) at c.read_axis-in-Qam-2.ensures.read in
    rw (c.in-Qam.is, c.behind-in-Qam.ensures, c.behind-second.ensures, c.from-mi.ensures, c.from-mq.ensures)
    (two_parts (Qam _ _) (λ j. refl) (axis_bits _ _ _) (axis_bits _ _ _) (axis_probes _ _ _) (axis_probes _ _ _) (omega (arith, fits)) read_i read_q
    (omega arith) (omega arith))

pub returns-in-Psk-clause-read : goal.returns-in-Psk-clause-read
unfolding symbol_parts bits_per_symbol sent_place
returns-in-Psk-clause-read c =
    let (phase, fits) = psk_ready c.args.symbol c.args.place c.in-Psk.is c.requires in
    let read =
    rw (c.from-m-in-Psk.ensures, c.from-gain.ensures, widened c.args.symbol.yi c.from-yi.ensures phase.sample_i, widened c.args.symbol.yq c.from-yq-in-Psk.ensures phase.sample_q)
    at c.read_phase.ensures.read in
    rw (c.in-Psk.is, c.behind-in-Psk.ensures, c.from-m-in-Psk.ensures)
    (one_part (Psk _) (λ j. refl) (phase_bits _ _ _ _) (phase_probes _ _ _ _) fits read refl refl)

pub returns-in-Cellular-clause-read : goal.returns-in-Cellular-clause-read
unfolding symbol_parts bits_per_symbol
returns-in-Cellular-clause-read c =
    let (axes, fits) = cellular_ready c.args.symbol c.args.place c.in-Cellular.is c.requires in
    let read_i = rw (c.from-m-in-Cellular.ensures, c.from-gain.ensures, widened c.args.symbol.yi c.from-yi.ensures axes.0.sample) at c.read_axis-in-Cellular.ensures.read in
    let read_q =
    rw (c.behind-second-in-Cellular.ensures, c.from-m-in-Cellular.ensures, c.from-gain.ensures, widened c.args.symbol.yq c.from-yq-in-Cellular.ensures axes.1.sample)
    at c.read_axis-in-Cellular-2.ensures.read in
    rw (c.in-Cellular.is, c.behind-in-Cellular.ensures, c.from-m-in-Cellular.ensures)
    (two_by_turns (turned_bits _ _ _) (turned_bits _ _ _) (turned_probes _ _ _) (turned_probes _ _ _) (omega (arith, fits)) read_i read_q refl (omega arith))
