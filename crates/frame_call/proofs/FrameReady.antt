-- A frame that passes its checks is ready to be read: its first symbols, however many, have the lengths and ranges that reading them asks for,
-- and there is room for its payload and its probes. Assumes nothing.
use mathlib.Core.Path.{◌≡◌, ap}
use Prim.Native.Nat.{ℕ, ◌+◌, ◌*◌, ◌≤◌, ◌<◌}
use native.Mathlib.Nat.{zero-add}
use native.Mathlib.Omega.{arith}
use lib.ListN.{length, get_or, take}
use lib.Seq.{get_or-take, length-take-le}
use Rattle.arithmetic.specs.Lists.{joined}
use Rattle.arithmetic.proofs.Lists.{joined_cong}
use Rattle.arithmetic.proofs.Tests.{tests-false}
use Rattle.constellation.specs.declared.Modulation.{Modulation}
use Rattle.constellation.specs.Schemes.{bits_per_symbol, probes_per_symbol}
use Rattle.demapper.specs.Soft.{Scale, max_weight}
use Rattle.demapper.specs.Reading.{Buffers}
use Rattle.frame.specs.Limits.{full_limits}
use Rattle.frame.specs.Frame.{Frame, modulation, symbol_count, parts_of_symbol, symbol_weight, frame_scale, symbol_softs}
use Rattle.frame.specs.FrameCall.{input_lengths_differ, outputs_too_short}
use Rattle.symbol_reading.specs.declared.Symbol.{Symbol}
use Rattle.demapper.specs.declared.Place.{Place}
use Rattle.symbol_reading.specs.PartsRead.{SymbolInRange, parts_for, parts_of, softs_for, softs_of, scale_at, Fit, PartsRead}
use Rattle.frame_symbols.specs.SymbolsRead.{symbol_at}
use Rattle.frame_symbols.proofs.SymbolsReady.{symbol_in}
use Rattle.frame.proofs.Order.{FrameAccepted, weights_counted, weights_below, weights_few}
use Rattle.frame.proofs.Parts.{probe_count}

-- ---- a frame

-- the bits and the probes of a symbol, and symbol n
abbrev pub bits : Frame → ℕ
bits f = bits_per_symbol (modulation f)

abbrev pub probes : Frame → ℕ
probes f = probes_per_symbol (modulation f)

abbrev pub symbol_of : Frame → ℕ → Symbol
symbol_of f n = symbol_at f.gains f.y_i f.y_q n

-- where a frame's answer begins
abbrev pub origin : Place
origin = record { bit = 0; probe = 0 }

-- the first n symbols are read
abbrev pub FirstRead : Frame → ℕ → Buffers → Buffers → Place → Type 0
FirstRead f n lent now next = PartsRead (modulation f) (joined (parts_of_symbol f) n) (joined (symbol_softs f) n) (n * bits f) origin lent now next

-- the first n symbols, by the first n gains
module _ (f : Frame) {n : ℕ} (few : n ≤ length f.gains) where
  first_symbol : (j : ℕ) → j < n → symbol_at (take n f.gains) f.y_i f.y_q j ≡ symbol_of f j
  first_symbol j h = rw (get_or-take n f.gains j 0 h)

  -- what reading them ensures, of the frame's own modulation and scale
  pub as_first : {lent now : Buffers} {q : Modulation} {scale : Scale} {next : Place} → q ≡ modulation f → scale ≡ frame_scale f f.header.weight
      → (let symbol = symbol_at (take n f.gains) f.y_i f.y_q in
      PartsRead q (parts_of q symbol (length (take n f.gains))) (softs_of q (scale_at scale f.weights) symbol (length (take n f.gains)))
      (length (take n f.gains) * bits_per_symbol q) origin lent now next)
      → FirstRead f n lent now next
  unfolding parts_of_symbol symbol_softs symbol_weight
  as_first {q} {scale} is rounded r =
      let parts = joined_cong _ (λ j. parts_for q (symbol_of f j)) n (λ j h. ap (parts_for q) (first_symbol j h)) in
      let softs = joined_cong _ (λ j. softs_for q (scale_at scale f.weights j) (symbol_of f j)) n (λ j h. ap (softs_for q (scale_at scale f.weights j)) (first_symbol j h)) in
      rw (length-take-le n f.gains few, parts, softs, rounded, is) at r

-- ---- a frame that passes its checks

module _ {f : Frame} {lent : Buffers} (a : FrameAccepted full_limits f lent) where
  pub counted : length f.gains ≡ symbol_count f
  unfolding input_lengths_differ
  counted = (simp tests-false at a.inputs_same).0.0.0

  pub sampled : length f.y_i ≡ symbol_count f
  unfolding input_lengths_differ
  sampled = (simp tests-false at a.inputs_same).0.1

  -- each weight is small enough to be carried
  pub weight_few : (n : ℕ) → get_or f.weights n 0 ≤ max_weight
  weight_few = weights_few f (weights_below f (weights_counted a)) a.symbol_weight_in

  pub symbol_ready : (n : ℕ) → n < symbol_count f → SymbolInRange (modulation f) (symbol_of f n)
  symbol_ready n h = symbol_in (modulation f) _ a.modulation_in.bits_ok (a.gain_in n h) (a.sample_in n h)

  pub room : Fit f.header.payload (symbol_count f * probes f) lent
  unfolding outputs_too_short
  room =
      let (((hard, soft), indices), costs) = rw probe_count at (simp tests-false at a.outputs_long) in
      record { hard = hard; soft = soft; indices = indices; costs = costs }

  -- what reading the first n symbols asks for
  pub symbols_ready : {n : ℕ} {q : Modulation} → q ≡ modulation f → n ≤ symbol_count f → Fit (n * bits f) (n * probes f) lent
      → (length (take n f.gains) ≤ length f.y_i)
      × ((j : ℕ) → get_or f.weights j 0 ≤ max_weight)
      × ((j : ℕ) → j < length (take n f.gains) → SymbolInRange q (symbol_at (take n f.gains) f.y_i f.y_q j))
      × Fit (0 + length (take n f.gains) * bits_per_symbol q) (0 + length (take n f.gains) * probes_per_symbol q) lent
  symbols_ready {n} is h fits =
      let few : n ≤ length f.gains = omega (arith, counted) in
      rw (is, length-take-le n f.gains few, zero-add, zero-add)
      (omega (arith, sampled), weight_few, (λ j l. rw (first_symbol f few j l) (symbol_ready j (omega arith))), fits)
