-- `read_frame` meets its contract: a frame that passes its checks has the lengths, ranges and room that reading its symbols
-- asks for; the symbols without padding are all of them or all but the last, which is read behind them. Assumes nothing.
use mathlib.Core.Path.{◌≡◌, refl, sym, ap, ◌∙◌}
use mathlib.Core.List.{flat_map}
use Prim.Native.Nat.{ℕ, suc, ◌+◌, ◌*◌, ◌-◌, ◌/◌, ◌≤◌, ◌<◌}
use native.Mathlib.Nat.{zero-add, div-mul-le_self, div-add-mod', mod-lt, mul-le-mul_right}
use native.Mathlib.Omega.{arith}
use lib.ListN.{length, take}
use lib.Seq.{length-take-le}
use Rattle.arithmetic.specs.Lists.{joined}
use Rattle.constellation.specs.declared.Modulation.{Modulation}
use Rattle.constellation.specs.Schemes.{bits_per_symbol, probes_per_symbol, fraction_bits}
use Rattle.demapper.specs.Soft.{Scale}
use Rattle.demapper.specs.Lent.{held_in}
use Rattle.demapper.specs.Probes.{part_probes}
use Rattle.constellation.specs.Parts.{part_hard}
use Rattle.demapper.specs.Reading.{Buffers}
use Rattle.frame.specs.Verdicts.{Passed}
use Rattle.frame.specs.Limits.{full_limits}
use Rattle.frame.specs.FrameCall.{frame_verdict}
use Rattle.frame.specs.Frame.{Frame, frame_of, modulation, symbol_count, parts_of_symbol, frame_parts, symbol_weight, frame_scale, symbol_softs}
use Rattle.demapper.specs.declared.Place.{Place}
use Rattle.header_checks.specs.declared.Setup.{Setup}
use Rattle.header_checks.specs.Called.{header_setup}
use Rattle.symbol_reading.specs.declared.Symbol.{Symbol}
use Rattle.symbol_reading.specs.PartsRead.{SymbolInRange, parts_for, parts_of, softs_for, softs_of, scale_at, Fit, PartsRead}
use Rattle.frame_symbols.specs.SymbolsRead.{symbol_at}
use Rattle.constellation.proofs.Schemes.{bits_above_zero}
use Rattle.frame.proofs.Order.{FrameAccepted, frame_accepted, header_weight_few}
use Rattle.frame.proofs.Parts.{symbols_bits, symbols_softs, symbols_probes, full_symbols, symbols_padded, symbols_unpadded}
use Rattle.frame_call.proofs.FrameReady.{bits, probes, symbol_of, origin, FirstRead, as_first, counted, sampled, weight_few, symbol_ready, room, symbols_ready}
use Rattle.part_reading.proofs.PartReading.{SameLengths}
use Rattle.symbol_reading.proofs.PartsReading.{length-part_hard, parts_join, parts_keep_lengths}
use Rattle.frame_call.proofs.read_frame.Goals as goal

-- the symbols without padding, and the payload's bits behind them
abbrev full : Frame → ℕ
full f = f.header.payload / bits f

abbrev left : Frame → ℕ
left f = f.header.payload - full f * bits f

abbrev FrameRead : Frame → Buffers → Buffers → Place → Type 0
FrameRead f lent out end = PartsRead (modulation f) (frame_parts f) (joined (symbol_softs f) (symbol_count f)) f.header.payload origin lent out end

module _ {b p b' p' : ℕ} {lent : Buffers} (r : Fit b p lent) (h : b' ≤ b) (k : p' ≤ p) where
  fits_less : Fit b' p' lent
  fits_less = record { hard = omega arith; soft = omega arith; indices = omega arith; costs = omega arith }

  fits_same : {now : Buffers} → SameLengths lent now → Fit b' p' now
  fits_same e = record { hard = omega arith; soft = omega arith; indices = omega arith; costs = omega arith }

module _ {f : Frame} {lent : Buffers} (a : FrameAccepted full_limits f lent) where
  some : 0 < bits f
  some = bits_above_zero (modulation f) a.modulation_in.bits_ok

  full_there : full f ≤ symbol_count f
  unfolding symbol_count
  full_there = full_symbols (bits f) f.header.payload some

  first_there : full f ≤ length f.gains
  first_there = omega (arith, full_there, counted a)

  full_bits : full f * bits f ≤ f.header.payload
  full_bits = div-mul-le_self f.header.payload (bits f)

  left_few : left f ≤ bits f
  left_few = omega (arith, div-add-mod' f.header.payload (bits f), mod-lt f.header.payload some)

  -- where no symbol has padding
  all_read : {now : Buffers} {next : Place} → symbol_count f ≤ full f → FirstRead f (full f) lent now next → FrameRead f lent now next
  unfolding symbol_count frame_parts
  all_read h r = let (all, whole) = symbols_unpadded (bits f) f.header.payload some h in rw all (rw whole at r)

  -- where one has
  module _ (h : full f < symbol_count f) where
    last_number : symbol_count f ≡ suc (full f)
    unfolding symbol_count
    last_number = symbols_padded (bits f) f.header.payload some h

    -- the last symbol x, read behind the first ones
    module _ {now : Buffers} {next : Place} (r : FirstRead f (full f) lent now next) {q : Modulation} {scale : Scale} {n : ℕ} {x : Symbol}
        (is : q ≡ modulation f) (rounded : scale ≡ frame_scale f (symbol_weight f (full f))) (last : n ≡ full f) (x-is : x ≡ symbol_of f n) where
      behind_full : next.bit ≡ full f * bits f
      behind_full = rw zero-add at r.bits_counted

      first_keeps_lengths : SameLengths lent now
      first_keeps_lengths =
          let few : 0 + full f * bits f ≤ f.header.payload = omega (arith, full_bits) in
          let probes_few : 0 + full f * probes f ≤ symbol_count f * probes f = omega (arith, mul-le-mul_right (probes f) full_there) in
          let fits : Fit (0 + full f * bits f) (0 + length (flat_map part_probes (joined (parts_of_symbol f) (full f)))) lent =
          rw symbols_probes (fits_less (room a) few probes_few) in
          parts_keep_lengths (modulation f) fits r

      last_ready : SymbolInRange q x
          × (f.header.payload - next.bit ≤ bits_per_symbol q)
          × Fit (next.bit + (f.header.payload - next.bit)) (next.probe + probes_per_symbol q) now
      last_ready =
          let s : next.probe ≡ 0 + full f * probes f = rw symbols_probes at r.probes_counted in
          let fits = fits_same {b' = next.bit + (f.header.payload - next.bit)} {p' = next.probe + probes f} (rw last_number at (room a)) (omega (arith, full_bits, behind_full)) (omega arith) first_keeps_lengths in
          rw (x-is, last, is) (symbol_ready a _ h, rw behind_full left_few, fits)

      last_read : {out : Buffers} {end : Place} → PartsRead q (parts_for q x) (softs_for q scale x) (f.header.payload - next.bit) next now out end → FrameRead f lent out end
      unfolding frame_parts joined parts_of_symbol symbol_softs
      last_read {out} {end} s =
          let sum : full f * bits f + (f.header.payload - next.bit) ≡ f.header.payload = omega (arith, behind_full, full_bits) in
          let fits : Fit (0 + full f * bits f + (f.header.payload - next.bit)) (0 + length (flat_map part_probes (joined (parts_of_symbol f) (suc (full f))))) lent =
          rw symbols_probes (fits_less (rw last_number at (room a)) (omega (arith, sum)) (omega arith)) in
          let read : PartsRead (modulation f) (parts_of_symbol f (full f)) (symbol_softs f (full f)) (f.header.payload - next.bit) next now out end = rw (rounded, is, last) at (rw x-is at s) in
          rw last_number (rw sum at (parts_join (modulation f) (full f) r (symbols_bits part_hard length-part_hard f (full f)) (symbols_softs f (full f)) read fits))

-- ---- the code

-- what is known once the modulation, its scale, its number of bits and the payload are: those of a frame that passes its checks
record Known (f : Frame) (lent : Buffers) (q : Modulation) (scale : Scale) (b n payload : ℕ) : Type 0 where
  accepted : FrameAccepted full_limits f lent
  is : q ≡ modulation f
  rounded : scale ≡ frame_scale f f.header.weight
  bits_is : b ≡ bits f
  symbols_are : n ≡ symbol_count f
  payload_is : payload ≡ f.header.payload

known : {f : Frame} {lent : Buffers} {s : Setup} {q : Modulation} {scale : Scale} {b payload : ℕ}
    → (frame_verdict full_limits f lent ≡ Passed) × (s ≡ header_setup f.header) → q ≡ s.modulation
    → scale ≡ record { weight = f.header.weight; shift = f.header.shift + fraction_bits s.modulation; limit = f.header.limit }
    → b ≡ bits_per_symbol s.modulation → payload ≡ f.header.payload → Known f lent q scale b s.symbols payload
unfolding symbol_count
known {f} {lent} (v, is) same r e p =
    let own = ap (λ (s : Setup). s.modulation) is in
    record {
      accepted = frame_accepted {limits = full_limits} {f = f} {lent = lent} v;
      is = same ∙ own;
      rounded = rw own at r;
      bits_is = rw (← own) e;
      symbols_are = ap (λ (s : Setup). s.symbols) is;
      payload_is = p;
    }

module _ {f : Frame} {lent : Buffers} {q : Modulation} {scale : Scale} {b n payload : ℕ} (k : Known f lent q scale b n payload) where
  full_is : payload / b ≡ full f
  full_is = rw (k.payload_is, k.bits_is) refl

  first_read : {now : Buffers} {next : Place}
      → (let first = take (payload / b) f.gains in
      PartsRead q (parts_of q (symbol_at first f.y_i f.y_q) (length first)) (softs_of q (scale_at scale f.weights) (symbol_at first f.y_i f.y_q) (length first))
      (length first * bits_per_symbol q) origin lent now next)
      → FirstRead f (full f) lent now next
  first_read r = as_first f (first_there k.accepted) k.is k.rounded (rw full_is at r)

  -- by the last symbol's own weight
  own_scale : {own : Scale} → own ≡ scale_at scale f.weights (payload / b) → own ≡ frame_scale f (symbol_weight f (full f))
  unfolding symbol_weight
  own_scale e = e ∙ rw (k.rounded, full_is) refl

  padded : payload / b < n → full f < symbol_count f
  padded h = rw (full_is, k.symbols_are) at h

pub new-demapper-requires : goal.new-demapper-requires
new-demapper-requires c =
    let a = c.args in
    let f = frame_of a.header a.signal in
    let accepted = frame_accepted {limits = full_limits} {f = f} {lent = held_in a.out.now} c.requires.0 in
    (header_weight_few accepted.weight_in, accepted.shift_in, accepted.limit_in.1)

pub nonzero_div-full : goal.nonzero_div-full
nonzero_div-full c =
    let k = known c.requires c.new-demapper.ensures.modulation c.new-demapper.ensures.scale c.bits_per_symbol.ensures c.from-payload.ensures in
    rw k.bits_is (some k.accepted)

pub slice_bounds-whole-end : goal.slice_bounds-whole-end
slice_bounds-whole-end c =
    let k = known c.requires c.new-demapper.ensures.modulation c.new-demapper.ensures.scale c.bits_per_symbol.ensures c.from-payload.ensures in
    rw (full_is k) (sym (length-take-le _ _ (first_there k.accepted)))

pub read_signal-next-requires : goal.read_signal-next-requires
read_signal-next-requires c =
    let k = known c.requires c.new-demapper.ensures.modulation c.new-demapper.ensures.scale c.bits_per_symbol.ensures c.from-payload.ensures in
    let a = k.accepted in
    let there = full_there a in
    rw (full_is k) (symbols_ready a k.is there (fits_less (room a) (full_bits a) (mul-le-mul_right _ there)))

pub symbol_at-symbol-requires : goal.symbol_at-symbol-requires
symbol_at-symbol-requires c =
    let k = known c.requires c.new-demapper.ensures.modulation c.new-demapper.ensures.scale c.bits_per_symbol.ensures c.from-payload.ensures in
    let h = padded k c.if-full-setup.true in
    rw (full_is k, counted k.accepted, sampled k.accepted) (h, h)

pub for_symbol-own-requires : goal.for_symbol-own-requires
for_symbol-own-requires c =
    let k = known c.requires c.new-demapper.ensures.modulation c.new-demapper.ensures.scale c.bits_per_symbol.ensures c.from-payload.ensures in
    weight_few k.accepted _

pub read_padded-requires : goal.read_padded-requires
read_padded-requires c =
    let k = known c.requires c.new-demapper.ensures.modulation c.new-demapper.ensures.scale c.bits_per_symbol.ensures c.from-payload.ensures in
    rw c.from-payload.ensures
    (last_ready k.accepted (padded k c.if-full-setup.true) (first_read k c.read_signal-next.ensures.read) (c.for_symbol-own.ensures.modulation ∙ k.is)
    (own_scale k c.for_symbol-own.ensures.scale) (full_is k) c.symbol_at-symbol.ensures)

pub returns-then-full-setup-clause-read : goal.returns-then-full-setup-clause-read
returns-then-full-setup-clause-read c =
    let k = known c.requires c.new-demapper.ensures.modulation c.new-demapper.ensures.scale c.bits_per_symbol.ensures c.from-payload.ensures in
    last_read k.accepted (padded k c.if-full-setup.true) (first_read k c.read_signal-next.ensures.read) (c.for_symbol-own.ensures.modulation ∙ k.is)
    (own_scale k c.for_symbol-own.ensures.scale) (full_is k) c.symbol_at-symbol.ensures
    (rw c.from-payload.ensures at c.read_padded.ensures.read)

pub returns-else-full-setup-clause-read : goal.returns-else-full-setup-clause-read
returns-else-full-setup-clause-read c =
    let k = known c.requires c.new-demapper.ensures.modulation c.new-demapper.ensures.scale c.bits_per_symbol.ensures c.from-payload.ensures in
    all_read k.accepted (rw (full_is k, k.symbols_are) at c.if-full-setup.false) (first_read k c.read_signal-next.ensures.read)
