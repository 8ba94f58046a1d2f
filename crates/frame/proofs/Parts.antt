-- The parts of a frame: how many bits and probes they have, and that each part of an accepted frame is shown; and how many
-- symbols a payload has.
-- Assumes nothing.
use mathlib.Core.Path.{◌≡◌}
use mathlib.Core.List.{List, ◌++◌, flat_map}
use Prim.Native.Nat.{ℕ, zero, suc, ◌+◌, ◌*◌, ◌-◌, ◌/◌, ◌≤◌, ◌<◌}
use native.Mathlib.Nat.{mul-le-mul_right, le_of_mul-le-mul_right, div-add-mod', div-mul-le_self, mod-lt, div-lt_iff_lt-mul}
use native.Mathlib.Omega.{arith}
use lib.IntN.{pos}
use lib.ListN.{length, get_or}
use Rattle.arithmetic.specs.Lists.{joined}
use Rattle.arithmetic.proofs.Lists.{length_first, flat_map_joined, length_joined}
use Rattle.constellation.specs.Parts.{Part}
use Rattle.constellation.specs.Schemes.{bits_per_symbol, ModulationInRange, probes_per_symbol}
use Rattle.constellation.specs.Shown.{AllShown, none, more}
use Rattle.constellation.proofs.Schemes.{symbol_shown, symbol_bits, symbol_probes}
use Rattle.demapper.proofs.Probes.{length-part_probes}
use Rattle.demapper.specs.Probes.{part_probes}
use Rattle.demapper.specs.Reading.{part_soft}
use Rattle.frame.specs.Frame.{Frame, modulation, symbols_for, symbol_count, parts_of_symbol, frame_parts, symbol_softs, probe_list}

-- ---- parts that are shown

shown_append : {ps qs : List Part} → AllShown ps → AllShown qs → AllShown (ps ++ qs)
shown_append none s = s
shown_append (more p r) s = more p (shown_append r s)

shown_joined : (f : ℕ → List Part) (n : ℕ) → ((i : ℕ) → AllShown (f i)) → AllShown (joined f n)
unfolding joined
shown_joined f zero each = none
shown_joined f (suc n) each = shown_append (shown_joined f n each) (each n)

pub frame_shown : (f : Frame) → ModulationInRange (modulation f) → AllShown (frame_parts f)
unfolding frame_parts parts_of_symbol
frame_shown f ok =
    shown_joined (parts_of_symbol f) _
    (λ n. symbol_shown (modulation f) ok (get_or f.gains n 0) (get_or f.y_i n (pos 0)) (get_or f.y_q n (pos 0)))

-- ---- lists with so many entries for each part

module _ {B : Type 0} (h : Part → List B) where
  -- the same number for each symbol
  pub symbols_entries : (symbol : ℕ → List Part) (c : ℕ) → ((j : ℕ) → length (flat_map h (symbol j)) ≡ c) → (n : ℕ) → length (flat_map h (joined symbol n)) ≡ n * c
  symbols_entries symbol c each n = rw flat_map_joined (length_joined (λ j. flat_map h (symbol j)) c n (λ j l. each j))

-- of the first symbols
pub symbols_bits : {B : Type 0} (h : Part → List B) → ((p : Part) → length (h p) ≡ p.bits) → (f : Frame) (n : ℕ)
    → length (flat_map h (joined (parts_of_symbol f) n)) ≡ n * bits_per_symbol (modulation f)
unfolding parts_of_symbol
symbols_bits h e f = symbols_entries h (parts_of_symbol f) (bits_per_symbol (modulation f)) (λ n. symbol_bits h e (modulation f) _ _ _)

pub symbols_probes : (f : Frame) (n : ℕ) → length (flat_map part_probes (joined (parts_of_symbol f) n)) ≡ n * probes_per_symbol (modulation f)
unfolding parts_of_symbol
symbols_probes f = symbols_entries part_probes (parts_of_symbol f) (probes_per_symbol (modulation f)) (λ n. symbol_probes part_probes length-part_probes (modulation f) _ _ _)

-- of all
pub frame_bits : {B : Type 0} (h : Part → List B) → ((p : Part) → length (h p) ≡ p.bits) → (f : Frame)
    → length (flat_map h (frame_parts f)) ≡ symbol_count f * bits_per_symbol (modulation f)
unfolding frame_parts
frame_bits h e f = symbols_bits h e f (symbol_count f)

-- the soft values of the first symbols, label by label, and of all
pub symbols_softs : (f : Frame) (n : ℕ) → length (joined (symbol_softs f) n) ≡ n * bits_per_symbol (modulation f)
unfolding symbol_softs parts_of_symbol part_soft
symbols_softs f n = length_joined (symbol_softs f) (bits_per_symbol (modulation f)) n (λ j l. symbol_bits _ (λ p. length_first _ p.bits) (modulation f) _ _ _)

pub frame_softs : (f : Frame) → length (joined (symbol_softs f) (symbol_count f)) ≡ symbol_count f * bits_per_symbol (modulation f)
frame_softs f = symbols_softs f (symbol_count f)

-- the number of probes: symbols times m + 1, or m_i + m_q + 2
pub probe_count : (f : Frame) → length (probe_list f) ≡ symbol_count f * probes_per_symbol (modulation f)
unfolding probe_list frame_parts
probe_count f = symbols_probes f (symbol_count f)

-- ---- how many symbols

-- just enough symbols for the payload
pub symbols_enough : (b payload : ℕ) → 0 < b → payload ≤ symbols_for b payload * b
unfolding symbols_for
symbols_enough b payload h = omega (arith, div-add-mod' (payload + (b - 1)) b, mod-lt (payload + (b - 1)) h)

pub symbols_needed : (b payload n : ℕ) → 0 < b → payload ≤ n * b → symbols_for b payload ≤ n
unfolding symbols_for
symbols_needed b payload n h l =
    let s : payload + (b - 1) < suc n * b = omega arith in
    omega (arith, (div-lt_iff_lt-mul h).1 s)

-- the symbols without padding: all, or all but the last
pub full_symbols : (b payload : ℕ) → 0 < b → payload / b ≤ symbols_for b payload
full_symbols b payload h = le_of_mul-le-mul_right {k = b} (omega (arith, div-mul-le_self payload b, symbols_enough b payload h)) h

pub symbols_padded : (b payload : ℕ) → 0 < b → payload / b < symbols_for b payload → symbols_for b payload ≡ suc (payload / b)
symbols_padded b payload h l =
    let all : payload ≤ suc (payload / b) * b = omega (arith, div-add-mod' payload b, mod-lt payload h) in
    omega (arith, symbols_needed b payload (suc (payload / b)) h all)

pub symbols_unpadded : (b payload : ℕ) → 0 < b → symbols_for b payload ≤ payload / b
    → (symbols_for b payload ≡ payload / b) × (payload / b * b ≡ payload)
symbols_unpadded b payload h l =
    omega (arith, full_symbols b payload h, div-mul-le_self payload b, symbols_enough b payload h, mul-le-mul_right b l)
