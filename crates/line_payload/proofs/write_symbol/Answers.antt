-- `write_symbol` meets its contract: of the soft values that are read the first ones are written. Assumes nothing.
use mathlib.Core.Path.{◌≡◌, sym, ap, ◌∙◌}
use mathlib.Core.List.{List, flat_map}
use Prim.Native.Nat.{ℕ, ◌≤◌}
use native.Mathlib.Omega.{arith}
use lib.IntN.{ℤ, pos}
use lib.ListN.{length, take}
use lib.Seq.{length-take-le}
use Rattle.arithmetic.specs.Lists.{over}
use Rattle.hexadecimal.specs.TwosComplement.{last_digits}
use Rattle.demapper.specs.Rounding.{scale_of}
use Rattle.constellation.specs.declared.Modulation.{Modulation}
use Rattle.constellation.specs.Ranges.{max_symbol_bits, max_symbol_probes}
use Rattle.constellation.specs.Schemes.{bits_per_symbol}
use Rattle.demapper.specs.Reading.{Buffers, part_soft}
use Rattle.demapper.specs.declared.Place.{Place}
use Rattle.symbol_reading.specs.declared.Symbol.{Symbol}
use Rattle.symbol_reading.specs.PartsRead.{SymbolInRange, parts_for, Fit, PartsRead}
use Rattle.frame_symbols.proofs.SymbolsReady.{symbol_few, own_room}
use Rattle.symbol_reading.proofs.PartsReading.{length-part_soft, symbol_keeps_lengths, symbol_taken}
use Rattle.digit_writing.specs.Width.{digits_in}
use Rattle.line_payload.proofs.write_symbol.Goals as goal

-- a symbol is read into buffers of one symbol's size: they are as long as they were, and as many soft values are there as are to be written
record OwnRead (count : ℕ) (own : Buffers) : Type 0 where
  room : Fit max_symbol_bits max_symbol_probes own
  there : length (take count own.soft) ≡ count

own_read : (q : Modulation) (s : Symbol) {count : ℕ} {softs : List ℤ} {lent own : Buffers} {next : Place} → SymbolInRange q s
    → Fit max_symbol_bits max_symbol_probes lent → count ≤ bits_per_symbol q
    → PartsRead q (parts_for q s) softs (bits_per_symbol q) (record { bit = 0; probe = 0 }) lent own next → OwnRead count own
own_read q s r room few read =
    let kept = symbol_keeps_lengths q s (own_room q s r room).1 read in
    record { room = omega (arith, kept, room); there = length-take-le _ _ (omega (arith, few, kept, symbol_few q s r, room)) }

pub read_one-requires : goal.read_one-requires
read_one-requires c = own_room c.args.demapper.modulation c.args.symbol c.requires.0 c.requires.1

pub returns-clause-written : goal.returns-clause-written
returns-clause-written c =
    let a = c.args in
    let scale = scale_of a.demapper.rounding in
    c.write_softs.ensures
    ∙ ap (λ l. over a.text.now a.at (flat_map (last_digits (digits_in a.width)) l))
    (symbol_taken a.demapper.modulation a.symbol (pos 0) a.own.now.soft.now (part_soft scale) (length-part_soft scale) c.requires.2 c.read_one.ensures.read.soft)

pub returns-clause-room : goal.returns-clause-room
returns-clause-room c = omega (arith, (own_read c.args.demapper.modulation c.args.symbol c.requires.0 c.requires.1 c.requires.2 c.read_one.ensures.read).room)

pub slice_bounds-write_softs-end : goal.slice_bounds-write_softs-end
slice_bounds-write_softs-end c = sym (own_read c.args.demapper.modulation c.args.symbol c.requires.0 c.requires.1 c.requires.2 c.read_one.ensures.read).there
