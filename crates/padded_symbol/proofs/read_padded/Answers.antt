-- `read_padded` meets its contract: what is read fits the buffers of its own, which have room for the bits of any symbol, and of its bits and soft
-- values those that belong to the payload are copied. Assumes nothing.
use mathlib.Core.Path.{◌≡◌, refl, sym, ◌∙◌, ap}
use mathlib.Core.List.{List}
use Prim.Native.Nat.{ℕ, ◌+◌, ◌≤◌}
use native.Mathlib.Omega.{arith}
use borrow.Author.Rules.{rules}
use lib.IntN.{ℤ, pos}
use lib.ListN.{take}
use lib.Seq.{length-take-le}
use Rattle.arithmetic.specs.Lists.{over}
use Rattle.constellation.specs.declared.Modulation.{Modulation}
use Rattle.constellation.specs.Parts.{part_hard}
use Rattle.constellation.specs.Ranges.{max_symbol_bits}
use Rattle.constellation.specs.Schemes.{bits_per_symbol}
use Rattle.demapper.specs.declared.Place.{Place}
use Rattle.demapper.specs.Soft.{Scale}
use Rattle.demapper.specs.Reading.{buffers, part_soft}
use Rattle.symbol_reading.specs.declared.Symbol.{Symbol}
use Rattle.symbol_reading.specs.PartsRead.{SymbolInRange, parts_for, softs_for, PartsRead}
use Rattle.frame_symbols.proofs.SymbolsReady.{symbol_few}
use Rattle.symbol_reading.proofs.PartsReading.{length-part_hard, length-part_soft, symbol_taken}
use Rattle.padded_symbol.proofs.read_padded.Goals as goal

module _ (q : Modulation) (s : Symbol) {left : ℕ} where
  padded : (scale : Scale) (place : Place) {next : Place} {h₀ h₁ h₂ h₃ i₀ i₁ i₂ : List ℕ} {s₀ s₁ s₂ s₃ c₀ c₁ c₂ : List ℤ} → left ≤ bits_per_symbol q
      → PartsRead q (parts_for q s) (softs_for q scale s) (bits_per_symbol q) (record { bit = 0; probe = place.probe }) (buffers h₀ s₀ i₀ c₀) (buffers h₁ s₁ i₁ c₁) next
      → h₃ ≡ over h₂ place.bit (take left h₁) → s₃ ≡ over s₂ place.bit (take left s₁)
      → i₂ ≡ i₁ → c₂ ≡ c₁
      → PartsRead q (parts_for q s) (softs_for q scale s) left place (buffers h₂ s₂ i₀ c₀) (buffers h₃ s₃ i₂ c₂) (record { bit = place.bit + left; probe = next.probe })
  unfolding part_hard part_soft
  padded scale place {h₀ = h₀} {h₂ = h₂} {s₀ = s₀} {s₂ = s₂} few r hard soft indices costs =
      record {
        hard = hard ∙ ap (over h₂ place.bit) (symbol_taken q s 0 h₀ part_hard length-part_hard few r.hard);
        soft = soft ∙ ap (over s₂ place.bit) (symbol_taken q s (pos 0) s₀ (part_soft scale) (length-part_soft scale) few r.soft);
        indices = indices ∙ r.indices;
        costs = costs ∙ r.costs;
        bits_counted = refl;
        probes_counted = r.probes_counted;
      }

  -- the bits that belong to the payload have room in a buffer of the largest symbol
  few_left : SymbolInRange q s → left ≤ bits_per_symbol q → left ≤ max_symbol_bits
  few_left is few = omega (arith, few, symbol_few q s is)

pub returns-clause-read : goal.returns-clause-read
returns-clause-read c = padded _ _ _ c.args.place c.requires.1 c.read_one-next.ensures.read c.write_over.ensures c.write_over-2.ensures (search rules) (search rules)

pub read_one-next-requires : goal.read_one-next-requires
read_one-next-requires c =
    let few = (symbol_few c.args.demapper.modulation c.args.symbol c.requires.0).0 in
    let room = c.requires.2 in
    (c.requires.0, record { hard = omega (arith, few); soft = omega (arith, few); indices = room.indices; costs = room.costs })

-- and what is copied is there
pub slice_bounds-label-end : goal.slice_bounds-label-end
slice_bounds-label-end c = omega (arith, few_left _ _ c.requires.0 c.requires.1, c.read_one-next.array_long)

pub slice_bounds-write_over-end-2 : goal.slice_bounds-write_over-end-2
slice_bounds-write_over-end-2 c = sym (length-take-le c.args.left c.read_one-next.new.out.hard.now (omega (arith, few_left _ _ c.requires.0 c.requires.1, c.read_one-next.array_long)))

pub slice_bounds-values-end : goal.slice_bounds-values-end
slice_bounds-values-end c = omega (arith, few_left _ _ c.requires.0 c.requires.1, c.read_one-next.array_long2)

pub slice_bounds-write_over-end-4 : goal.slice_bounds-write_over-end-4
slice_bounds-write_over-end-4 c = sym (length-take-le c.args.left c.read_one-next.new.out.soft.now (omega (arith, few_left _ _ c.requires.0 c.requires.1, c.read_one-next.array_long2)))
