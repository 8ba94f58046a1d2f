-- A plain frame reads as one weight for all its symbols: the frame of the weighted kind in which each symbol has the header's weight has the same hard bits, soft
-- values and probes. Assumes nothing.
use mathlib.Core.Path.{◌≡◌, sym, ap, ◌∙◌}
use mathlib.Core.List.{List, [], flat_map}
use Prim.Native.Nat.{ℕ, ◌+◌, ◌<◌}
use native.Mathlib.Omega.{arith}
use borrow.Author.Tests.{le-leb, lt-leb}
use lib.IntN.{ℤ, pos}
use lib.ListN.{get_or, take, get_or-eq_default}
use Rattle.arithmetic.specs.Lists.{first, joined}
use Rattle.arithmetic.proofs.Lists.{get_or_first, joined_cong}
use Rattle.constellation.specs.declared.Modulation.{Modulation}
use Rattle.constellation.specs.Parts.{Part}
use Rattle.constellation.specs.Schemes.{symbol_parts, bits_per_symbol, fraction_bits}
use Rattle.demapper.specs.Probes.{part_probes}
use Rattle.demapper.specs.Reading.{part_soft}
use Rattle.frame.specs.Frame.{Frame, header_from, weighted_kinds, is_weighted, plain_kind, modulation_of, modulation, symbols_for, symbol_count, parts_of_symbol, frame_parts, nearest_labels, nearest_word, hard_bits, symbol_weight, frame_scale, symbol_softs, soft_values, probe_list}
use Rattle.frame.specs.Sent.{as_sent}

-- a plain frame as one of the weighted kind
pub as_weighted : Frame → Frame
as_weighted f =
    record {
      header = header_from (f.header.kind + weighted_kinds) f.header.bits_i f.header.bits_q f.header.payload 0 f.header.shift f.header.limit;
      gains = f.gains;
      weights = first (λ n. f.header.weight) (symbol_count f);
      y_i = f.y_i;
      y_q = f.y_q;
    }

module _ (f : Frame) (plain : f.header.kind < weighted_kinds) (none : f.weights ≡ []) where
  same_kind : plain_kind (f.header.kind + weighted_kinds) ≡ plain_kind f.header.kind
  unfolding plain_kind is_weighted
  same_kind = rw (le-leb weighted_kinds (f.header.kind + weighted_kinds) (omega arith), lt-leb weighted_kinds f.header.kind plain) (omega arith)

  pub same_weight : (n : ℕ) → n < symbol_count f → symbol_weight (as_weighted f) n ≡ symbol_weight f n
  unfolding symbol_weight as_weighted
  same_weight n h = get_or_first (λ n. f.header.weight) (symbol_count f) n 0 h ∙ sym (get_or-eq_default f.weights f.header.weight {n = n} (rw none (omega arith)))

  same_modulation : modulation (as_weighted f) ≡ modulation f
  unfolding as_weighted
  same_modulation = ap (λ k. modulation_of k f.header.bits_i f.header.bits_q) same_kind

  -- what is made of a frame with the modulation q: its symbols, the parts of one and of all
  abbrev count : Modulation → ℕ
  count q = symbols_for (bits_per_symbol q) f.header.payload

  abbrev parts_at : Modulation → ℕ → List Part
  parts_at q n = symbol_parts q (get_or f.gains n 0) (get_or f.y_i n (pos 0)) (get_or f.y_q n (pos 0))

  abbrev parts : Modulation → List Part
  parts q = joined (parts_at q) (count q)

  pub same_hard_bits : hard_bits (as_weighted f) ≡ hard_bits f
  unfolding hard_bits nearest_word frame_parts parts_of_symbol symbol_count as_weighted
  same_hard_bits = ap (λ q. take f.header.payload (as_sent q 0 (nearest_labels (parts q)))) same_modulation

  pub same_probes : probe_list (as_weighted f) ≡ probe_list f
  unfolding probe_list frame_parts parts_of_symbol symbol_count as_weighted
  same_probes = ap (λ q. flat_map part_probes (parts q)) same_modulation

  -- the soft values by the weight of each symbol
  abbrev softs : Modulation → (ℕ → ℕ) → List ℤ
  softs q weight =
      take f.header.payload
      (as_sent q (pos 0) (joined (λ n. flat_map (part_soft (record { weight = weight n; shift = f.header.shift + fraction_bits q; limit = f.header.limit })) (parts_at q n)) (count q)))

  pub same_soft_values : soft_values (as_weighted f) ≡ soft_values f
  unfolding soft_values symbol_softs parts_of_symbol symbol_count as_weighted
  same_soft_values =
      ap (λ q. softs q (symbol_weight (as_weighted f))) same_modulation
      ∙ ap (λ l. take f.header.payload (as_sent (modulation f) (pos 0) l))
      (joined_cong _ (symbol_softs f) (symbol_count f) (λ n h. ap (λ w. flat_map (part_soft (frame_scale f w)) (parts_of_symbol f n)) (same_weight n h)))
