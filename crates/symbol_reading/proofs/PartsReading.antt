-- Parts read one after another, and symbols: what the four buffers hold behind them, and that there is room for the next symbol.
-- Assumes nothing.
use mathlib.Core.Path.{◌≡◌, sym, ◌∙◌}
use mathlib.Core.List.{List, [], ◌∷◌, ◌++◌, map, flat_map, map-append, append-nil}
use Prim.Native.Nat.{ℕ, suc, ◌+◌, ◌*◌, ◌≤◌, ◌<◌}
use native.Mathlib.Nat.{mul-le-mul_right, zero-mul, suc-mul}
use native.Mathlib.Numerals.{add-one}
use native.Mathlib.Omega.{arith}
use lib.IntN.{ℤ, pos, nat_abs}
use lib.ListN.{length, take, length-append, length-take, length-map}
use lib.Seq.{take-length, take-append-add}
use mir.Syntax.{w32, w64}
use mir.Val.{SFits}
use Rattle.arithmetic.specs.Lists.{joined, over}
use Rattle.arithmetic.proofs.Lists.{over_nothing, over_more, take_over_less, flat_map-append, length_first, length_joined}
use Rattle.arithmetic.proofs.Signed.{held, sized, sized_fits, sized_held}
use Rattle.constellation.specs.declared.Modulation.{Modulation}
use Rattle.constellation.specs.declared.Modulation.TheVariants.{Cellular}
use Rattle.constellation.specs.Ranges.{max_sample}
use Rattle.constellation.specs.Parts.{Part, part_label, part_hard}
use Rattle.constellation.specs.Schemes.{bits_per_symbol, probes_per_symbol, sent_place}
use Rattle.demapper.specs.Soft.{Scale}
use Rattle.demapper.specs.Probes.{Probe, part_probes, probe_indices, probe_costs}
use Rattle.demapper.specs.Reading.{Buffers, part_soft, PartRead}
use Rattle.demapper.proofs.Probes.{length-part_probes}
use Rattle.symbol_reading.specs.declared.Symbol.{Symbol}
use Rattle.demapper.specs.declared.Place.{Place}
use Rattle.symbol_reading.specs.PartsRead.{parts_for, parts_of, softs_for, softs_of, Fit, PartsRead}
use Rattle.constellation.proofs.Schemes.{symbol_bits, symbol_probes}
use Rattle.part_reading.proofs.PartReading.{SameLengths, length_over}
use Rattle.frame.specs.Sent.{as_sent}
use Rattle.frame.proofs.Sent.{length-rearranged, as_sent_append}
use Rattle.frame.proofs.Parts.{symbols_entries}
use Rattle.symbol_reading.proofs.SentBits.{sent_one, sent_two, sent_by_turns}

-- ---- as many hard bits and soft values as the parts have bits

pub length-part_hard : (p : Part) → length (part_hard p) ≡ p.bits
unfolding part_hard part_label
length-part_hard p = length_first _ p.bits

pub length-part_soft : (scale : Scale) (p : Part) → length (part_soft scale p) ≡ p.bits
unfolding part_soft
length-part_soft scale p = length_first _ p.bits

-- ---- parts

-- in a buffer for probes, those of the parts qs are written behind those of the parts ps
probes_join : {B : Type 0} {l out : List B} (d : List B) (ps qs : List Part) (g : Probe → B) (start : ℕ) → start + length (flat_map part_probes ps) ≤ length d
    → l ≡ over d start (map g (flat_map part_probes ps)) → out ≡ over l (start + length (flat_map part_probes ps)) (map g (flat_map part_probes qs))
    → out ≡ over d start (map g (flat_map part_probes (ps ++ qs)))
probes_join d ps qs g start room e s =
    let n : length (map g (flat_map part_probes ps)) ≡ length (flat_map part_probes ps) = length-map (flat_map part_probes ps) g in
    s ∙ rw (e, flat_map-append, map-append, ← n) (over_more d start (map g (flat_map part_probes ps)) (map g (flat_map part_probes qs)) (rw n room))

-- the probes of two parts, one after the other
record TwoProbed (p r : Part) (place : Place) (lent out : Buffers) (next : Place) : Type 0 where
  indices : out.indices ≡ over lent.indices place.probe (probe_indices (flat_map part_probes (p ∷ r ∷ [])))
  costs : out.costs ≡ over lent.costs place.probe (probe_costs (flat_map part_probes (p ∷ r ∷ [])))
  counted : next.probe ≡ place.probe + length (flat_map part_probes (p ∷ r ∷ []))

two-probed : {p r : Part} {scale : Scale} {at at' apart b n k : ℕ} {place next : Place} {lent now out : Buffers} → length p.probed ≡ n → length r.probed ≡ k
    → Fit b (place.probe + (n + k)) lent → PartRead p scale at apart place.probe lent now → PartRead r scale at' apart (place.probe + n) now out
    → next.probe ≡ place.probe + (n + k) → TwoProbed p r place lent out next
unfolding flat_map
two-probed {p} {r} {place} {lent} {now} e f room s t probe =
    let n : length (flat_map part_probes (p ∷ [])) ≡ length p.probed = rw append-nil (length-part_probes p) in
    record {
      indices = probes_join {l = now.indices} lent.indices (p ∷ []) (r ∷ []) (λ a. a.index) place.probe (rw (n, e) (omega arith)) (rw append-nil s.indices) (rw (n, e, append-nil) t.indices);
      costs = probes_join {l = now.costs} lent.costs (p ∷ []) (r ∷ []) (λ a. a.cost) place.probe (rw (n, e) (omega arith)) (rw append-nil s.costs) (rw (n, e, append-nil) t.costs);
      counted = rw (append-nil, length-append, length-part_probes p, length-part_probes r, e, f) probe;
    }

module _ {scale : Scale} {place next : Place} {lent : Buffers} where
  -- a symbol of one part, whose label is sent as it stands
  pub one_part : (q : Modulation) {p : Part} {m n : ℕ} {out : Buffers} → ((j : ℕ) → sent_place q j ≡ j) → p.bits ≡ m → length p.probed ≡ n
      → Fit (place.bit + m) (place.probe + n) lent → PartRead p scale place.bit 1 place.probe lent out
      → next.bit ≡ place.bit + m → next.probe ≡ place.probe + n → PartsRead q (p ∷ []) (flat_map (part_soft scale) (p ∷ [])) m place lent out next
  unfolding flat_map part_hard part_label part_soft
  one_part q {p} {m} order b e room s bit probe =
      record {
        hard = rw b (sent_one lent.hard 0 place.bit q order _ m room.hard (rw b at s.hard));
        soft = rw b (sent_one lent.soft (pos 0) place.bit q order _ m room.soft (rw b at s.soft));
        indices = rw append-nil s.indices;
        costs = rw append-nil s.costs;
        bits_counted = bit;
        probes_counted = rw (append-nil, length-part_probes p, e) probe;
      }

  -- of two parts, whose labels are sent one after the other
  pub two_parts : (q : Modulation) {p r : Part} {m l n k : ℕ} {now out : Buffers} → ((j : ℕ) → sent_place q j ≡ j)
      → p.bits ≡ m → r.bits ≡ l → length p.probed ≡ n → length r.probed ≡ k
      → Fit (place.bit + (m + l)) (place.probe + (n + k)) lent
      → PartRead p scale place.bit 1 place.probe lent now → PartRead r scale (place.bit + m) 1 (place.probe + n) now out
      → next.bit ≡ place.bit + (m + l) → next.probe ≡ place.probe + (n + k)
      → PartsRead q (p ∷ r ∷ []) (flat_map (part_soft scale) (p ∷ r ∷ [])) (m + l) place lent out next
  unfolding flat_map part_hard part_label part_soft
  two_parts q {m} {l} order b c e f room s t bit probe =
      let probed = two-probed {place = place} {next = next} e f room s t probe in
      record {
        hard = rw (b, c) (sent_two lent.hard 0 place.bit q order _ _ m l room.hard (rw b at s.hard) (rw c at t.hard));
        soft = rw (b, c) (sent_two lent.soft (pos 0) place.bit q order _ _ m l room.soft (rw b at s.soft) (rw c at t.soft));
        indices = probed.indices;
        costs = probed.costs;
        bits_counted = bit;
        probes_counted = probed.counted;
      }

  -- of two parts, whose labels are sent by turns
  pub two_by_turns : {p r : Part} {m n k : ℕ} {now out : Buffers} → p.bits ≡ m → r.bits ≡ m → length p.probed ≡ n → length r.probed ≡ k
      → Fit (place.bit + 2 * m) (place.probe + (n + k)) lent
      → PartRead p scale place.bit 2 place.probe lent now → PartRead r scale (place.bit + 1) 2 (place.probe + n) now out
      → next.bit ≡ place.bit + 2 * m → next.probe ≡ place.probe + (n + k)
      → PartsRead (Cellular m) (p ∷ r ∷ []) (flat_map (part_soft scale) (p ∷ r ∷ [])) (2 * m) place lent out next
  unfolding flat_map part_hard part_label part_soft
  two_by_turns {m} b c e f room s t bit probe =
      let probed = two-probed {place = place} {next = next} e f room s t probe in
      record {
        hard = rw (b, c) (sent_by_turns lent.hard 0 place.bit _ _ m room.hard (rw b at s.hard) (rw c at t.hard));
        soft = rw (b, c) (sent_by_turns lent.soft (pos 0) place.bit _ _ m room.soft (rw b at s.soft) (rw c at t.soft));
        indices = probed.indices;
        costs = probed.costs;
        bits_counted = bit;
        probes_counted = probed.counted;
      }

-- ---- symbols, one behind another

-- in a buffer for bits, those of a list, in the order sent, are written behind those of another, which is n whole symbols
bits_join : {B : Type 0} {l out : List B} (q : Modulation) (none : B) (d xs ys : List B) (at n c : ℕ) → let b = n * bits_per_symbol q in
    length xs ≡ b → at + b ≤ length d → l ≡ over d at (take b (as_sent q none xs))
    → out ≡ over l (at + b) (take c (as_sent q none ys)) → out ≡ over d at (take (b + c) (as_sent q none (xs ++ ys)))
bits_join q none d xs ys at n c whole room e s =
    let sent = as_sent q none xs in
    let all : length sent ≡ n * bits_per_symbol q = length-rearranged _ none xs ∙ whole in
    s ∙ rw (e, as_sent_append q none n xs ys whole, ← all, take-length, take-append-add)
    (over_more d at sent (take c (as_sent q none ys)) (rw all room))

pub parts_join : (q : Modulation) (n : ℕ) {ps qs : List Part} {ss ts : List ℤ} {c : ℕ} {place mid next : Place} {lent now out : Buffers} → let b = n * bits_per_symbol q in
    PartsRead q ps ss b place lent now mid → length (flat_map part_hard ps) ≡ b → length ss ≡ b → PartsRead q qs ts c mid now out next
    → Fit (place.bit + b + c) (place.probe + length (flat_map part_probes (ps ++ qs))) lent
    → PartsRead q (ps ++ qs) (ss ++ ts) (b + c) place lent out next
parts_join q n {ps} {qs} {ss} {ts} {c} {place} {lent = lent} {now = now} r whole soft_whole s room =
    let count : length (flat_map part_probes (ps ++ qs)) ≡ length (flat_map part_probes ps) + length (flat_map part_probes qs) = rw flat_map-append (length-append (flat_map part_probes ps) (flat_map part_probes qs)) in
    record {
      hard = rw flat_map-append (bits_join {l = now.hard} q 0 lent.hard _ _ place.bit n c whole (omega arith) r.hard (rw r.bits_counted at s.hard));
      soft = bits_join {l = now.soft} q (pos 0) lent.soft ss ts place.bit n c soft_whole (omega arith) r.soft (rw r.bits_counted at s.soft);
      indices = probes_join {l = now.indices} lent.indices ps qs (λ a. a.index) place.probe (omega arith) r.indices (rw r.probes_counted at s.indices);
      costs = probes_join {l = now.costs} lent.costs ps qs (λ a. a.cost) place.probe (omega arith) r.costs (rw r.probes_counted at s.costs);
      bits_counted = omega arith;
      probes_counted = omega arith;
    }

parts_none : (q : Modulation) {place : Place} {lent : Buffers} → PartsRead q [] [] 0 place lent lent place
unfolding flat_map
parts_none q {place} {lent} =
    record {
      hard = sym (over_nothing lent.hard place.bit);
      soft = sym (over_nothing lent.soft place.bit);
      indices = sym (over_nothing lent.indices place.probe);
      costs = sym (over_nothing lent.costs place.probe);
      bits_counted = omega arith;
      probes_counted = omega arith;
    }

length-take-below : {B : Type 0} (n : ℕ) (l : List B) → length (take n l) ≤ n
length-take-below n l = rw length-take (omega arith)

-- reading parts leaves the buffers' lengths as they are, where there is room for what is written
pub parts_keep_lengths : (q : Modulation) {parts : List Part} {softs : List ℤ} {bits : ℕ} {place next : Place} {lent out : Buffers}
    → Fit (place.bit + bits) (place.probe + length (flat_map part_probes parts)) lent → PartsRead q parts softs bits place lent out next → SameLengths lent out
parts_keep_lengths q {parts} {softs} {bits} {place} {lent = lent} room r =
    record {
      hard = rw r.hard (length_over lent.hard place.bit _ (omega (arith, room, length-take-below bits (as_sent q 0 (flat_map part_hard parts)))));
      soft = rw r.soft (length_over lent.soft place.bit _ (omega (arith, room, length-take-below bits (as_sent q (pos 0) softs))));
      indices = rw r.indices (length_over lent.indices place.probe _ (rw length-map room.indices));
      costs = rw r.costs (length_over lent.costs place.probe _ (rw length-map room.costs));
    }

pub symbol_keeps_lengths : (q : Modulation) (x : Symbol) {softs : List ℤ} {place next : Place} {lent out : Buffers}
    → Fit (place.bit + bits_per_symbol q) (place.probe + probes_per_symbol q) lent
    → PartsRead q (parts_for q x) softs (bits_per_symbol q) place lent out next → SameLengths lent out
symbol_keeps_lengths q x room =
    let probes : length (flat_map part_probes (parts_for q x)) ≡ probes_per_symbol q = symbol_probes part_probes length-part_probes q x.gain x.yi x.yq in
    parts_keep_lengths q (rw probes room)

-- how many bits and probes the first n symbols have
module _ (q : Modulation) (symbol : ℕ → Symbol) (n : ℕ) where
  length_bits : length (flat_map part_hard (parts_of q symbol n)) ≡ n * bits_per_symbol q
  length_bits = symbols_entries part_hard _ (bits_per_symbol q) (λ j. symbol_bits part_hard length-part_hard q (symbol j).gain (symbol j).yi (symbol j).yq) n

  pub length_probes : length (flat_map part_probes (parts_of q symbol n)) ≡ n * probes_per_symbol q
  length_probes = symbols_entries part_probes _ (probes_per_symbol q) (λ j. symbol_probes part_probes length-part_probes q (symbol j).gain (symbol j).yi (symbol j).yq) n

-- and how many soft values
pub length_softs : (q : Modulation) (scale : ℕ → Scale) (symbol : ℕ → Symbol) (n : ℕ) → length (softs_of q scale symbol n) ≡ n * bits_per_symbol q
length_softs q scale symbol n =
    length_joined _ (bits_per_symbol q) n (λ j l. symbol_bits (part_soft (scale j)) (length-part_soft (scale j)) q (symbol j).gain (symbol j).yi (symbol j).yq)

-- the first n of k symbols are read, and the next one goes to the place `next`
pub record ReadUpTo (q : Modulation) (symbol : ℕ → Symbol) (k : ℕ) (scale : ℕ → Scale) (place : Place) (lent now : Buffers) (n : ℕ) (next : Place) : Type 0 where
  pub some : n ≤ k
  pub room : Fit (place.bit + k * bits_per_symbol q) (place.probe + k * probes_per_symbol q) lent
  pub long : SameLengths lent now
  pub read : PartsRead q (parts_of q symbol n) (softs_of q scale symbol n) (n * bits_per_symbol q) place lent now next

module _ {q : Modulation} {symbol : ℕ → Symbol} {k : ℕ} {scale : ℕ → Scale} {place : Place} {lent : Buffers} where
  pub symbols_none : Fit (place.bit + k * bits_per_symbol q) (place.probe + k * probes_per_symbol q) lent → ReadUpTo q symbol k scale place lent lent 0 place
  unfolding joined
  symbols_none room = record { some = omega arith; room = room; long = omega arith; read = rw zero-mul (parts_none q) }

  module _ {now : Buffers} {n : ℕ} {next : Place} (r : ReadUpTo q symbol k scale place lent now n next) where
    pub symbol_fits : n < k → Fit (next.bit + bits_per_symbol q) (next.probe + probes_per_symbol q) now
    symbol_fits h =
        let bits = mul-le-mul_right (bits_per_symbol q) h in
        let probes = mul-le-mul_right (probes_per_symbol q) h in
        omega (arith, bits, probes, length_probes q symbol n, r.read.bits_counted, r.read.probes_counted)

    pub symbols_more : {out : Buffers} {behind : Place} → n < k → PartsRead q (parts_for q (symbol n)) (softs_for q (scale n) (symbol n)) (bits_per_symbol q) next now out behind
        → ReadUpTo q symbol k scale place lent out (n + 1) behind
    unfolding joined
    symbols_more h s =
        let long = symbol_keeps_lengths q (symbol n) (symbol_fits h) s in
        let whole = length_bits q symbol n in
        let fits : Fit (place.bit + n * bits_per_symbol q + bits_per_symbol q) (place.probe + length (flat_map part_probes (parts_of q symbol (suc n)))) lent =
        omega (arith, symbol_fits h, length_probes q symbol n, length_probes q symbol (suc n)) in
        record {
          some = omega arith;
          room = r.room;
          long = omega (arith, long);
          read = rw (add-one, suc-mul) (parts_join q n r.read whole (length_softs q scale symbol n) s fits);
        }

-- ---- samples

-- a sample is widened without loss
pub record Widened (y : ℤ) : Type 0 where
  pub fits : SFits w64 (held w32 y)
  pub same : held w64 (held w32 y) ≡ y

pub sample_widened : (y : ℤ) → nat_abs y ≤ max_sample → Widened y
sample_widened y h = let s = sized_held w32 tt (sized y h) in record { fits = sized_fits w64 tt s; same = (sized_held w64 tt s).value }

-- ---- the first of a symbol's entries, from where all of them are written at the start of a buffer

pub symbol_taken : (q : Modulation) (s : Symbol) {left : ℕ} {B : Type 0} {read : List B} (none : B) (own : List B) (h : Part → List B)
    → ((p : Part) → length (h p) ≡ p.bits) → left ≤ bits_per_symbol q
    → read ≡ over own 0 (take (bits_per_symbol q) (as_sent q none (flat_map h (parts_for q s)))) → take left read ≡ take left (as_sent q none (flat_map h (parts_for q s)))
symbol_taken q s {left} none own h each few r = rw r (take_over_less own _ left _ few (rw (length-rearranged, symbol_bits h each) few))
