-- The soft values of a payload, written symbol by symbol: what a symbol more adds to the text. Assumes nothing.
use mathlib.Core.Path.{◌≡◌, refl, sym, ◌∙◌}
use mathlib.Core.List.{List, [], ◌∷◌, ◌++◌, flat_map, append-nil}
use Prim.Native.Nat.{ℕ, suc, ◌+◌, ◌*◌, ◌-◌, ◌≤◌, ◌<◌, min}
use native.Mathlib.Nat.{zero-mul, suc-mul, add-mul, mul-le-mul_right}
use native.Mathlib.Numerals.{add-one}
use native.Mathlib.Omega.{arith}
use native.Mathlib.Decide.{dec_le}
use lib.IntN.{ℤ, pos}
use lib.ListN.{length, take, length-append, length-take}
use lib.Seq.{take_all, take-append-add, take-append-le}
use Rattle.arithmetic.specs.Lists.{first, joined, over}
use Rattle.arithmetic.proofs.Lists.{over_nothing, over_more, flat_map-append}
use Rattle.hexadecimal.specs.TwosComplement.{last_digits}
use Rattle.hexadecimal.proofs.Fields.{length_digits}
use Rattle.constellation.specs.declared.Modulation.{Modulation}
use Rattle.constellation.specs.Schemes.{bits_per_symbol}
use Rattle.constellation.proofs.Schemes.{symbol_bits}
use Rattle.demapper.specs.Soft.{Scale}
use Rattle.demapper.specs.Reading.{part_soft}
use Rattle.frame.specs.Sent.{rearranged, as_sent}
use Rattle.frame.proofs.Sent.{length-rearranged, as_sent_append}
use Rattle.symbol_reading.specs.declared.Symbol.{Symbol}
use Rattle.symbol_reading.specs.PartsRead.{softs_for, softs_of}
use Rattle.symbol_reading.proofs.PartsReading.{length-part_soft, length_softs}

-- ---- the first entries of two lists

module _ {A : Type 0} where
  take_few : (x b : ℕ) (ys : List A) → length ys ≡ b → take (min b x) ys ≡ take x ys
  take_few x b ys e = go (dec_le x b)
    where
      go : Dec (x ≤ b) → take (min b x) ys ≡ take x ys
      go (yes h) = let m : min b x ≡ x = omega arith in rw m
      go (no h) = let m : min b x ≡ b = omega arith in rw (m, take_all b ys (omega arith), take_all x ys (omega arith))

  take_both : (P : ℕ) (xs ys : List A) {b done count : ℕ} → length ys ≡ b → done ≡ min P (length xs) → count ≡ min b (P - done)
      → take P (xs ++ ys) ≡ take P xs ++ take count ys
  take_both P xs ys {b} {done} {count} e d c = go (dec_le (length xs) P)
    where
      go : Dec (length xs ≤ P) → take P (xs ++ ys) ≡ take P xs ++ take count ys
      go (yes h) =
          let all : length xs + (P - length xs) ≡ P = omega arith in
          let m : count ≡ min b (P - length xs) = omega arith in
          rw (take_all P xs h, m, take_few (P - length xs) b ys e) (rw all at (take-append-add xs ys (P - length xs)))
      go (no h) =
          let m : count ≡ 0 = omega arith in
          rw (m, append-nil) (take-append-le P xs ys (omega arith))

-- ---- the last d digits of each soft value

abbrev pub last_texts : ℕ → List ℤ → List ℕ
last_texts d soft = flat_map (last_digits d) soft

length_last_texts : (d : ℕ) (soft : List ℤ) → length (last_texts d soft) ≡ length soft * d
unfolding flat_map last_digits
length_last_texts d [] = sym (zero-mul d)
length_last_texts d (z ∷ soft) = simp (length-append, length_digits, length_last_texts d soft, suc-mul) (omega arith)

-- ---- symbols

-- the soft values of a symbol, and of the first n symbols, in the order sent
abbrev sent_for : Modulation → Scale → Symbol → List ℤ
sent_for q scale s = as_sent q (pos 0) (softs_for q scale s)

module _ (q : Modulation) (symbol : ℕ → Symbol) (scale : ℕ → Scale) where
  abbrev pub sent_of : ℕ → List ℤ
  sent_of n = as_sent q (pos 0) (softs_of q scale symbol n)

  length_sent : (n : ℕ) → length (sent_of n) ≡ n * bits_per_symbol q
  length_sent n = length-rearranged _ (pos 0) (softs_of q scale symbol n) ∙ length_softs q scale symbol n

  sent_more : (n : ℕ) → sent_of (suc n) ≡ sent_of n ++ sent_for q (scale n) (symbol n)
  unfolding joined
  sent_more n = as_sent_append q (pos 0) n (softs_of q scale symbol n) (softs_for q (scale n) (symbol n)) (length_softs q scale symbol n)

-- those of the first n of k symbols are written, as many as the payload has, which are `done`
pub record WrittenUpTo (q : Modulation) (symbol : ℕ → Symbol) (scale : ℕ → Scale) (k payload d : ℕ) (lent : List ℕ) (at : ℕ) (text : List ℕ) (done n : ℕ) : Type 0 where
  pub some : n ≤ k
  pub long : length text ≡ length lent
  pub counted : done ≡ min payload (n * bits_per_symbol q)
  pub written : text ≡ over lent at (last_texts d (take payload (sent_of q symbol scale n)))

module _ {q : Modulation} {symbol : ℕ → Symbol} {scale : ℕ → Scale} {k payload d : ℕ} {lent : List ℕ} {at : ℕ} where
  pub written_none : WrittenUpTo q symbol scale k payload d lent at lent 0 0
  unfolding joined flat_map rearranged first
  written_none =
      let none : take {A = ℤ} payload [] ≡ [] = take_all payload [] (omega arith) in
      record { some = omega arith; long = refl; counted = rw zero-mul (omega arith); written = rw none (sym (over_nothing lent at)) }

  module _ {text : List ℕ} {done n : ℕ} (w : WrittenUpTo q symbol scale k payload d lent at text done n) where
    pub done_few : done ≤ payload
    done_few = omega (arith, w.counted)

    -- the next ones have room
    pub count_fits : (b : ℕ) {count : ℕ} → count ≡ min b (payload - done) → at + payload * d ≤ length lent → at + done * d + count * d ≤ length text
    count_fits b {count} c room =
        let all : done + count ≤ payload = omega (arith, done_few) in
        omega (arith, w.long, mul-le-mul_right d all, add-mul done count d)

    pub written_more : {out : List ℕ} {count : ℕ} → n < k → at + payload * d ≤ length lent → count ≡ min (bits_per_symbol q) (payload - done)
        → length out ≡ length text
        → out ≡ over text (at + done * d) (last_texts d (take count (sent_for q (scale n) (symbol n))))
        → WrittenUpTo q symbol scale k payload d lent at out (done + count) (n + 1)
    written_more {out} {count} h room c long o =
        let before = sent_of q symbol scale n in
        let here = sent_for q (scale n) (symbol n) in
        let bits : length here ≡ bits_per_symbol q = length-rearranged _ (pos 0) _ ∙ symbol_bits (part_soft (scale n)) (length-part_soft (scale n)) q (symbol n).gain (symbol n).yi (symbol n).yq in
        let so_far : done ≡ min payload (length before) = rw (length_sent q symbol scale n) w.counted in
        let some : length (take payload before) ≡ done = rw length-take (omega arith) in
        let long-so-far : length (last_texts d (take payload before)) ≡ done * d = rw (length_last_texts, some) in
        let both = take_both payload before here bits so_far c in
        let more = over_more lent at (last_texts d (take payload before)) (last_texts d (take count here)) (rw long-so-far (omega (arith, mul-le-mul_right d done_few))) in
        record {
          some = omega arith;
          long = omega (arith, w.long);
          counted = rw (add-one, suc-mul) (omega (arith, w.counted));
          written = o ∙ rw (w.written, add-one, sent_more q symbol scale n, both, flat_map-append) (rw long-so-far at more);
        }
