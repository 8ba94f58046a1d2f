-- Demand 3: the lists handed out for an accepted frame of any modulation meet it, as one statement about the whole frame. It is shown once for a weight in the
-- sums and one behind them, whose product is the symbol's weight: so of sums of weighted costs, and for a plain frame of sums of the costs alone.
-- Assumes nothing.
use mathlib.Core.Path.{◌≡◌, refl, sym, ◌∙◌}
use mathlib.Core.Bool.{false}
use mathlib.Core.List.{List, flat_map}
use Prim.Native.Nat.{ℕ, ◌+◌, ◌*◌, ◌/◌, ◌%◌, ◌≤◌, ◌<◌}
use native.Mathlib.Nat.{mul-one, one-mul, mul-add-div_right, div-eq_of_lt, add-zero, mod-lt}
use native.Mathlib.Omega.{arith}
use lib.Dec.{lit<}
use lib.IntN.{pos, ◌*ℤ◌}
use lib.ListN.{length, take, length-take, length-map}
use lib.Seq.{get_or-take}
use lib.Signed.{◌≤ℤ◌}
use Rattle.arithmetic.specs.Lists.{first}
use Rattle.arithmetic.proofs.Lists.{length_first, get_or_first, first_cong, joined_cong, joined_first, flat_map_joined}
use Rattle.constellation.specs.Parts.{Part, part_label, part_hard}
use Rattle.constellation.specs.Schemes.{bits_per_symbol, ModulationInRange, Inverse}
use Rattle.constellation.specs.Shown.{AllShown}
use Rattle.demapper.specs.Soft.{least_with, cost_difference}
use Rattle.frame.specs.declared.Limits.{Limits}
use Rattle.frame.specs.Sent.{in_symbol, sent_at, label_at, as_sent}
use Rattle.frame.specs.Frame.{Frame, is_weighted, modulation, symbol_count, parts_of_symbol, frame_parts, nearest_labels, nearest_word, hard_bits, symbol_weight, softened, soft_values, probe_list}
use Rattle.frame.specs.Words.{word_length, CandidateWord, word_cost}
use Rattle.frame.specs.Verdicts.{Passed}
use Rattle.frame.specs.FrameCall.{frame_verdict, handed_out}
use Rattle.demapper.specs.Reading.{Buffers}
use Rattle.frame.specs.Demand3.{frame_places, sent_cost, symbol_of_bit, BitShown, CostsShown, once, Demand3}
use Rattle.frame.proofs.Order.{FrameAccepted, frame_accepted, weights_counted, one_weight}
use Rattle.constellation.proofs.Schemes.{bits_above_zero, order_inverse, symbol_bits}
use Rattle.frame.proofs.Words.{BestWord, best_word_candidate, best_word_least, BitDifference}
use Rattle.frame.proofs.Parts.{frame_shown, frame_bits, frame_softs, probe_count, symbols_enough}
use Rattle.frame.proofs.Located.{Located, located}
use Rattle.frame.proofs.ShownWords.{nearest_labels_best, nearest_labels_fill, words_at}
use Rattle.frame.proofs.Weighed.{Weighed, parts_in, words_of, weighed, frame_weighed, parts_of_frame, words_of_frame, constant_entries, weighed_entries, softs_weighed}
use Rattle.frame.proofs.Sent.{inverse_sym, inverse_symbols, length-rearranged, get_or-rearranged, rearranged-back, label_rearranged, least_with_rearranged}

module _ (f : Frame) (ok : ModulationInRange (modulation f)) where
  -- the payload is no longer than the word
  payload_fits : f.header.payload ≤ symbol_count f * bits_per_symbol (modulation f)
  unfolding symbol_count
  payload_fits = symbols_enough (bits_per_symbol (modulation f)) f.header.payload (bits_above_zero (modulation f) ok)

  -- a list of as many entries as the parts have bits, in the order sent and cut to the payload
  pub payload_length : {B : Type 0} (none : B) (l : List B) → length l ≡ symbol_count f * bits_per_symbol (modulation f)
      → length (take f.header.payload (as_sent (modulation f) none l)) ≡ f.header.payload
  payload_length none l e = rw (length-take, length-rearranged, e) (omega (arith, payload_fits))

  pub soft_length_lem : length (soft_values f) ≡ f.header.payload
  unfolding soft_values
  soft_length_lem = payload_length (pos 0) _ (frame_softs f)

  module _ (weight : ℕ → ℕ) (w : ℕ) (same : (n : ℕ) → symbol_weight f n ≡ weight n * w) where
    abbrev xs : List Weighed
    xs = frame_weighed weight f

    shown : AllShown (parts_in xs)
    shown = rw (parts_of_frame weight f) (frame_shown f ok)

    best : BestWord (frame_places weight f) (nearest_labels (frame_parts f))
    best = rw (words_of_frame weight f, parts_of_frame weight f) at (nearest_labels_best xs shown)

    word_length_lem : word_length (frame_places weight f) ≡ symbol_count f * bits_per_symbol (modulation f)
    unfolding part_hard part_label
    word_length_lem = rw (words_of_frame weight f, parts_of_frame weight f) at (nearest_labels_fill xs shown) ∙ frame_bits part_hard (λ p. length_first _ p.bits) f

    -- the order sent and that of the labels
    order : Inverse (word_length (frame_places weight f)) (sent_at (modulation f)) (label_at (modulation f))
    order = rw word_length_lem (inverse_symbols (symbol_count f) (bits_above_zero (modulation f) ok) (order_inverse (modulation f)))

    -- the word of the nearest points is a candidate word, and none beats it
    nearest_candidate : CandidateWord (frame_places weight f) (nearest_word f)
    unfolding nearest_word
    nearest_candidate = label_rearranged order (best_word_candidate best)

    none_beats_lem : (word : List ℕ) → CandidateWord (frame_places weight f) word → sent_cost weight f (nearest_word f) ≤ℤ sent_cost weight f word
    unfolding nearest_word
    none_beats_lem word c =
        let labels = nearest_labels (frame_parts f) in
        let own : Inverse (length labels) (sent_at (modulation f)) (label_at (modulation f)) = rw (best_word_candidate best).fills order in
        rw (rearranged-back 0 labels own) (best_word_least best _ (label_rearranged (inverse_sym order) c))

    -- where bit i of the word stands among the labels, it has the weight of its symbol
    symbol_weight_at : (n : ℕ) → let b = bits_per_symbol (modulation f) in
        flat_map (λ (x : Weighed). first (λ i. pos x.weight) x.part.bits) (weighed (weight n) (parts_of_symbol f n)) ≡ first (λ i. pos (weight ((n * b + i) / b))) b
    unfolding parts_of_symbol
    symbol_weight_at n =
        let q = modulation f in
        let b = bits_per_symbol q in
        let p : 0 < b = bits_above_zero q ok in
        let parts = parts_of_symbol f n in
        weighed_entries _ (weight n) parts
        ∙ constant_entries (pos (weight n)) parts
        ∙ rw (symbol_bits (λ (p : Part). first (λ i. pos (weight n)) p.bits) (λ p. length_first _ p.bits) q _ _ _)
        (first_cong _ _ b (λ i h. rw (mul-add-div_right p n i, div-eq_of_lt h, add-zero) refl))

    weight_at : (i : ℕ) → i < symbol_count f * bits_per_symbol (modulation f) → (at : Located xs (sent_at (modulation f) i)) → weight (symbol_of_bit f i) ≡ at.weight
    unfolding frame_weighed in_symbol
    weight_at i h at =
        let q = modulation f in
        let b = bits_per_symbol q in
        let p : 0 < b = bits_above_zero q ok in
        let k = sent_at q i in
        let inside : k < symbol_count f * b = rw word_length_lem at (order.to_below i (rw word_length_lem h)) in
        let entries : flat_map (λ (x : Weighed). first (λ i. pos x.weight) x.part.bits) xs ≡ first (λ j. pos (weight (j / b))) (symbol_count f * b) =
        flat_map_joined _ _ (symbol_count f) ∙ joined_cong _ _ (symbol_count f) (λ n l. symbol_weight_at n) ∙ joined_first (λ j. pos (weight (j / b))) b (symbol_count f) in
        let here : k / b ≡ i / b = rw (mul-add-div_right p (i / b) _, div-eq_of_lt ((order_inverse q).to_below (i % b) (mod-lt i p)), add-zero) refl in
        let e : pos (weight (i / b)) ≡ pos at.weight = rw here at (sym (get_or_first (λ j. pos (weight (j / b))) _ k (pos 0) inside) ∙ rw entries at (at.entry (λ x i. pos x.weight))) in
        cc

    shown_with : (i : ℕ) → i < f.header.payload → (at : Located xs (sent_at (modulation f) i))
        → BitDifference (frame_places weight f) (sent_at (modulation f) i) (pos at.weight *ℤ cost_difference at.part at.bit) → BitShown weight w f (handed_out f) i
    unfolding handed_out soft_values probe_list cost_difference
    shown_with i h at words =
        let l : i < symbol_count f * bits_per_symbol (modulation f) = omega (arith, payload_fits) in
        let inside : i < word_length (frame_places weight f) = rw word_length_lem l in
        let entry = rw (softs_weighed weight w f same) at (at.entry (λ x i. softened f w (pos x.weight *ℤ cost_difference x.part i))) in
        record {
          one = words.one;
          zero = words.zero;
          one_least = least_with_rearranged (frame_places weight f) order (word_cost (frame_places weight f)) inside words.one_least;
          zero_least = least_with_rearranged (frame_places weight f) order (word_cost (frame_places weight f)) inside words.zero_least;
          soft = get_or-take f.header.payload _ i (pos 0) h ∙ get_or-rearranged (sent_at (modulation f)) (pos 0) _ i (rw (frame_softs f) l) ∙ rw (entry, words.difference) refl;
          probe_one = least_with at.part at.bit 1;
          probe_zero = least_with at.part at.bit 0;
          probe_for_one = rw (parts_of_frame weight f) at (at.probe 1 (lit< tt));
          probe_for_zero = rw (parts_of_frame weight f) at (at.probe 0 (lit< tt));
          same_difference = rw (weight_at i l at) (sym words.difference);
        }

    bit_shown : (i : ℕ) → i < f.header.payload → BitShown weight w f (handed_out f) i
    bit_shown i h =
        let k = sent_at (modulation f) i in
        let below : k < word_length (words_of xs) = rw (words_of_frame weight f) (order.to_below i (omega (arith, payload_fits, word_length_lem))) in
        let at : Located xs k = located xs shown k below in
        shown_with i h at (rw (words_of_frame weight f) at (words_at shown at))

    costs_shown : CostsShown weight w f (handed_out f) (length (probe_list f))
    unfolding handed_out hard_bits
    costs_shown =
        record {
          hard = refl;
          nearest_is_candidate = nearest_candidate;
          none_beats = none_beats_lem;
          soft_length = soft_length_lem;
          each_bit = bit_shown;
          indices = refl;
          costs = refl;
          count_is_length = sym (length-map (probe_list f) (λ q. q.index));
          count_by_symbols = probe_count f;
        }

-- demand 3, of every frame whose modulation is in range, and which has no weights where its kind is plain
pub demand3_holds : (f : Frame) → ModulationInRange (modulation f) → (is_weighted f.header.kind ≡ false → (n : ℕ) → symbol_weight f n ≡ f.header.weight)
    → Demand3 f (handed_out f) (length (probe_list f))
demand3_holds f ok one =
    record {
      weighted = costs_shown f ok (symbol_weight f) 1 (λ n. sym (mul-one (symbol_weight f n)));
      plain = λ e. costs_shown f ok once f.header.weight (λ n. one e n ∙ sym (one-mul f.header.weight));
    }

-- of every frame that the frame call accepts
pub frame_meets_demand3 : (limits : Limits) (f : Frame) (lent : Buffers) → frame_verdict limits f lent ≡ Passed
    → Demand3 f (handed_out f) (length (probe_list f))
frame_meets_demand3 limits f lent e =
    let a : FrameAccepted limits f lent = frame_accepted e in
    demand3_holds f a.modulation_in.bits_ok (one_weight f (weights_counted a))
