-- Demand 2, mapping: noise-free samples of an accepted message are an accepted frame, and read at the gain that they were made with they
-- become the message's bits again, padding gone. Assumes nothing.
use mathlib.Core.Path.{◌≡◌, refl, sym, ap, ◌∙◌}
use mathlib.Core.Bool.{true, false}
use mathlib.Core.List.{List}
use Prim.Native.Nat.{ℕ, ◌*◌, ◌≤◌, ◌<◌}
use native.Mathlib.Omega.{arith}
use lib.IntN.{ℤ, pos}
use lib.ListN.{length, get_or, take}
use Rattle.arithmetic.specs.Lists.{first, joined}
use Rattle.arithmetic.proofs.Lists.{length_first, get_or_first, first_cong, take_first, joined_cong, joined_first, first_get_or, flat_map_joined}
use Rattle.arithmetic.proofs.Tests.{tests-false}
use Rattle.constellation.specs.Gray.{AllBits, Label}
use Rattle.constellation.specs.Parts.{part_hard}
use Rattle.constellation.specs.Schemes.{bits_per_symbol, label_place, sample_i, sample_q, ModulationInRange}
use Rattle.demapper.specs.Soft.{max_weight, max_shift, max_limit}
use Rattle.demapper.specs.Reading.{Buffers}
use Rattle.frame.specs.Limits.{full_limits}
use Rattle.frame.specs.Sent.{sent_at, label_at, rearranged, as_sent}
use Rattle.frame.specs.Frame.{modulation, symbol_count, header_weights, parts_of_symbol, frame_parts, nearest_labels, nearest_word, hard_bits}
use Rattle.frame.specs.Verdicts.{Passed, Failed}
use Rattle.frame.specs.declared.Refusal.TheVariants.{OutputTooShort}
use Rattle.frame.specs.Checks.{max_kind, verdict_of}
use Rattle.frame.specs.FrameCall.{room_in, weight_check, weight_check_by, outputs_too_short, input_lengths_differ, symbol_checks, header_checks, input_checks, frame_checks, frame_verdict}
use Rattle.frame.specs.Mapping.{Message, message_modulation, message_symbols, symbol_label, mapped_i, mapped_q, map_verdict, read_back}
use Rattle.frame.proofs.Order.{MessageAccepted, message_accepted}
use Rattle.constellation.proofs.Schemes.{bits_above_zero, order_inverse, sample_size, quadrature_entry, symbol_read_back}
use Rattle.frame.proofs.Checks.{known_plain, verdict_append, verdict_kept, verdict_broken, verdict_nil, accepted_joined, kept-checks}
use Rattle.frame.proofs.Parts.{symbols_enough}
use Rattle.frame.proofs.Writing.{label_at_lem, length-mapped_i, length-mapped_q}
use Rattle.frame.proofs.Sent.{in_symbol_at, inverse_symbols}

-- ---- the message

pub symbol_label_lem : (m : Message) → AllBits m.bits → (n : ℕ) → Label (bits_per_symbol (message_modulation m)) (symbol_label m n)
unfolding symbol_label
symbol_label_lem m all n = label_at_lem m.bits all _ (bits_per_symbol (message_modulation m))

-- the labels, one after the other, are the bits with their padding, label by label; so in the order sent they begin with the bits
module _ (m : Message) (h : 0 < bits_per_symbol (message_modulation m)) where
  labels_placed : joined (symbol_label m) (message_symbols m)
      ≡ first (λ i. get_or m.bits (label_at (message_modulation m) i) 0) (message_symbols m * bits_per_symbol (message_modulation m))
  unfolding symbol_label
  labels_placed =
      let q = message_modulation m in
      let b = bits_per_symbol q in
      joined_cong _ _ (message_symbols m)
      (λ n l. first_cong _ _ b (λ k c. ap (λ i. get_or m.bits i 0) (sym (in_symbol_at b (label_place q) n k c))))
      ∙ joined_first (λ i. get_or m.bits (label_at q i) 0) b (message_symbols m)

  labels_begin : take (length m.bits) (as_sent (message_modulation m) 0 (joined (symbol_label m) (message_symbols m))) ≡ m.bits
  unfolding rearranged message_symbols
  labels_begin =
      let q = message_modulation m in
      let b = bits_per_symbol q in
      let n = message_symbols m in
      let order = inverse_symbols n h (order_inverse q) in
      let all : ℕ → ℕ = λ i. get_or m.bits (label_at q i) 0 in
      let each : (i : ℕ) → i < n * b → get_or (first all (n * b)) (sent_at q i) 0 ≡ get_or m.bits i 0 =
      λ i l. get_or_first all (n * b) (sent_at q i) 0 (order.to_below i l) ∙ ap (λ j. get_or m.bits j 0) (order.back_to i l) in
      rw (labels_placed, length_first all (n * b), first_cong _ _ (n * b) each, take_first (λ i. get_or m.bits i 0) (length m.bits) (n * b) (symbols_enough b (length m.bits) h))
      (first_get_or m.bits 0)

-- ---- the frame

-- the gain and the sample of symbol n
module _ (m : Message) (n : ℕ) (h : n < message_symbols m) where
  gain_at_lem : get_or (first (λ n. m.gain) (message_symbols m)) n 0 ≡ m.gain
  gain_at_lem = get_or_first (λ n. m.gain) (message_symbols m) n 0 h

  sample_i_at : get_or (mapped_i m) n (pos 0) ≡ sample_i (message_modulation m) m.gain (symbol_label m n)
  unfolding mapped_i
  sample_i_at = get_or_first (λ n. sample_i (message_modulation m) m.gain (symbol_label m n)) (message_symbols m) n (pos 0) h

  sample_q_at : get_or (mapped_q m) n (pos 0) ≡ sample_q (message_modulation m) m.gain (symbol_label m n)
  unfolding mapped_q
  sample_q_at = quadrature_entry (message_modulation m) m.gain (symbol_label m) (message_symbols m) n h

-- of a kind that is known: its frame has the modulation of the message, and as many symbols
module _ (m : Message) (known : m.kind ≤ max_kind) (w s T : ℕ) where
  modulation_read_back : modulation (read_back m w s T) ≡ message_modulation m
  unfolding read_back
  modulation_read_back = rw (known_plain m.kind known).1 refl

  count_read_back : symbol_count (read_back m w s T) ≡ message_symbols m
  unfolding symbol_count message_symbols read_back
  count_read_back = rw (known_plain m.kind known).1 refl

-- the labels of the nearest points are those of the message
nearest_labels_read_back : (m : Message) → m.kind ≤ max_kind → ModulationInRange (message_modulation m) → 0 < m.gain → AllBits m.bits → (w s T : ℕ)
    → nearest_labels (frame_parts (read_back m w s T)) ≡ joined (symbol_label m) (message_symbols m)
unfolding frame_parts parts_of_symbol nearest_labels read_back
nearest_labels_read_back m known ok h all w s T =
    rw (count_read_back m known w s T)
    (flat_map_joined part_hard (parts_of_symbol (read_back m w s T)) (message_symbols m)
    ∙ joined_cong _ _ (message_symbols m)
    (λ n l. rw (modulation_read_back m known w s T, gain_at_lem m n l, sample_i_at m n l, sample_q_at m n l) (symbol_read_back (message_modulation m) m.gain ok h (symbol_label_lem m all n))))

pub round_trip : (m : Message) (lent_i lent_q : List ℤ) → map_verdict full_limits m lent_i lent_q ≡ Passed → 0 < m.gain → (w s T : ℕ)
    → hard_bits (read_back m w s T) ≡ m.bits
unfolding hard_bits nearest_word read_back
round_trip m lent_i lent_q e h w s T =
    let a : MessageAccepted full_limits m lent_i lent_q = message_accepted full_limits m lent_i lent_q e in
    let ok : ModulationInRange (message_modulation m) = a.modulation.bits_ok in
    rw (modulation_read_back m a.modulation.kind_known w s T, nearest_labels_read_back m a.modulation.kind_known ok h a.bits w s T) (labels_begin m (bits_above_zero (message_modulation m) ok))

input_lengths_equal : (m : Message) → m.kind ≤ max_kind → (w s T : ℕ) → input_lengths_differ (read_back m w s T) ≡ false
unfolding input_lengths_differ header_weights message_symbols read_back
input_lengths_equal m known w s T =
    let plain = (known_plain m.kind known).0 in
    let counted = count_read_back m known w s T in
    simp tests-false (rw (counted, modulation_read_back m known w s T) (((length_first _ (message_symbols m), rw plain refl), length-mapped_i m), length-mapped_q m))

symbol_accepted : (m : Message) {lent_i lent_q : List ℤ} → MessageAccepted full_limits m lent_i lent_q → (w s T n : ℕ) → n < message_symbols m
    → verdict_of (symbol_checks (read_back m w s T).gains (read_back m w s T).weights (read_back m w s T).y_i (read_back m w s T).y_q n) ≡ Passed
unfolding symbol_checks read_back
symbol_accepted m a w s T n l =
    let size = sample_size (message_modulation m) m.gain a.modulation.bits_ok a.gain (symbol_label_lem m a.bits n) in
    simp kept-checks (rw (gain_at_lem m n l) a.gain, ((omega arith), ((rw (sample_i_at m n l) size.0, rw (sample_q_at m n l) size.1), verdict_nil)))

-- its header is accepted
mapped_header : (m : Message) {lent_i lent_q : List ℤ} → MessageAccepted full_limits m lent_i lent_q → (w s T : ℕ) → 1 ≤ w → w ≤ max_weight → s ≤ max_shift
    → 1 ≤ T → T ≤ max_limit → verdict_of (header_checks full_limits (read_back m w s T).header) ≡ Passed
unfolding header_checks read_back weight_check weight_check_by
mapped_header m a w s T w₁ w₂ s₁ t₁ t₂ =
    let known = known_plain m.kind a.modulation.kind_known in
    let weight : (weight_check (read_back m w s T).header).broken ≡ false = rw known.0 (simp tests-false (w₁, w₂)) in
    simp kept-checks (rw known.1 a.shared, (weight, (s₁, ((t₁, t₂), verdict_nil))))

-- so only a buffer can be refused
module _ (m : Message) (lent_i lent_q : List ℤ) (e : map_verdict full_limits m lent_i lent_q ≡ Passed) (w s T : ℕ) (w₁ : 1 ≤ w) (w₂ : w ≤ max_weight)
    (s₁ : s ≤ max_shift) (t₁ : 1 ≤ T) (t₂ : T ≤ max_limit) (lent : Buffers) where
  pub mapped_accepted : outputs_too_short (read_back m w s T) (room_in lent) ≡ false → frame_verdict full_limits (read_back m w s T) lent ≡ Passed
  unfolding frame_verdict frame_checks input_checks
  mapped_accepted short =
      let a : MessageAccepted full_limits m lent_i lent_q = message_accepted full_limits m lent_i lent_q e in
      let symbols = accepted_joined (symbol_checks (read_back m w s T).gains (read_back m w s T).weights (read_back m w s T).y_i (read_back m w s T).y_q) (message_symbols m) (symbol_accepted m a w s T) in
      let all = rw (← count_read_back m a.modulation.kind_known w s T) at symbols in
      simp kept-checks (mapped_header m a w s T w₁ w₂ s₁ t₁ t₂, (input_lengths_equal m a.modulation.kind_known w s T, (short, all)))

  pub mapped_too_long : outputs_too_short (read_back m w s T) (room_in lent) ≡ true
      → frame_verdict full_limits (read_back m w s T) lent ≡ Failed OutputTooShort 0
  unfolding frame_verdict frame_checks input_checks
  mapped_too_long short =
      let a : MessageAccepted full_limits m lent_i lent_q = message_accepted full_limits m lent_i lent_q e in
      verdict_append _ _ (mapped_header m a w s T w₁ w₂ s₁ t₁ t₂) ∙ verdict_kept _ _ (input_lengths_equal m a.modulation.kind_known w s T) ∙ verdict_broken _ _ short
