-- `write_samples` meets its contract: for each modulation, the lists that its axes or its phase write are the samples of the message.
-- Assumes nothing.
use mathlib.Core.Path.{◌≡◌, refl, sym, ap, subst, ◌∙◌}
use mathlib.Core.Bool.{Bool, true, false}
use mathlib.Core.List.{List, ◌++◌}
use Prim.Native.Nat.{ℕ, ◌+◌, ◌*◌, ◌≤◌}
use native.Mathlib.Nat.{add-zero, zero-add, add_assoc, mul-one, one-mul, zero-mul}
use native.Mathlib.Omega.{arith}
use lib.IntN.{ℤ, pos, ◌*ℤ◌}
use lib.ListN.{length, get_or, take, drop}
use Rattle.arithmetic.specs.Lists.{first, over}
use Rattle.std.proofs.Common.{take-append-drop}
use Rattle.std.proofs.lemmas.List.{length-take, length-take-le}
use Rattle.arithmetic.proofs.Lists.{length_first, first_cong, take_first, drop_first, over_start, over_nothing}
use Rattle.constellation.specs.declared.Modulation.{Modulation}
use Rattle.constellation.specs.declared.Modulation.TheVariants.{Pam, Qam, Psk, Cellular}
use Rattle.constellation.specs.Ranges.{max_symbol_bits}
use Rattle.constellation.specs.Gray.{complement, index_of_label}
use Rattle.constellation.specs.Levels.{level}
use Rattle.constellation.specs.Psk.{psk_point}
use Rattle.constellation.specs.Schemes.{bits_per_symbol, label_place, has_quadrature, quadrature_length, sample_i, sample_q, ModulationInRange}
use Rattle.frame.specs.Limits.{full_limits}
use Rattle.frame.specs.Mapping.{Message, message_symbols, symbol_label, mapped_i, mapped_q}
use Rattle.points.specs.declared.label.LabelLayout.{LabelLayout}
use Rattle.points.specs.LabelWithin.{turned_bit, label_within}
use Rattle.points.proofs.LabelWithin.{within_turned}
use Rattle.map_checks.specs.declared.message.CheckedMessage.{CheckedMessage}
use Rattle.map_checks.specs.Checked.{IsMessage}
use Rattle.map_call.specs.SamplesWritten.{Mappable, axis_sample, phase_point, SamplesWritten}
use Rattle.constellation.proofs.Schemes.{bits_few, by_columns_at}
use Rattle.frame.proofs.Order.{MessageAccepted, message_accepted}
use Rattle.frame.proofs.Writing.{length-mapped_i, length-mapped_q}
use Rattle.map_call.proofs.write_samples.Goals as goal

-- symbol n of a message, label by label, and what an axis writes of it
abbrev labels_of : Message → Modulation → (stride n : ℕ) → List ℕ
labels_of m q stride n = first (λ k. get_or m.bits (n * stride + label_place q k) 0) stride

abbrev axis_samples : Message → (stride symbols b skip apart : ℕ) → Bool → List ℤ
axis_samples m stride symbols b skip apart turned = first (λ n. pos m.gain *ℤ level b (index_of_label (label_within m.bits (n * stride + skip) apart turned b))) symbols

-- what is known of a message that passes its checks, of the modulation, the bits and the number of symbols that the code has of it
record Known (m : Message) (lent_i lent_q : List ℤ) (q : Modulation) (stride symbols second : ℕ) : Type 0 where
  ok : ModulationInRange q
  width : stride ≡ bits_per_symbol q
  counted : symbols ≡ message_symbols m
  few : symbols ≤ full_limits.symbols
  fits_i : symbols ≤ length lent_i
  fits_q : second ≤ length lent_q
  counted_q : second ≡ quadrature_length q symbols
  samples_i : mapped_i m ≡ first (λ n. sample_i q m.gain (labels_of m q stride n)) symbols
  samples_q : mapped_q m ≡ first (λ n. sample_q q m.gain (labels_of m q stride n)) (quadrature_length q symbols)

-- the same of any message with these numbers, whichever of them passed the checks
known : {m passed : Message} {lent_i lent_q : List ℤ} {checked : CheckedMessage} → MessageAccepted full_limits passed lent_i lent_q → IsMessage passed checked → IsMessage m checked
    → (let s = checked.setup in Known m lent_i lent_q s.modulation (bits_per_symbol s.modulation) s.symbols (quadrature_length s.modulation s.symbols))
unfolding mapped_i mapped_q message_symbols symbol_label
known {m} a was is =
    record {
      ok = rw was.setup a.modulation.bits_ok;
      width = refl;
      counted = rw is.setup refl;
      few = rw was.setup a.modulation.symbols_few;
      fits_i = rw was.setup (rw length-mapped_i at a.fits_i);
      fits_q = rw was.setup (rw length-mapped_q at a.fits_q);
      counted_q = refl;
      samples_i = rw is.setup refl;
      samples_q = rw is.setup refl;
    }

-- the label of an axis is read from so many bits, so far behind the symbol's first one and so far apart
abbrev Laid : LabelLayout → (b skip apart : ℕ) → Bool → Type 0
Laid l b skip apart turned = (l.bits ≡ b) × (l.skip ≡ skip) × (l.apart ≡ apart) × (l.turned ≡ turned)

-- what an axis needs
axis_needs : {m : Message} {lent_i lent_q : List ℤ} {q : Modulation} {stride symbols second : ℕ} → Known m lent_i lent_q q stride symbols second
    → (l : LabelLayout) {b skip apart : ℕ} {turned : Bool} → Laid l b skip apart turned → skip + b * apart ≤ max_symbol_bits + 1
    → (n : ℕ) (room : List ℤ) → n ≤ symbols
    → (l.skip + l.bits * l.apart ≤ max_symbol_bits + 1) × (stride ≤ max_symbol_bits) × (length (take n room) ≤ full_limits.symbols)
axis_needs {q} k l laid inside n room few =
    (rw (laid.0, laid.1, laid.2) inside, rw k.width (bits_few q k.ok), omega (arith, length-take n room, k.few))

-- a list in place of the start of a buffer
over_start_of : (d : List ℤ) (f : ℕ → ℤ) (n : ℕ) {s : List ℤ} {symbols : ℕ} → n ≡ symbols → n ≤ length d → s ≡ first f (length (take n d))
    → s ++ drop n d ≡ over d 0 (first f symbols)
over_start_of d f n same h e = rw (e, length-take-le n d h, over_start, ← same, length_first) refl

-- what an axis writes
same_sample : (m : Message) (stride n : ℕ) {b c skip to apart by : ℕ} {turned t : Bool} → b ≡ c → skip ≡ to → apart ≡ by → turned ≡ t
    → pos m.gain *ℤ level b (index_of_label (label_within m.bits (n * stride + skip) apart turned b))
    ≡ pos m.gain *ℤ level c (index_of_label (label_within m.bits (n * stride + to) by t c))
same_sample m stride n d e f g = rw (d, e, f, g) refl

axis_written : (m : Message) {checked : CheckedMessage} → IsMessage m checked → (l : LabelLayout) {b skip apart : ℕ} {turned : Bool} → Laid l b skip apart turned
    → (symbols n : ℕ) (d : List ℤ) {s : List ℤ} → n ≡ symbols → n ≤ length d → s ≡ first (axis_sample checked l) (length (take n d))
    → s ++ drop n d ≡ over d 0 (axis_samples m (bits_per_symbol checked.setup.modulation) symbols b skip apart turned)
axis_written m {checked} is l laid symbols n d e h w =
    over_start_of d (axis_sample checked l) n e h w
    ∙ ap (over d 0) (first_cong _ _ symbols (λ k _. rw (is.gain, is.bits) (same_sample m (bits_per_symbol checked.setup.modulation) k laid.0 laid.1 laid.2 laid.3)))

-- so what is written is the message's samples
module _ {m : Message} {lent_i lent_q out_i : List ℤ} {stride symbols second : ℕ} where
  pam_written : {b : ℕ} → Known m lent_i lent_q (Pam b) stride symbols second → out_i ≡ over lent_i 0 (axis_samples m stride symbols b 0 1 false)
      → SamplesWritten m lent_i lent_q out_i lent_q symbols
  unfolding turned_bit bits_per_symbol label_place sample_i has_quadrature quadrature_length first
  pam_written {b} k e =
      record {
        in_phase = e ∙ ap (over lent_i 0) (first_cong _ _ symbols (λ n h. rw k.width (simp (add-zero, mul-one))) ∙ sym k.samples_i);
        quadrature = sym (over_nothing lent_q 0) ∙ ap (over lent_q 0) (sym k.samples_q);
        counted = k.counted;
      }

  qam_written : {out_q : List ℤ} {b_i b_q : ℕ} → Known m lent_i lent_q (Qam b_i b_q) stride symbols second
      → out_i ≡ over lent_i 0 (axis_samples m stride symbols b_i 0 1 false) → out_q ≡ over lent_q 0 (axis_samples m stride symbols b_q b_i 1 false)
      → SamplesWritten m lent_i lent_q out_i out_q symbols
  unfolding turned_bit bits_per_symbol label_place sample_i sample_q has_quadrature quadrature_length
  qam_written {b_i} {b_q} k i q =
      let h : b_i ≤ b_i + b_q = omega arith in
      record {
        in_phase = i ∙ ap (over lent_i 0) (first_cong _ _ symbols (λ n l. rw (k.width, take_first) (simp (add-zero, mul-one))) ∙ sym k.samples_i);
        quadrature = q ∙ ap (over lent_q 0) (first_cong _ _ symbols (λ n l. rw (k.width, drop_first) (simp (add_assoc, mul-one))) ∙ sym k.samples_q);
        counted = k.counted;
      }

  psk_written : {out_q : List ℤ} {b : ℕ} → Known m lent_i lent_q (Psk b) stride symbols second
      → out_i ≡ over lent_i 0 (first (λ n. (psk_point b (index_of_label (label_within m.bits (n * b) 1 false b))).u) symbols)
      → out_q ≡ over lent_q 0 (first (λ n. (psk_point b (index_of_label (label_within m.bits (n * b) 1 false b))).v) symbols)
      → SamplesWritten m lent_i lent_q out_i out_q symbols
  unfolding turned_bit bits_per_symbol label_place sample_i sample_q has_quadrature quadrature_length
  psk_written {b} k i q =
      let same : (n : ℕ) → label_within m.bits (n * b) 1 false b ≡ labels_of m (Psk b) stride n = λ n. rw k.width (simp mul-one) in
      record {
        in_phase = i ∙ ap (over lent_i 0) (first_cong _ _ symbols (λ n l. rw (same n)) ∙ sym k.samples_i);
        quadrature = q ∙ ap (over lent_q 0) (first_cong _ _ symbols (λ n l. rw (same n)) ∙ sym k.samples_q);
        counted = k.counted;
      }

  -- the labels of the two axes stand by turns
  cellular_written : {out_q : List ℤ} {b : ℕ} → Known m lent_i lent_q (Cellular b) stride symbols second
      → out_i ≡ over lent_i 0 (axis_samples m stride symbols b 0 2 true) → out_q ≡ over lent_q 0 (axis_samples m stride symbols b 1 2 true)
      → SamplesWritten m lent_i lent_q out_i out_q symbols
  unfolding turned_bit bits_per_symbol label_place sample_i sample_q has_quadrature quadrature_length
  cellular_written {b} k i q =
      let twice : stride ≡ b + b = omega (arith, k.width) in
      let even : (n : ℕ) → label_within m.bits (n * stride + 0) 2 true b ≡ complement (take b (labels_of m (Cellular b) stride n)) = λ n.
      rw (within_turned m.bits (n * stride + 0) 2 b, take_first _ b stride (omega arith))
      (ap complement (first_cong _ _ b (λ i h. ap (λ j. get_or m.bits j 0) (omega (arith, rw (zero-mul, zero-add) at (by_columns_at b 2 0 i h)))))) in
      let odd : (n : ℕ) → label_within m.bits (n * stride + 1) 2 true b ≡ complement (drop b (labels_of m (Cellular b) stride n)) = λ n.
      rw (within_turned m.bits (n * stride + 1) 2 b, twice, drop_first _ b b)
      (ap complement (first_cong _ _ b (λ i h. ap (λ j. get_or m.bits j 0) (omega (arith, rw one-mul at (by_columns_at b 2 1 i h)))))) in
      record {
        in_phase = i ∙ ap (over lent_i 0) (first_cong _ _ symbols (λ n l. rw (even n)) ∙ sym k.samples_i);
        quadrature = q ∙ ap (over lent_q 0) (first_cong _ _ symbols (λ n l. rw (odd n)) ∙ sym k.samples_q);
        counted = k.counted;
      }

-- ---- the code

-- a message as it is known here, the one that passed or another with the same numbers
of_message : {checked : CheckedMessage} (lent_i lent_q : List ℤ) {q : Modulation} {second : ℕ} → Mappable checked lent_i lent_q
    → (let s = checked.setup in second ≡ quadrature_length s.modulation s.symbols → s.modulation ≡ q → (m : Message) → IsMessage m checked
    → Known m lent_i lent_q q (bits_per_symbol s.modulation) s.symbols second)
of_message {checked} lent_i lent_q {second = second} (_, was, passed) e same m is =
    let s = checked.setup in
    subst (λ (q : Modulation). Known m lent_i lent_q q (bits_per_symbol s.modulation) s.symbols second) same
    (rw e (known (message_accepted full_limits _ _ _ passed) was is))

pub returns-in-Pam : goal.returns-in-Pam
unfolding has_quadrature quadrature_length
returns-in-Pam c m is =
    let k = of_message c.args.yi.now c.args.yq.now c.requires c.quadrature_length.ensures c.in-Pam.is m is in
    rw take-append-drop (pam_written k (axis_written m is c.in_row.result c.in_row.ensures _ _ _ refl k.fits_i c.write_axis.ensures))

pub returns-in-Qam : goal.returns-in-Qam
unfolding has_quadrature quadrature_length
returns-in-Qam c m is =
    let k = of_message c.args.yi.now c.args.yq.now c.requires c.quadrature_length.ensures c.in-Qam.is m is in
    qam_written
    k
    (axis_written m is c.in_row-in-Qam.result c.in_row-in-Qam.ensures _ _ _ refl k.fits_i c.write_axis-in-Qam.ensures)
    (axis_written m is c.in_row-in-Qam-2.result c.in_row-in-Qam-2.ensures _ _ _ k.counted_q k.fits_q c.write_axis-in-Qam-2.ensures)

pub returns-in-Psk : goal.returns-in-Psk
unfolding has_quadrature quadrature_length
returns-in-Psk c m is =
    let k = of_message c.args.yi.now c.args.yq.now c.requires c.quadrature_length.ensures c.in-Psk.is m is in
    psk_written
    k
    (over_start_of c.args.yi.now (λ n. (phase_point m.bits c.in-Psk.bits n).u) _ refl k.fits_i (rw is.bits at c.write_phase.ensures.in_phase))
    (over_start_of c.args.yq.now (λ n. (phase_point m.bits c.in-Psk.bits n).v) _ k.counted_q k.fits_q (rw is.bits at c.write_phase.ensures.quadrature))

pub returns-in-Cellular : goal.returns-in-Cellular
unfolding has_quadrature quadrature_length
returns-in-Cellular c m is =
    let k = of_message c.args.yi.now c.args.yq.now c.requires c.quadrature_length.ensures c.in-Cellular.is m is in
    cellular_written
    k
    (axis_written m is c.by_turns.result c.by_turns.ensures _ _ _ refl k.fits_i c.write_axis-in-Cellular.ensures)
    (axis_written m is c.by_turns-in-Cellular.result c.by_turns-in-Cellular.ensures _ _ _ k.counted_q k.fits_q c.write_axis-in-Cellular-2.ensures)

pub in_row-requires : goal.in_row-requires
in_row-requires c = (of_message c.args.yi.now c.args.yq.now c.requires c.quadrature_length.ensures c.in-Pam.is c.requires.0 c.requires.1).ok.1

pub write_axis-requires : goal.write_axis-requires
write_axis-requires c = let k = of_message c.args.yi.now c.args.yq.now c.requires c.quadrature_length.ensures c.in-Pam.is c.requires.0 c.requires.1 in axis_needs k c.in_row.result c.in_row.ensures (omega (arith, k.ok)) _ _ (omega arith)

pub in_row-requires-in-Qam : goal.in_row-requires-in-Qam
in_row-requires-in-Qam c = (of_message c.args.yi.now c.args.yq.now c.requires c.quadrature_length.ensures c.in-Qam.is c.requires.0 c.requires.1).ok.1

pub write_axis-requires-in-Qam : goal.write_axis-requires-in-Qam
write_axis-requires-in-Qam c = let k = of_message c.args.yi.now c.args.yq.now c.requires c.quadrature_length.ensures c.in-Qam.is c.requires.0 c.requires.1 in axis_needs k c.in_row-in-Qam.result c.in_row-in-Qam.ensures (omega (arith, k.ok)) _ _ (omega arith)

pub in_row-requires-in-Qam-2 : goal.in_row-requires-in-Qam-2
in_row-requires-in-Qam-2 c = (of_message c.args.yi.now c.args.yq.now c.requires c.quadrature_length.ensures c.in-Qam.is c.requires.0 c.requires.1).ok.3

pub write_axis-requires-in-Qam-2 : goal.write_axis-requires-in-Qam-2
unfolding has_quadrature quadrature_length
write_axis-requires-in-Qam-2 c =
    let k = of_message c.args.yi.now c.args.yq.now c.requires c.quadrature_length.ensures c.in-Qam.is c.requires.0 c.requires.1 in
    axis_needs k c.in_row-in-Qam-2.result c.in_row-in-Qam-2.ensures (omega (arith, k.ok)) _ _ (omega (arith, k.counted_q))

pub write_phase-requires : goal.write_phase-requires
unfolding has_quadrature quadrature_length
write_phase-requires c =
    let k = of_message c.args.yi.now c.args.yq.now c.requires c.quadrature_length.ensures c.in-Psk.is c.requires.0 c.requires.1 in
    (k.ok.0, k.ok.1, rw (length-take-le _ _ k.fits_i) k.few, rw (length-take-le _ _ k.fits_q, length-take-le _ _ k.fits_i) k.counted_q)

pub by_turns-requires : goal.by_turns-requires
by_turns-requires c = omega (arith, (of_message c.args.yi.now c.args.yq.now c.requires c.quadrature_length.ensures c.in-Cellular.is c.requires.0 c.requires.1).ok)

pub write_axis-requires-in-Cellular : goal.write_axis-requires-in-Cellular
write_axis-requires-in-Cellular c =
    let k = of_message c.args.yi.now c.args.yq.now c.requires c.quadrature_length.ensures c.in-Cellular.is c.requires.0 c.requires.1 in
    axis_needs k c.by_turns.result c.by_turns.ensures (omega (arith, k.ok)) _ _ (omega arith)

pub write_axis-requires-in-Cellular-2 : goal.write_axis-requires-in-Cellular-2
unfolding has_quadrature quadrature_length
write_axis-requires-in-Cellular-2 c =
    let k = of_message c.args.yi.now c.args.yq.now c.requires c.quadrature_length.ensures c.in-Cellular.is c.requires.0 c.requires.1 in
    axis_needs k c.by_turns-in-Cellular.result c.by_turns-in-Cellular.ensures (omega (arith, k.ok)) _ _ (omega (arith, k.counted_q))

-- before the number of quadrature samples is known
lengths : {checked : CheckedMessage} (lent_i lent_q : List ℤ) → Mappable checked lent_i lent_q
    → (checked.setup.symbols ≤ length lent_i) × (quadrature_length checked.setup.modulation checked.setup.symbols ≤ length lent_q)
lengths lent_i lent_q (_, was, passed) = let k = known (message_accepted full_limits _ _ _ passed) was was in (k.fits_i, k.fits_q)

pub slice_bounds-yi-end : goal.slice_bounds-yi-end
slice_bounds-yi-end c = (lengths c.args.yi.now c.args.yq.now c.requires).0

pub slice_bounds-yi-end-2 : goal.slice_bounds-yi-end-2
slice_bounds-yi-end-2 c = sym (length-take-le _ _ (lengths c.args.yi.now c.args.yq.now c.requires).0)

pub slice_bounds-yq-end : goal.slice_bounds-yq-end
slice_bounds-yq-end c = rw c.quadrature_length.ensures (lengths c.args.yi.now c.args.yq.now c.requires).1

pub slice_bounds-yq-end-2 : goal.slice_bounds-yq-end-2
slice_bounds-yq-end-2 c = sym (length-take-le _ _ (rw c.quadrature_length.ensures (lengths c.args.yi.now c.args.yq.now c.requires).1))
