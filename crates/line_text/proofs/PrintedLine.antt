-- A frame written as a line is read back as the same frame, and a line that is read is written with the same digits. Assumes nothing.
use mathlib.Core.Path.{◌≡◌, refl, sym, ap, ◌∙◌}
use mathlib.Core.Bool.{Bool, true, false, cond}
use mathlib.Core.List.{List, [], ◌++◌, append-nil, append_assoc}
use Prim.Native.Nat.{ℕ, zero, suc, ◌+◌, ◌-◌, ◌^◌, ◌≤◌, ◌<◌}
use native.Mathlib.Nat.{add-zero, mul-le-mul, mul-le-mul_right}
use native.Mathlib.Decide.{dec_lt}
use native.Mathlib.Omega.{arith}
use lib.IntN.{ℤ, pos, nat_abs}
use lib.ListN.{length, get_or, take, length-append, get_or-eq_default}
use lib.Seq.{take_all, take-add}
use Rattle.std.proofs.lemmas.List.{get_or_default}
use Rattle.arithmetic.specs.Lists.{first, joined}
use Rattle.arithmetic.proofs.Lists.{get_or_first, first_cong, first_get_or, length_joined, joined_append}
use Rattle.arithmetic.proofs.Tests.{tests-false}
use Rattle.hexadecimal.specs.Digits.{all_digits, number_at, digits_of}
use Rattle.hexadecimal.specs.TwosComplement.{signed_at, signed_digits, Representable}
use Rattle.hexadecimal.proofs.Fields.{length_digits, printed_number, parsed_number}
use Rattle.hexadecimal.proofs.Signs.{printed_signed, parsed_signed}
use Rattle.constellation.specs.declared.Modulation.{Modulation}
use Rattle.constellation.specs.Ranges.{max_sample}
use Rattle.constellation.specs.Schemes.{bits_per_symbol, has_quadrature, quadrature_length}
use Rattle.demapper.specs.Reading.{Buffers}
use Rattle.frame.specs.declared.Header.{Header}
use Rattle.frame.specs.Verdicts.{Passed}
use Rattle.frame.specs.Limits.{full_limits}
use Rattle.frame.specs.Frame.{Frame, is_weighted, plain_kind, modulation, header_modulation, header_symbols, symbol_count, header_weights}
use Rattle.frame.specs.Checks.{max_kind, bits_outside}
use Rattle.frame.specs.FrameCall.{input_lengths_differ, frame_verdict}
use Rattle.constellation.proofs.Schemes.{bits_few, bits_above_zero, quadrature_few}
use Rattle.frame.proofs.Order.{FrameAccepted, frame_accepted, header_weight_few}
use Rattle.frame.proofs.Parts.{symbols_enough}
use Rattle.line_text.specs.Line.{header_digits, line_header, digits_before, digits_by, symbol_digits, header_symbol_digits, symbol_at, gain_at, weight_at, in_phase_at, quadrature_at, line_length, line_frame}
use Rattle.line_text.specs.Printed.{header_text, text_by, symbol_of, printed_line, PrintableHeader, Printable}
use Rattle.line_text.proofs.AnswerText.{size_representable}
use Rattle.line_text.proofs.LineChecks.{is_there}

-- ---- a field that stands somewhere in a text

number_read : {text : List ℕ} (before after : List ℕ) (n v at : ℕ) → text ≡ before ++ digits_of n v ++ after → length before ≡ at → v < 16 ^ n
    → number_at text at n ≡ v
number_read before after n v at e place h = rw (e, ← place) (printed_number before after n v h)

signed_read : {text : List ℕ} (before after : List ℕ) (n : ℕ) (z : ℤ) (at : ℕ) → text ≡ before ++ signed_digits n z ++ after → length before ≡ at
    → Representable n z → signed_at text at n ≡ z
signed_read before after n z at e place h = rw (e, ← place) (printed_signed before after n z h)

length-signed : (n : ℕ) (z : ℤ) → length (signed_digits n z) ≡ n
unfolding signed_digits
length-signed n z = length_digits n _

-- `simp lengths` computes the length of fields that stand one after the other
ruleset lengths = (length-append, length_digits, length-signed)

-- ---- the header, printed and read

length_header : (h : Header) → length (header_text h) ≡ header_digits
unfolding header_text
length_header h = simp lengths

header_read : (h : Header) (rest : List ℕ) → PrintableHeader h → line_header (header_text h ++ rest) ≡ h
unfolding line_header header_text
header_read h rest fits =
    let k : List ℕ = digits_of 2 h.kind in
    let i : List ℕ = digits_of 2 h.bits_i in
    let q : List ℕ = digits_of 2 h.bits_q in
    let p : List ℕ = digits_of 4 h.payload in
    let w : List ℕ = digits_of 4 h.weight in
    let s : List ℕ = digits_of 2 h.shift in
    let t : List ℕ = digits_of 4 h.limit in
    let text : List ℕ = k ++ i ++ q ++ p ++ w ++ s ++ t ++ rest in
    let kind = number_read {text = text} [] (i ++ q ++ p ++ w ++ s ++ t ++ rest) 2 h.kind 0 (simp append_assoc) refl fits.kind in
    let bits_i = number_read {text = text} k (q ++ p ++ w ++ s ++ t ++ rest) 2 h.bits_i 2 (simp append_assoc) (simp lengths) fits.bits_i in
    let bits_q = number_read {text = text} (k ++ i) (p ++ w ++ s ++ t ++ rest) 2 h.bits_q 4 (simp append_assoc) (simp lengths) fits.bits_q in
    let payload = number_read {text = text} (k ++ i ++ q) (w ++ s ++ t ++ rest) 4 h.payload 6 (simp append_assoc) (simp lengths) fits.payload in
    let weight = number_read {text = text} (k ++ i ++ q ++ p) (s ++ t ++ rest) 4 h.weight 10 (simp append_assoc) (simp lengths) fits.weight in
    let shift = number_read {text = text} (k ++ i ++ q ++ p ++ w) (t ++ rest) 2 h.shift 14 (simp append_assoc) (simp lengths) fits.shift in
    let limit = number_read {text = text} (k ++ i ++ q ++ p ++ w ++ s) rest 4 h.limit 16 refl (simp lengths) fits.limit in
    rw (kind, bits_i, bits_q, payload, weight, shift, limit)

-- ---- a symbol, printed and read

-- a field that is not always there
length_maybe : (there : Bool) (field : List ℕ) → length (cond there field []) ≡ cond there (length field) 0
length_maybe false field = refl
length_maybe true field = refl

length_symbol : (weighted quadrature : Bool) (g w : ℕ) (y_i y_q : ℤ) → length (text_by weighted quadrature g w y_i y_q) ≡ digits_by weighted quadrature
unfolding text_by digits_by digits_before
length_symbol weighted quadrature g w y_i y_q = simp (lengths, length_maybe) (omega arith)

module _ (before after : List ℕ) (weighted quadrature : Bool) (g w : ℕ) (y_i y_q : ℤ) (at : ℕ) {text : List ℕ} (place : length before ≡ at)
    (e : text ≡ before ++ text_by weighted quadrature g w y_i y_q ++ after) where
  abbrev weight_text : List ℕ
  weight_text = cond weighted (digits_of 4 w) []

  abbrev quadrature_text : List ℕ
  quadrature_text = cond quadrature (signed_digits 8 y_q) []

  gain_read : g < 16 ^ 4 → number_at text at 4 ≡ g
  unfolding text_by
  gain_read h = number_read before (weight_text ++ signed_digits 8 y_i ++ quadrature_text ++ after) 4 g at (e ∙ simp append_assoc) place h

  weight_read : weighted ≡ true → w < 16 ^ 4 → number_at text (at + 4) 4 ≡ w
  unfolding text_by
  weight_read t h =
      number_read (before ++ digits_of 4 g) (signed_digits 8 y_i ++ quadrature_text ++ after) 4 w (at + 4) (e ∙ rw t (simp append_assoc)) (simp (lengths, place)) h

  in_phase_read : Representable 8 y_i → signed_at text (at + digits_before weighted) 8 ≡ y_i
  unfolding text_by digits_before
  in_phase_read h =
      signed_read (before ++ digits_of 4 g ++ weight_text) (quadrature_text ++ after) 8 y_i _ (e ∙ simp append_assoc) (simp (lengths, length_maybe, place) (omega arith)) h

  quadrature_read : quadrature ≡ true → Representable 8 y_q → signed_at text (at + (digits_before weighted + 8)) 8 ≡ y_q
  unfolding text_by digits_before
  quadrature_read t h =
      signed_read (before ++ digits_of 4 g ++ weight_text ++ signed_digits 8 y_i) after 8 y_q _ (e ∙ rw t (simp append_assoc))
      (simp (lengths, length_maybe, place) (omega arith)) h

-- ---- a line cut at a symbol

joined_cut : {A : Type 0} (f : ℕ → List A) (n i : ℕ) → i < n → joined f n ≡ joined f i ++ f i ++ joined (λ k. f (suc i + k)) (n - suc i)
unfolding joined
joined_cut f n i h =
    let e : n ≡ suc i + (n - suc i) = omega arith in
    ap (joined f) e ∙ joined_append f (suc i) (n - suc i)

-- the text up to symbol i, and that behind it
text_before : Frame → ℕ → List ℕ
text_before f i = header_text f.header ++ joined (symbol_of f) i

text_behind : Frame → ℕ → List ℕ
text_behind f i = joined (λ k. symbol_of f (suc i + k)) (symbol_count f - suc i)

printed_cut : (f : Frame) (i : ℕ) → i < symbol_count f → printed_line f ≡ text_before f i ++ symbol_of f i ++ text_behind f i
unfolding printed_line text_before text_behind
printed_cut f i h = rw (joined_cut (symbol_of f) (symbol_count f) i h) (simp append_assoc)

length_before : (f : Frame) (i : ℕ) → length (text_before f i) ≡ symbol_at (header_symbol_digits f.header) i
unfolding text_before symbol_of
length_before f i =
    simp (length-append, length_header, length_joined (symbol_of f) (header_symbol_digits f.header) i (λ k l. length_symbol (is_weighted f.header.kind) (has_quadrature (modulation f)) _ _ _ _))

-- the line is as long as its header calls for
pub length_printed : (f : Frame) → length (printed_line f) ≡ line_length f.header
unfolding printed_line text_before line_length symbol_count
length_printed f = length_before f (symbol_count f)

module _ (f : Frame) (h : Printable f) where
  abbrev width : ℕ
  width = header_symbol_digits f.header

  -- symbol i of the line
  module _ (i : ℕ) (l : i < symbol_count f) where
    gain_printed : gain_at width (printed_line f) i ≡ get_or f.gains i 0
    unfolding gain_at symbol_of
    gain_printed = gain_read (text_before f i) (text_behind f i) _ _ _ _ _ _ (symbol_at width i) (length_before f i) (printed_cut f i l) (h.gain_fits i)

    weight_printed : is_weighted f.header.kind ≡ true → weight_at width (printed_line f) i ≡ get_or f.weights i 0
    unfolding weight_at symbol_of
    weight_printed t = weight_read (text_before f i) (text_behind f i) _ _ _ _ _ _ (symbol_at width i) (length_before f i) (printed_cut f i l) t (h.weight_fits i)

    in_phase_printed : in_phase_at (is_weighted f.header.kind) width (printed_line f) i ≡ get_or f.y_i i (pos 0)
    unfolding in_phase_at symbol_of
    in_phase_printed = in_phase_read (text_before f i) (text_behind f i) _ _ _ _ _ _ (symbol_at width i) (length_before f i) (printed_cut f i l) (h.in_phase_fits i)

    quadrature_printed : has_quadrature (modulation f) ≡ true → quadrature_at (is_weighted f.header.kind) width (printed_line f) i ≡ get_or f.y_q i (pos 0)
    unfolding quadrature_at symbol_of
    quadrature_printed t =
        quadrature_read (text_before f i) (text_behind f i) _ _ _ _ _ _ (symbol_at width i) (length_before f i) (printed_cut f i l) t (h.quadrature_fits i)

pub header_printed : (f : Frame) → Printable f → line_header (printed_line f) ≡ f.header
unfolding printed_line
header_printed f h = header_read f.header _ h.header

-- a list of so many entries, each of which is read
list_read : {A : Type 0} (l : List A) (d : A) (read : ℕ → A) (n : ℕ) → length l ≡ n → ((i : ℕ) → i < n → read i ≡ get_or l i d) → first read n ≡ l
list_read l d read n e each = first_cong read (λ i. get_or l i d) n each ∙ rw (← e) (first_get_or l d)

-- printed, then parsed
pub printed_frame : (f : Frame) → Printable f → line_frame (printed_line f) ≡ f
unfolding line_frame symbol_count header_weights quadrature_length
printed_frame f h =
    let d : ℕ = header_symbol_digits f.header in
    let weighted : Bool = is_weighted f.header.kind in
    let n : ℕ = symbol_count f in
    let header : line_header (printed_line f) ≡ f.header = header_printed f h in
    let gains = list_read f.gains 0 (gain_at d (printed_line f)) _ h.gains (gain_printed f h) in
    let weights = list_read f.weights 0 (weight_at d (printed_line f)) _ h.weights (λ i l. let (t, k) = is_there weighted n i l in weight_printed f h i k t) in
    let in_phase = list_read f.y_i (pos 0) (in_phase_at weighted d (printed_line f)) _ h.in_phase (in_phase_printed f h) in
    let quadrature =
    list_read f.y_q (pos 0) (quadrature_at weighted d (printed_line f)) _ h.quadrature
    (λ i l. let (t, k) = is_there (has_quadrature (modulation f)) n i l in quadrature_printed f h i k t) in
    rw (header, gains, weights, in_phase, quadrature)

-- ---- a line read and printed

module _ (line : List ℕ) (digits : all_digits line ≡ true) where
  -- one field more behind the first characters
  number_on : {front : List ℕ} (at n : ℕ) → front ≡ take at line → at + n ≤ length line
      → front ++ digits_of n (number_at line at n) ≡ take (at + n) line
  number_on at n e h = rw (e, parsed_number line at n digits h) (sym (take-add at n line))

  signed_on : {front : List ℕ} (at n : ℕ) → front ≡ take at line → at + n ≤ length line
      → front ++ signed_digits n (signed_at line at n) ≡ take (at + n) line
  signed_on at n e h = rw (e, parsed_signed line at n digits h) (sym (take-add at n line))

  header_on : header_digits ≤ length line → header_text (line_header line) ≡ take header_digits line
  unfolding header_text line_header
  header_on h =
      let kind : digits_of 2 (number_at line 0 2) ≡ take 2 line = number_on {front = []} 0 2 refl (omega arith) in
      let bits = number_on 4 2 (number_on 2 2 kind (omega arith)) (omega arith) in
      number_on 16 4 (number_on 14 2 (number_on 10 4 (number_on 6 4 bits (omega arith)) (omega arith)) (omega arith)) h

  -- and one that is not always there
  maybe_on : (there : Bool) (at n : ℕ) {front : List ℕ} (field : List ℕ) → front ≡ take at line → (there ≡ true → front ++ field ≡ take (at + n) line)
      → front ++ cond there field [] ≡ take (at + cond there n 0) line
  maybe_on false at n field e h = rw (append-nil, add-zero) e
  maybe_on true at n field e h = h refl

  take_same : {k j : ℕ} → k ≡ j → take k line ≡ take j line
  take_same e = rw e refl

  -- symbol i of n
  symbol_on : (weighted quadrature : Bool) (d n i : ℕ) → d ≡ digits_by weighted quadrature → i < n → symbol_at d i + d ≤ length line
      → take (symbol_at d i) line
      ++ text_by weighted quadrature (gain_at d line i) (get_or (first (weight_at d line) (cond weighted n 0)) i 0) (in_phase_at weighted d line i)
      (get_or (first (quadrature_at weighted d line) (cond quadrature n 0)) i (pos 0))
      ≡ take (symbol_at d i + d) line
  unfolding text_by digits_by digits_before gain_at weight_at in_phase_at quadrature_at
  symbol_on weighted quadrature d n i e l h =
      let at : ℕ = symbol_at d i in
      let before : ℕ = 4 + cond weighted 4 0 in
      let w : ℕ = get_or (first (weight_at d line) (cond weighted n 0)) i 0 in
      let y_q : ℤ = get_or (first (quadrature_at weighted d line) (cond quadrature n 0)) i (pos 0) in
      let gain = number_on at 4 refl (omega arith) in
      let weight = maybe_on weighted (at + 4) 4 (digits_of 4 w) gain
      (λ t. rw (t, get_or_first (weight_at d line) n i 0 l) (number_on (at + 4) 4 gain (omega (arith, rw t at e)))) in
      let in_phase = signed_on (at + before) 8 (weight ∙ take_same (omega arith)) (omega arith) ∙ take_same {j = at + (before + 8)} (omega arith) in
      let both = maybe_on quadrature (at + (before + 8)) 8 (signed_digits 8 y_q) in_phase
      (λ t. rw (t, get_or_first (quadrature_at weighted d line) n i (pos 0) l) (signed_on (at + (before + 8)) 8 in_phase (omega (arith, rw t at e)))) in
      simp append_assoc (simp append_assoc at both ∙ take_same (omega (arith, e)))

-- the line up to symbol i
symbols_on : (line : List ℕ) → all_digits line ≡ true → length line ≡ line_length (line_header line) → (i : ℕ) → i ≤ header_symbols (line_header line)
    → header_text (line_header line) ++ joined (symbol_of (line_frame line)) i
    ≡ take (symbol_at (header_symbol_digits (line_header line)) i) line
unfolding joined symbol_of line_frame line_length header_weights quadrature_length
symbols_on line digits size zero h =
    let d : ℕ = header_symbol_digits (line_header line) in
    let e : symbol_at d 0 ≡ header_digits = omega arith in
    rw (append-nil, e) (header_on line digits (omega arith))
symbols_on line digits size (suc i) h =
    let weighted : Bool = is_weighted (line_header line).kind in
    let q : Modulation = header_modulation (line_header line) in
    let n : ℕ = header_symbols (line_header line) in
    let d : ℕ = symbol_digits weighted q in
    let inside : symbol_at d i + d ≤ length line = omega (arith, mul-le-mul_right d h) in
    let next : symbol_at d i + d ≡ symbol_at d (suc i) = omega arith in
    rw (← append_assoc, symbols_on line digits size i (omega arith), get_or_first (gain_at d line) n i 0 h, get_or_first (in_phase_at weighted d line) n i (pos 0) h)
    (symbol_on line digits weighted (has_quadrature q) d n i refl h inside ∙ ap (λ (k : ℕ). take k line) next)

-- parsed, then printed
pub parsed_line : (line : List ℕ) → all_digits line ≡ true → length line ≡ line_length (line_header line) → printed_line (line_frame line) ≡ line
unfolding printed_line line_frame line_length symbol_count
parsed_line line digits size =
    let n : ℕ = header_symbols (line_header line) in
    let end : ℕ = symbol_at (header_symbol_digits (line_header line)) n in
    symbols_on line digits size n (omega arith) ∙ take_all end line (omega arith)

-- ---- an accepted frame

-- the bit counts have room in their fields
bits_fit : (kind m_i m_q : ℕ) → bits_outside kind m_i m_q ≡ false → (m_i < 16 ^ 2) × (m_q < 16 ^ 2)
unfolding bits_outside
bits_fit zero m_i m_q = simp tests-false (omega arith)
bits_fit (suc zero) m_i m_q = simp tests-false (omega arith)
bits_fit (suc (suc zero)) m_i m_q = simp tests-false (omega arith)
bits_fit (suc (suc (suc n))) m_i m_q = simp tests-false (omega arith)

-- and so has the kind, which is known, or is one of those with 80 hexadecimal added
kind_fits : (kind : ℕ) → plain_kind kind ≤ max_kind → kind < 16 ^ 2
unfolding plain_kind
kind_fits kind = go (is_weighted kind)
  where
    go : (b : Bool) → cond b (kind - 128) kind ≤ 3 → kind < 16 ^ 2
    go true h = omega arith
    go false h = omega arith

header_printable : (f : Frame) (lent : Buffers) → FrameAccepted full_limits f lent → PrintableHeader f.header
header_printable f lent a =
    let m = a.modulation_in in
    let b : ℕ = bits_per_symbol (modulation f) in
    let enough = symbols_enough b f.header.payload (bits_above_zero (modulation f) m.bits_ok) in
    let (bits_i, bits_q) = bits_fit _ _ _ m.bits_in in
    record {
      kind = kind_fits _ m.kind_known;
      bits_i = bits_i;
      bits_q = bits_q;
      payload = omega (arith, enough, mul-le-mul m.symbols_few (bits_few (modulation f) m.bits_ok));
      weight = omega (arith, header_weight_few a.weight_in);
      shift = omega (arith, a.shift_in);
      limit = omega (arith, a.limit_in);
    }

-- what holds of the entries of a list, and of what stands for an entry that is not there, holds at each number
each_entry : {A : Type 0} (P : A → Type 0) (l : List A) (d e : A) → P d → ((i : ℕ) → i < length l → P (get_or l i e)) → (i : ℕ) → P (get_or l i d)
each_entry P l d e none each i = go (dec_lt i (length l))
  where
    go : Dec (i < length l) → P (get_or l i d)
    go (yes h) = rw (get_or_default l i d e h) (each i h)
    go (no h) = rw (get_or-eq_default l d {n = i} (omega arith)) none

-- samples have room in 8 digits
samples_fit : (l : List ℤ) (n : ℕ) → length l ≤ n → ((i : ℕ) → i < n → nat_abs (get_or l i (pos 0)) ≤ max_sample) → (i : ℕ)
    → Representable 8 (get_or l i (pos 0))
samples_fit l n few small =
    each_entry (Representable 8) l (pos 0) (pos 0) (size_representable 8 (pos 0) (omega arith))
    (λ i h. size_representable 8 _ (omega (arith, small i (omega arith))))

-- every frame that the frame call accepts can be written as a line
pub accepted_printable : (f : Frame) (lent : Buffers) → frame_verdict full_limits f lent ≡ Passed → Printable f
unfolding input_lengths_differ symbol_count header_weights
accepted_printable f lent e =
    let a : FrameAccepted full_limits f lent = frame_accepted e in
    let n : ℕ = symbol_count f in
    let (((gains, weights), in_phase), quadrature) = simp tests-false at a.inputs_same in
    record {
      header = header_printable f lent a;
      gains = gains;
      weights = weights;
      in_phase = in_phase;
      quadrature = quadrature;
      gain_fits = each_entry (λ g. g < 16 ^ 4) f.gains 0 0 (omega arith) (λ i h. omega (arith, a.gain_in i (omega arith)));
      weight_fits = each_entry (λ w. w < 16 ^ 4) f.weights 0 1 (omega arith)
          (λ i h. omega (arith, a.symbol_weight_in i (is_there (is_weighted f.header.kind) n i (rw weights at h)).1));
      in_phase_fits = samples_fit f.y_i n (omega arith) (λ i h. (a.sample_in i h).0);
      quadrature_fits = samples_fit f.y_q n (omega (arith, quadrature_few (modulation f) n)) (λ i h. (a.sample_in i h).1);
    }
