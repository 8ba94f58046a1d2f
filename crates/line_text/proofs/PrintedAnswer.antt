-- Where there is room enough, the line call and the frame call accept the same: the line of an accepted frame is accepted, and answered by that
-- frame's text; and the frame of an accepted line is accepted. Assumes nothing.
use mathlib.Core.Path.{◌≡◌, refl, ◌∙◌}
use mathlib.Core.Bool.{Bool, true, false, cond}
use mathlib.Core.List.{List, [], ◌++◌}
use Prim.Native.Nat.{ℕ, zero, suc, ◌≤◌}
use native.Mathlib.Omega.{arith}
use lib.IntN.{ℤ}
use lib.ListN.{length}
use Rattle.arithmetic.specs.Lists.{joined}
use Rattle.arithmetic.specs.Tests.{all_below}
use Rattle.arithmetic.proofs.Tests.{tests-false}
use Rattle.hexadecimal.specs.Digits.{all_digits, digits_of}
use Rattle.hexadecimal.specs.TwosComplement.{signed_digits}
use Rattle.hexadecimal.proofs.Fields.{all_digits_append, digits_are_digits}
use Rattle.constellation.specs.Schemes.{has_quadrature}
use Rattle.demapper.specs.Reading.{Buffers}
use Rattle.frame.specs.declared.Header.{Header}
use Rattle.frame.specs.Verdicts.{Passed}
use Rattle.frame.specs.Limits.{full_limits}
use Rattle.frame.specs.Frame.{Frame, is_weighted, modulation, header_symbols, symbol_count}
use Rattle.frame.specs.Checks.{verdict_of}
use Rattle.frame.specs.FrameCall.{room_in, input_lengths_differ, outputs_too_short, header_checks, input_checks, frame_checks, frame_verdict}
use Rattle.frame.proofs.Checks.{verdict_nil, accepted_cons, accepted_append, kept-checks}
use Rattle.line_text.specs.Line.{line_header, digits_before, digits_by, symbol_at, line_length, line_frame}
use Rattle.line_text.specs.Printed.{header_text, text_by, symbol_of, printed_line, Printable}
use Rattle.line_text.specs.Answer.{frame_text, text_for}
use Rattle.line_text.specs.LineCall.{length_refused, text_checks, size_checks, frame_symbol_checks, line_checks, line_verdict, line_text}
use Rattle.line_text.specs.Within.{field_checks}
use Rattle.line_text.proofs.LineChecks.{header_accepted, line_by_symbols, accepted_header, line_inputs_same}
use Rattle.line_text.proofs.PrintedLine.{length_printed, header_printed, printed_frame, accepted_printable}

-- ---- every character of a printed line is a digit

-- one field more
digits_more : (front : List ℕ) (n v : ℕ) → all_digits front ≡ true → all_digits (front ++ digits_of n v) ≡ true
digits_more front n v h = all_digits_append front (digits_of n v) h (digits_are_digits n v)

header_all_digits : (h : Header) → all_digits (header_text h) ≡ true
unfolding header_text
header_all_digits h =
    let bits = digits_more _ 2 h.bits_q (digits_more _ 2 h.bits_i (digits_are_digits 2 h.kind)) in
    digits_more _ 4 h.limit (digits_more _ 2 h.shift (digits_more _ 4 h.weight (digits_more _ 4 h.payload bits)))

signed_all_digits : (n : ℕ) (z : ℤ) → all_digits (signed_digits n z) ≡ true
unfolding signed_digits
signed_all_digits n z = digits_are_digits n _

-- and one that is not always there
maybe_all_digits : (there : Bool) (field : List ℕ) → all_digits field ≡ true → all_digits (cond there field []) ≡ true
unfolding all_digits all_below
maybe_all_digits false field h = refl
maybe_all_digits true field h = h

symbol_all_digits : (weighted quadrature : Bool) (g w : ℕ) (y_i y_q : ℤ) → all_digits (text_by weighted quadrature g w y_i y_q) ≡ true
unfolding text_by
symbol_all_digits weighted quadrature g w y_i y_q =
    let front = all_digits_append _ _ (digits_are_digits 4 g) (maybe_all_digits weighted _ (digits_are_digits 4 w)) in
    all_digits_append _ _ (all_digits_append _ _ front (signed_all_digits 8 y_i)) (maybe_all_digits quadrature _ (signed_all_digits 8 y_q))

joined_all_digits : (f : ℕ → List ℕ) (n : ℕ) → ((i : ℕ) → all_digits (f i) ≡ true) → all_digits (joined f n) ≡ true
unfolding joined all_digits all_below
joined_all_digits f zero each = refl
joined_all_digits f (suc n) each = all_digits_append (joined f n) (f n) (joined_all_digits f n each) (each n)

printed_all_digits : (f : Frame) → all_digits (printed_line f) ≡ true
unfolding printed_line symbol_of
printed_all_digits f =
    all_digits_append (header_text f.header) _ (header_all_digits f.header)
    (joined_all_digits (symbol_of f) (symbol_count f) (λ i. symbol_all_digits (is_weighted f.header.kind) (has_quadrature (modulation f)) _ _ _ _))

-- ---- the checks of a line and of a frame, taken apart

-- a line of so many symbols has an accepted length
length_accepted : (weighted quadrature : Bool) (n : ℕ) → n ≤ full_limits.symbols → length_refused full_limits (symbol_at (digits_by weighted quadrature) n) ≡ false
unfolding length_refused digits_by digits_before
length_accepted false false n h = simp tests-false (omega arith)
length_accepted false true n h = simp tests-false (omega arith)
length_accepted true false n h = simp tests-false (omega arith)
length_accepted true true n h = simp tests-false (omega arith)

text_passes : (line : List ℕ) → length_refused full_limits (length line) ≡ false → all_digits line ≡ true → verdict_of (text_checks full_limits line) ≡ Passed
unfolding text_checks
text_passes line short digits = simp kept-checks (short, (digits, verdict_nil))

fields_pass : (line : List ℕ) (room : ℕ) → verdict_of (header_checks full_limits (line_header line)) ≡ Passed
    → length line ≡ line_length (line_header line) → length (frame_text full_limits (line_frame line)) ≤ room → verdict_of (field_checks full_limits line room) ≡ Passed
unfolding size_checks
fields_pass line room header size fits = simp kept-checks (header, (size, (fits, verdict_nil)))

accepted_symbols : (line : List ℕ) (room : ℕ) → line_verdict full_limits line room ≡ Passed → verdict_of (frame_symbol_checks (line_frame line)) ≡ Passed
unfolding line_verdict line_checks
accepted_symbols line room e =
    let (((text, header), size), symbols) = simp accepted_append at e in
    symbols

frame_passes : (f : Frame) (lent : Buffers)
    → verdict_of (header_checks full_limits f.header) ≡ Passed
    → input_lengths_differ f ≡ false
    → outputs_too_short f (room_in lent) ≡ false
    → verdict_of (frame_symbol_checks f) ≡ Passed
    → frame_verdict full_limits f lent ≡ Passed
unfolding frame_verdict frame_checks input_checks frame_symbol_checks
frame_passes f lent header same long symbols = simp (accepted_append, accepted_cons) (header, (same, (long, symbols)))

frame_passed : (f : Frame) (lent : Buffers) → frame_verdict full_limits f lent ≡ Passed
    → (verdict_of (header_checks full_limits f.header) ≡ Passed) × (verdict_of (frame_symbol_checks f) ≡ Passed)
unfolding frame_verdict frame_checks input_checks frame_symbol_checks
frame_passed f lent e =
    let (header, (same, (long, symbols))) = simp (accepted_append, accepted_cons) at e in
    (header, symbols)

-- ---- the two calls

printed_short : (f : Frame) → header_symbols f.header ≤ full_limits.symbols → length_refused full_limits (length (printed_line f)) ≡ false
unfolding line_length
printed_short f few = rw (length_printed f) (length_accepted (is_weighted f.header.kind) (has_quadrature (modulation f)) (header_symbols f.header) few)

-- the line of every frame that the frame call accepts is accepted
pub printed_accepted : (f : Frame) (lent : Buffers) (room : ℕ) → frame_verdict full_limits f lent ≡ Passed → length (frame_text full_limits f) ≤ room
    → line_verdict full_limits (printed_line f) room ≡ Passed
printed_accepted f lent room e fits =
    let printable : Printable f = accepted_printable f lent e in
    let header : line_header (printed_line f) ≡ f.header = header_printed f printable in
    let back : line_frame (printed_line f) ≡ f = printed_frame f printable in
    let (passes, symbols) = frame_passed f lent e in
    let short = printed_short f (header_accepted full_limits f.header passes).symbols_few in
    let text = text_passes (printed_line f) short (printed_all_digits f) in
    let fields = fields_pass (printed_line f) room (rw header passes) (rw header (length_printed f)) (rw back fits) in
    line_by_symbols full_limits (printed_line f) room text fields ∙ rw back symbols

-- and answered by that frame's text
pub printed_answer : (f : Frame) (lent : Buffers) → frame_verdict full_limits f lent ≡ Passed → line_text full_limits (printed_line f) ≡ frame_text full_limits f
unfolding line_text text_for
printed_answer f lent e =
    let back : line_frame (printed_line f) ≡ f = printed_frame f (accepted_printable f lent e) in
    rw (back, printed_accepted f lent (length (frame_text full_limits f)) e (omega arith))

-- the frame of every line that the line call accepts is accepted, if the buffers lent to it are long enough
pub accepted_frame : (line : List ℕ) (room : ℕ) (lent : Buffers) → line_verdict full_limits line room ≡ Passed
    → outputs_too_short (line_frame line) (room_in lent) ≡ false → frame_verdict full_limits (line_frame line) lent ≡ Passed
unfolding line_frame
accepted_frame line room lent e long =
    frame_passes (line_frame line) lent (accepted_header full_limits line room e) (line_inputs_same line) long (accepted_symbols line room e)
