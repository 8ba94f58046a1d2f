-- What the checks of a line that come before those of its symbols say: the header's limits, the length and the room; and that the symbols then
-- decide, for the line as for the frame that it stands for. Assumes nothing.
use mathlib.Core.Path.{◌≡◌, refl, ◌∙◌}
use mathlib.Core.Bool.{Bool, true, false, cond}
use mathlib.Core.List.{List, ◌++◌, append_assoc}
use Prim.Native.Nat.{ℕ, ◌+◌, ◌*◌, ◌≤◌, ◌<◌}
use native.Mathlib.Nat.{le_trans}
use native.Mathlib.Omega.{arith}
use lib.ListN.{length}
use Rattle.arithmetic.proofs.Lists.{length_first}
use Rattle.arithmetic.proofs.Tests.{tests-false}
use Rattle.hexadecimal.specs.Digits.{all_digits}
use Rattle.constellation.specs.declared.Modulation.{Modulation}
use Rattle.constellation.specs.Schemes.{has_quadrature}
use Rattle.frame.specs.declared.Header.{Header}
use Rattle.frame.specs.declared.Refusal.{Refusal}
use Rattle.frame.specs.Verdicts.{Passed, Failed}
use Rattle.demapper.specs.Soft.{max_shift}
use Rattle.frame.specs.declared.Limits.{Limits}
use Rattle.frame.specs.Limits.{full_limits}
use Rattle.frame.specs.Frame.{plain_kind, header_symbols, header_weights, symbol_count}
use Rattle.frame.specs.Checks.{verdict_of}
use Rattle.frame.specs.FrameCall.{input_lengths_differ, header_checks}
use Rattle.frame.proofs.Checks.{verdict_append, verdict_front, accepted_append, kept-checks, ModulationAccepted, modulation_accepted}
use Rattle.frame.proofs.Order.{HeaderWeightIn, weight_kept}
use Rattle.line_text.specs.Line.{header_digits, line_header, digits_before, digits_by, symbol_digits, line_length, line_frame}
use Rattle.line_text.specs.Answer.{frame_text}
use Rattle.line_text.specs.LineCall.{length_refused, text_checks, size_checks, frame_symbol_checks, line_checks, line_verdict}
use Rattle.line_text.specs.Within.{Servable, field_checks}
use Rattle.line_text.proofs.AnswerText.{frame_text_length}

-- the digits of a symbol
pub digits_before_few : (weighted : Bool) → digits_before weighted ≤ 8
unfolding digits_before
digits_before_few false = omega arith
digits_before_few true = omega arith

digits_few : (weighted quadrature : Bool) → digits_by weighted quadrature ≤ 24
unfolding digits_by
digits_few weighted false = omega (arith, digits_before_few weighted)
digits_few weighted true = omega (arith, digits_before_few weighted)

pub symbol_digits_few : (weighted : Bool) (q : Modulation) → symbol_digits weighted q ≤ 24
symbol_digits_few weighted q = digits_few weighted (has_quadrature q)

-- what each symbol has, or none: with symbol i there is one
pub is_there : (there : Bool) (n i : ℕ) → i < cond there n 0 → (there ≡ true) × (i < n)
is_there false n i h = absurd (omega arith)
is_there true n i h = (refl, h)

-- the frame has the weights of its kind, and a gain and a sample for each symbol
pub line_weights_counted : (line : List ℕ) → length (line_frame line).weights ≡ header_weights (line_header line)
unfolding line_frame
line_weights_counted line = length_first _ _

pub line_inputs_same : (line : List ℕ) → input_lengths_differ (line_frame line) ≡ false
unfolding input_lengths_differ line_frame symbol_count
line_inputs_same line = simp (tests-false, length_first) (((refl, refl), refl), refl)

-- a line of digits that has a header
pub record LineOfDigits (line : List ℕ) : Type 0 where
  pub digits : all_digits line ≡ true
  pub header_there : header_digits ≤ length line

-- a line that passes all checks but those of its symbols, with so much room for the answer
pub record LineReady (limits : Limits) (line : List ℕ) (room : ℕ) : Type 0 where
  pub text : LineOfDigits line
  pub header_passes : verdict_of (header_checks limits (line_header line)) ≡ Passed
  pub size : length line ≡ line_length (line_header line)
  pub fits : 6 + (line_header line).payload * limits.digits ≤ room

module _ (limits : Limits) where
  pub line_of_digits : (line : List ℕ) → verdict_of (text_checks limits line) ≡ Passed → LineOfDigits line
  unfolding text_checks length_refused
  line_of_digits line e =
      let ((odd, (low, high)), (digits, end)) = simp kept-checks at e in
      record { digits = digits; header_there = low }

  -- a header that passes its checks
  pub header_accepted : (h : Header) → verdict_of (header_checks limits h) ≡ Passed
      → ModulationAccepted limits (plain_kind h.kind) h.bits_i h.bits_q h.payload
  unfolding header_checks
  header_accepted h e = modulation_accepted limits _ _ _ _ ((accepted_append _ _).0 e).0

  pub header_scaled : (h : Header) → verdict_of (header_checks limits h) ≡ Passed → HeaderWeightIn h × (h.shift ≤ max_shift) × (h.limit ≤ limits.soft)
  unfolding header_checks
  header_scaled h e = let (shared, (w, (s, (t, end)))) = simp kept-checks at e in (weight_kept h w, s, t.1)

  -- and the length of the text that answers a line of such a header
  pub line_text_length : (line : List ℕ) → verdict_of (header_checks limits (line_header line)) ≡ Passed
      → length (frame_text limits (line_frame line)) ≡ 6 + (line_header line).payload * limits.digits
  unfolding line_frame
  line_text_length line e = frame_text_length limits (line_frame line) (header_accepted (line_header line) e).bits_ok

  pub line_ready : (line : List ℕ) (room : ℕ) → verdict_of (text_checks limits line) ≡ Passed → verdict_of (field_checks limits line room) ≡ Passed
      → LineReady limits line room
  unfolding size_checks
  line_ready line room text fields =
      let (header, (size, (fits, end))) = simp kept-checks at fields in
      record { text = line_of_digits line text; header_passes = header; size = size; fits = rw (line_text_length line header) at fits }

  -- its symbols are no more than the lists have room for
  pub ready_symbols : {line : List ℕ} {room : ℕ} → Servable limits → LineReady limits line room → header_symbols (line_header line) ≤ full_limits.symbols
  ready_symbols {line} served r = le_trans (header_accepted (line_header line) r.header_passes).symbols_few served.symbols

  -- the verdict of a line: of its characters, of its fields, or of its symbols
  line_checks_lem : (line : List ℕ) (room : ℕ)
      → line_verdict limits line room ≡ verdict_of (text_checks limits line ++ field_checks limits line room ++ frame_symbol_checks (line_frame line))
  unfolding line_verdict line_checks
  line_checks_lem line room = rw (append_assoc (text_checks limits line) (header_checks limits (line_header line)) (size_checks limits line room))

  pub refused_by_text : (line : List ℕ) (room : ℕ) {r : Refusal} {n : ℕ} → verdict_of (text_checks limits line) ≡ Failed r n
      → line_verdict limits line room ≡ Failed r n
  refused_by_text line room e = line_checks_lem line room ∙ verdict_front _ _ (verdict_front (text_checks limits line) _ e)

  pub refused_by_fields : (line : List ℕ) (room : ℕ) {r : Refusal} {n : ℕ} → verdict_of (text_checks limits line) ≡ Passed
      → verdict_of (field_checks limits line room) ≡ Failed r n → line_verdict limits line room ≡ Failed r n
  refused_by_fields line room text e = line_checks_lem line room ∙ verdict_front _ _ (verdict_append (text_checks limits line) _ text ∙ e)

  pub line_by_symbols : (line : List ℕ) (room : ℕ) → verdict_of (text_checks limits line) ≡ Passed → verdict_of (field_checks limits line room) ≡ Passed
      → line_verdict limits line room ≡ verdict_of (frame_symbol_checks (line_frame line))
  line_by_symbols line room text fields = line_checks_lem line room ∙ verdict_append _ _ (verdict_append (text_checks limits line) _ text ∙ fields)

  -- an accepted line's header passes its checks
  pub accepted_header : (line : List ℕ) (room : ℕ) → line_verdict limits line room ≡ Passed
      → verdict_of (header_checks limits (line_header line)) ≡ Passed
  unfolding line_verdict line_checks
  accepted_header line room e =
      let (((text, header), size), symbols) = simp accepted_append at e in
      header
