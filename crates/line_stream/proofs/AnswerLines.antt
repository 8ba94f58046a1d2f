-- The answer to a line that is too long, and the lengths of answer lines. Assumes nothing.
use Rattle.std.specs.Prelude.{Err, Option, Some, None}
use mathlib.Core.Path.{◌≡◌, refl, ap}
use mathlib.Core.Bool.{true}
use mathlib.Core.List.{List}
use Prim.Native.Nat.{ℕ, ◌*◌, ◌<◌, ◌≤◌}
use native.Mathlib.Nat.{le_trans, mul-le-mul}
use native.Mathlib.Omega.{arith}
use lib.Ieee.Bits.{is_true}
use lib.ListN.{length, length-append}
use Rattle.arithmetic.proofs.Tests.{passed}
use Rattle.hexadecimal.proofs.Fields.{length_digits}
use Rattle.constellation.specs.Schemes.{bits_per_symbol}
use Rattle.frame.specs.declared.Header.{Header}
use Rattle.frame.specs.declared.Refusal.{Refusal}
use Rattle.frame.specs.declared.Refusal.TheVariants.{LineLength}
use Rattle.frame.specs.Verdicts.{Verdict, Passed}
use Rattle.frame.specs.Limits.{full_limits}
use Rattle.constellation.specs.Ranges.{max_symbol_bits}
use Rattle.frame.specs.Frame.{header_modulation}
use Rattle.frame.specs.Checks.{verdict_of}
use Rattle.frame.specs.FrameCall.{header_checks}
use Rattle.constellation.proofs.Schemes.{bits_above_zero, bits_few}
use Rattle.frame.proofs.Checks.{verdict_broken}
use Rattle.frame.proofs.Parts.{symbols_enough}
use Rattle.line_text.specs.Line.{line_header, line_frame}
use Rattle.line_text.specs.Answer.{frame_text, refused_text, text_for}
use Rattle.line_text.specs.LineCall.{length_refused, text_checks, line_checks, line_verdict, line_text}
use Rattle.line_text.proofs.LineChecks.{header_accepted, line_text_length, accepted_header}
use Rattle.line_cut.specs.declared.Found.{Found}
use Rattle.line_cut.specs.declared.Found.TheVariants.{InPiece, InBuffer, TooLong}
use Rattle.line_cut.specs.Cut.{HandedBack}
use Rattle.line_stream.specs.FoundInside.{FoundInside}
use Rattle.line_stream.specs.Stream.{answer_line}
use Rattle.line_stream.specs.Feeding.{max_answer_line}

-- a line that is too long is answered by its refusal
too_long_refused : (n : ℕ) → full_limits.line < n → length_refused full_limits n ≡ true
unfolding length_refused
too_long_refused n h = is_true _ (simp passed (omega arith))

pub too_long_text : (line : List ℕ) → full_limits.line < length line → line_text full_limits line ≡ refused_text LineLength
unfolding line_text line_verdict line_checks text_checks text_for
too_long_text line h =
    ap (λ (v : Verdict). text_for full_limits v (line_frame line)) (verdict_broken _ _ (too_long_refused (length line) h))

-- the text of a refusal, and that of a line whose header passes its checks
pub refused_short : (r : Refusal) → length (refused_text r) ≡ 2
unfolding refused_text
refused_short r = length_digits 2 _

payload_few : (h : Header) → verdict_of (header_checks full_limits h) ≡ Passed → h.payload ≤ full_limits.symbols * max_symbol_bits
payload_few h e =
    let q = header_modulation h in
    let ok = header_accepted full_limits h e in
    let few = mul-le-mul ok.symbols_few (bits_few q ok.bits_ok) in
    le_trans (symbols_enough (bits_per_symbol q) h.payload (bits_above_zero q ok.bits_ok)) few

pub accepted_short : (line : List ℕ) → verdict_of (header_checks full_limits (line_header line)) ≡ Passed
    → length (frame_text full_limits (line_frame line)) < max_answer_line
accepted_short line e = omega (arith, line_text_length full_limits line e, payload_few (line_header line) e)

text_short : (line : List ℕ) (room : ℕ) (v : Verdict) → line_verdict full_limits line room ≡ v → length (text_for full_limits v (line_frame line)) < max_answer_line
unfolding text_for
text_short line room Passed e = accepted_short line (accepted_header full_limits line room e)
text_short line room (Err fault) e = omega (arith, refused_short fault.refusal)

line_text_short : (line : List ℕ) → length (line_text full_limits line) < max_answer_line
unfolding line_text
line_text_short line = text_short line _ _ refl

pub answer_line_short : (line : List ℕ) → length (answer_line line) ≤ max_answer_line
unfolding answer_line
answer_line_short line = simp length-append (omega (arith, line_text_short line))

-- what is handed back lies inside
pub handed_inside : (piece buffer : List ℕ) (found : Option Found) (lines : List (List ℕ)) → HandedBack piece buffer found lines
    → FoundInside piece buffer found
handed_inside piece buffer None lines back = omega arith
handed_inside piece buffer (Some (InPiece end)) lines back = back.0
handed_inside piece buffer (Some (InBuffer n)) lines back = back.0
handed_inside piece buffer (Some TooLong) lines back = omega arith
