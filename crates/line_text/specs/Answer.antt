-- The text that answers a line (REQUIREMENTS, "Lines"): for an accepted one 00, the probe count (4) and each payload soft value (as many digits as the limits
-- say, two's complement); for a refused one its number (2). Assumes nothing.
use mathlib.Core.List.{List, ◌++◌, flat_map}
use Rattle.std.specs.Prelude.{ℕ, ℤ, length, Err}
use Rattle.hexadecimal.specs.Digits.{digits_of}
use Rattle.hexadecimal.specs.TwosComplement.{signed_digits}
use Rattle.frame.specs.declared.Refusal.{Refusal}
use Rattle.frame.specs.Verdicts.{Verdict, Passed}
use Rattle.frame.specs.declared.Limits.{Limits}
use Rattle.frame.specs.Refusals.{refusal_number}
use Rattle.frame.specs.Frame.{Frame, soft_values, probe_list}

-- the digits before the first soft value
abbrev pub softs_at : ℕ
softs_at = 6

-- with d digits a soft value
unfoldable pub accepted_text : ℕ → ℕ → List ℤ → List ℕ
accepted_text d count soft = digits_of 2 0 ++ digits_of 4 count ++ flat_map (signed_digits d) soft

-- the count and the soft values are the frame call's
unfoldable pub frame_text : Limits → Frame → List ℕ
frame_text limits f = accepted_text limits.digits (length (probe_list f)) (soft_values f)

unfoldable pub refused_text : Refusal → List ℕ
refused_text r = digits_of 2 (refusal_number r)

unfoldable pub text_for : Limits → Verdict → Frame → List ℕ
text_for limits Passed f = frame_text limits f
text_for limits (Err fault) f = refused_text fault.refusal
