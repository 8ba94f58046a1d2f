-- What the functions that convert answer and leave, here and in the crates capture_checks, capture_call and capture_out. Nobody has to believe this file to
-- read what the calls promise (specs/Samples, specs/Capture and specs/SoftOut). Assumes nothing.
use Rattle.std.specs.Prelude.{◌≡◌, true, false, List, ℕ, ◌<◌, ℤ, pos, length, get_or, Float, Option, Some, None, Result}
use Rattle.std.specs.Float.{nan}
use Rattle.arithmetic.specs.Lists.{over}
use Rattle.frame.specs.declared.Refusal.{Refusal}
use Rattle.frame.specs.Checks.{verdict_of}
use Rattle.binary32.specs.Conversion.{converts}
use Rattle.binary32.specs.SoftFloat.{Exactly}
use Rattle.capture.specs.declared.Sample.{Sample}
use Rattle.capture.specs.declared.CaptureFault.{CaptureFault}
use Rattle.capture.specs.Samples.{sample_checks, sample_answer_for}
use Rattle.capture.specs.Capture.{Recording, converted_i, converted_q, capture_sample_checks, capture_answer_for}
use Rattle.capture.specs.SoftOut.{converted_softs}

-- what a sample converts to, at a scale in its range: its coordinates decide
abbrev pub coordinates_answer : ℕ → Sample Float → Result (Sample ℤ) Refusal
coordinates_answer F s = sample_answer_for (verdict_of (sample_checks F 0 s)) F s

-- what a capture is answered that passes the checks before those of its samples
abbrev pub samples_answer : Recording → Result ℕ CaptureFault
samples_answer c = capture_answer_for (verdict_of (capture_sample_checks c)) c

abbrev pub AllConvert : ℕ → List Float → Type 0
AllConvert F xs = (i : ℕ) → i < length xs → converts F (get_or xs i nan) ≡ true

-- the first number that does not convert is number `at`
pub record RefusedAt (F : ℕ) (xs : List Float) (at : ℕ) : Type 0 where
  pub inside : at < length xs
  pub before : (i : ℕ) → i < at → converts F (get_or xs i nan) ≡ true
  pub refused : converts F (get_or xs at nan) ≡ false

-- the position of the first number that does not convert, or none where all do
abbrev pub FirstRefused : ℕ → List Float → Option ℕ → Type 0
FirstRefused F xs None = AllConvert F xs
FirstRefused F xs (Some at) = RefusedAt F xs at

-- the two sample buffers, before and after the writing of an accepted capture
pub record CaptureWritten (c : Recording) (lent_i lent_q out_i out_q : List ℤ) : Type 0 where
  pub written_i : out_i ≡ over lent_i 0 (converted_i c)
  pub written_q : out_q ≡ over lent_q 0 (converted_q c)

-- the buffer, before and after the writing of soft values at the scale f
pub record SoftsWritten (f : ℕ) (vs : List ℤ) (lent out : List Float) : Type 0 where
  pub written : out ≡ over lent 0 (converted_softs f vs)
  pub exact : (i : ℕ) → i < length vs → Exactly f (get_or vs i (pos 0)) (get_or out i nan)
