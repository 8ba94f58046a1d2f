-- Converting a whole capture: binary32 numbers in a row, one for a sample of PAM, else in-phase and quadrature by turns. Assumes nothing.
use Rattle.std.specs.Prelude.{◌≡◌, ◌≢◌, not, ◌||◌, List, ◌∷◌, ℕ, zero, suc, ◌+◌, ◌*◌, ◌-◌, ◌/◌, ◌%◌, ◌<◌, ltb, eqb, ℤ, pos, length, get_or, Float, Result, Ok, Err}
use Rattle.std.specs.Float.{nan}
use Rattle.arithmetic.specs.Lists.{first, joined, over}
use Rattle.frame.specs.declared.Refusal.TheVariants.{Kind, Scale, InputLength, OutputTooShort}
use Rattle.frame.specs.Frame.{plain_kind}
use Rattle.frame.specs.Verdicts.{Verdict, Passed}
use Rattle.frame.specs.Checks.{Check, check, max_kind, verdict_of}
use Rattle.binary32.specs.Conversion.{max_scale}
use Rattle.capture.specs.declared.Capture.{Capture}
use Rattle.capture.specs.declared.Sample.{Sample}
use Rattle.capture.specs.declared.Sample.TheVariants.{Single, Pair}
use Rattle.capture.specs.declared.CaptureFault.{CaptureFault}
use Rattle.capture.specs.Answers.{fault_at, conversion_status, conversion_count}
use Rattle.capture.specs.Samples.{sample_checks, sample_answer, sample_values, SampleRounds}

-- what is handed in: the kind number of its samples, the scale F, and the numbers
pub record Recording : Type 0 where
  pub kind : ℕ
  pub scale : ℕ
  pub numbers : List Float

-- a kind with 80 hexadecimal added is converted as the kind without it: weights say nothing of samples
abbrev pub recording_from : ℕ → ℕ → List Float → Recording
recording_from kind F xs = record { kind = plain_kind kind; scale = F; numbers = xs }

abbrev pub recorded : Capture → Recording
recorded c = recording_from c.kind c.scale c.numbers.now

-- by the kind number: one for PAM, two for every other kind
unfoldable pub numbers_per_sample : ℕ → ℕ
numbers_per_sample zero = 1
numbers_per_sample (suc k) = 2

unfoldable pub samples_in : Recording → ℕ
samples_in c = length c.numbers / numbers_per_sample c.kind

-- sample n
unfoldable pub sample_at : ℕ → List Float → ℕ → Sample Float
sample_at zero xs n = Single (get_or xs n nan)
sample_at (suc k) xs n = Pair (record { in_phase = get_or xs (n * 2) nan; quadrature = get_or xs (n * 2 + 1) nan })

-- whole number i of sample n: 0 in-phase, 1 quadrature
unfoldable pub whole_of : Recording → ℕ → ℕ → ℤ
whole_of c i n = get_or (sample_values (sample_answer c.scale (sample_at c.kind c.numbers n))) i (pos 0)

-- the lists for the two sample buffers; PAM has none for the second
unfoldable pub converted_i : Recording → List ℤ
converted_i c = first (whole_of c 0) (samples_in c)

unfoldable pub converted_q : Recording → List ℤ
converted_q c = first (whole_of c 1) (samples_in c * (numbers_per_sample c.kind - 1))

-- sample by sample 12 and 13
unfoldable pub capture_sample_checks : Recording → List Check
capture_sample_checks c = joined (λ n. sample_checks c.scale n (sample_at c.kind c.numbers n)) (samples_in c)

-- 14 first, then 4; 16: the numbers do not make whole samples; 15; then the samples
unfoldable pub capture_checks : Recording → ℕ → ℕ → List Check
capture_checks c room_i room_q =
    check (ltb max_scale c.scale) Scale
    ∷ check (ltb max_kind c.kind) Kind
    ∷ check (not (eqb (length c.numbers % numbers_per_sample c.kind) 0)) InputLength
    ∷ check (ltb room_i (length (converted_i c)) || ltb room_q (length (converted_q c))) OutputTooShort
    ∷ capture_sample_checks c

-- the answer: the refusal with the sample's number, or the number of samples
unfoldable pub capture_answer_for : Verdict → Recording → Result ℕ CaptureFault
capture_answer_for Passed c = Ok (samples_in c)
capture_answer_for (Err fault) c = Err (fault_at fault.refusal fault.symbol)

unfoldable pub capture_answer : Recording → ℕ → ℕ → Result ℕ CaptureFault
capture_answer c room_i room_q = capture_answer_for (verdict_of (capture_checks c room_i room_q)) c

-- the two sample buffers before the call and after it, and its answer
pub record CapturePromise (c : Recording) (lent_i lent_q out_i out_q : List ℤ) (answer : Result ℕ CaptureFault) : Type 0 where
  pub answered : answer ≡ capture_answer c (length lent_i) (length lent_q)
  pub refused_keeps : conversion_status answer ≢ 0 → (out_i ≡ lent_i) × (out_q ≡ lent_q)
  pub served_writes : conversion_status answer ≡ 0 → (out_i ≡ over lent_i 0 (converted_i c)) × (out_q ≡ over lent_q 0 (converted_q c))
  -- each whole number handed out is the nearest
  pub served_rounds : conversion_status answer ≡ 0 → (n : ℕ) → n < conversion_count answer
      → SampleRounds c.scale (sample_at c.kind c.numbers n) (get_or out_i n (pos 0)) (get_or out_q n (pos 0))
