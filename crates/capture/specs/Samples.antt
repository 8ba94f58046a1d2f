-- Converting a sample in binary32 to whole numbers (REQUIREMENTS, "Captures in binary32" and "Refusals"). Assumes nothing.
use Rattle.std.specs.Prelude.{◌≡◌, not, ℕ, ltb, ℤ, pos, get_or, Float, Result, Ok, Err}
use mathlib.Core.List.{List, [], ◌∷◌, flat_map}
use Rattle.std.specs.Float.Ieee.Scale.{finite}
use Rattle.frame.specs.declared.Refusal.{Refusal}
use Rattle.frame.specs.declared.Refusal.TheVariants.{NotFinite, RoundsOutOfRange, Scale}
use Rattle.frame.specs.Verdicts.{Verdict, Passed}
use Rattle.frame.specs.Refusals.{refusal_number}
use Rattle.frame.specs.Checks.{Check, check, check_at, verdict_of}
use Rattle.frame.specs.FrameCall.{sample_outside}
use Rattle.binary32.specs.Conversion.{max_scale, rounded, Rounds}
use Rattle.capture.specs.declared.Sample.{Sample}
use Rattle.capture.specs.declared.Sample.TheVariants.{Single, Pair}

-- ---- a coordinate

-- 12 and 13 of a coordinate of sample n
unfoldable pub coordinate_checks : ℕ → ℕ → Float → List Check
coordinate_checks F n x =
    check_at n (not (finite x)) NotFinite
    ∷ check_at n (sample_outside (rounded F x)) RoundsOutOfRange
    ∷ []

-- ---- a sample: one coordinate, or a pair

-- the in-phase coordinate stands first
unfoldable pub coordinates : Sample Float → List Float
coordinates (Single x) = x ∷ []
coordinates (Pair p) = p.in_phase ∷ p.quadrature ∷ []

-- the checks of all its coordinates
unfoldable pub sample_checks : ℕ → ℕ → Sample Float → List Check
sample_checks F n s = flat_map (coordinate_checks F n) (coordinates s)

-- the scale decides before the coordinates
unfoldable pub sample_verdict : ℕ → Sample Float → Verdict
sample_verdict F s = verdict_of (check (ltb max_scale F) Scale ∷ sample_checks F 0 s)

unfoldable pub sample_answer_for : Verdict → ℕ → Sample Float → Result (Sample ℤ) Refusal
sample_answer_for (Err fault) F s = Err fault.refusal
sample_answer_for Passed F (Single x) = Ok (Single (rounded F x))
sample_answer_for Passed F (Pair p) = Ok (Pair (record { in_phase = rounded F p.in_phase; quadrature = rounded F p.quadrature }))

unfoldable pub sample_answer : ℕ → Sample Float → Result (Sample ℤ) Refusal
sample_answer F s = sample_answer_for (sample_verdict F s) F s

-- the requirements' number and values for each answer
unfoldable pub sample_status : Result (Sample ℤ) Refusal → ℕ
sample_status (Err r) = refusal_number r
sample_status (Ok numbers) = 0

unfoldable pub sample_values : Result (Sample ℤ) Refusal → List ℤ
sample_values (Err r) = []
sample_values (Ok (Single y)) = y ∷ []
sample_values (Ok (Pair y)) = y.in_phase ∷ y.quadrature ∷ []

-- ---- the promise

-- the whole numbers are those of the sample's coordinates
unfoldable pub SampleRounds : ℕ → Sample Float → ℤ → ℤ → Type 0
SampleRounds F (Single x) y_i y_q = Rounds F x y_i
SampleRounds F (Pair p) y_i y_q = Rounds F p.in_phase y_i × Rounds F p.quadrature y_q

pub record SamplePromise (F : ℕ) (s : Sample Float) (answer : Result (Sample ℤ) Refusal) : Type 0 where
  pub answered : answer ≡ sample_answer F s
  pub served_rounds : sample_status answer ≡ 0 → SampleRounds F s (get_or (sample_values answer) 0 (pos 0)) (get_or (sample_values answer) 1 (pos 0))
