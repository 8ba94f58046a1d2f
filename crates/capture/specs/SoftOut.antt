-- Handing soft values out in binary32 (REQUIREMENTS, "Captures in binary32"): a soft value times 2^(−f), exact. Assumes nothing.
use Rattle.std.specs.Prelude.{◌≡◌, ◌≢◌, List, [], ◌∷◌, ℕ, ◌<◌, ltb, ℤ, pos, length, get_or, Float, Result, Ok, Err}
use Rattle.std.specs.Float.{nan}
use Rattle.arithmetic.specs.Lists.{first, over}
use Rattle.frame.specs.declared.Refusal.{Refusal}
use Rattle.frame.specs.declared.Refusal.TheVariants.{Scale, OutputTooShort}
use Rattle.frame.specs.Verdicts.{Verdict, Passed}
use Rattle.frame.specs.Refusals.{refusal_number}
use Rattle.frame.specs.Checks.{Check, check, verdict_of}
use Rattle.binary32.specs.SoftFloat.{max_soft_scale, soft_float, Exactly}
use Rattle.capture.specs.declared.CaptureFault.{CaptureFault}
use Rattle.capture.specs.Answers.{fault_at, conversion_status, conversion_count}

-- ---- one soft value

unfoldable pub soft_answer_for : Verdict → ℕ → ℤ → Result Float Refusal
soft_answer_for Passed f v = Ok (soft_float f v)
soft_answer_for (Err fault) f v = Err fault.refusal

unfoldable pub soft_answer : ℕ → ℤ → Result Float Refusal
soft_answer f v = soft_answer_for (verdict_of (check (ltb max_soft_scale f) Scale ∷ [])) f v

-- the requirements' number and values for each answer
unfoldable pub soft_status : Result Float Refusal → ℕ
soft_status (Err r) = refusal_number r
soft_status (Ok x) = 0

unfoldable pub soft_floats : Result Float Refusal → List Float
soft_floats (Err r) = []
soft_floats (Ok x) = x ∷ []

pub record SoftPromise (f : ℕ) (v : ℤ) (answer : Result Float Refusal) : Type 0 where
  pub answered : answer ≡ soft_answer f v
  pub served_exact : soft_status answer ≡ 0 → Exactly f v (get_or (soft_floats answer) 0 nan)

-- ---- a buffer of soft values

-- 14, then 15
unfoldable pub softs_checks : ℕ → List ℤ → ℕ → List Check
softs_checks f vs room = check (ltb max_soft_scale f) Scale ∷ check (ltb room (length vs)) OutputTooShort ∷ []

unfoldable pub softs_answer_for : Verdict → List ℤ → Result ℕ CaptureFault
softs_answer_for Passed vs = Ok (length vs)
softs_answer_for (Err fault) vs = Err (fault_at fault.refusal fault.symbol)

unfoldable pub softs_answer : ℕ → List ℤ → ℕ → Result ℕ CaptureFault
softs_answer f vs room = softs_answer_for (verdict_of (softs_checks f vs room)) vs

-- the list for the buffer
unfoldable pub converted_softs : ℕ → List ℤ → List Float
converted_softs f vs = first (λ i. soft_float f (get_or vs i (pos 0))) (length vs)

pub record SoftsPromise (f : ℕ) (vs : List ℤ) (lent out : List Float) (answer : Result ℕ CaptureFault) : Type 0 where
  pub answered : answer ≡ softs_answer f vs (length lent)
  pub refused_keeps : conversion_status answer ≢ 0 → out ≡ lent
  pub served_writes : conversion_status answer ≡ 0 → out ≡ over lent 0 (converted_softs f vs)
  pub served_exact : conversion_status answer ≡ 0 → (i : ℕ) → i < conversion_count answer → Exactly f (get_or vs i (pos 0)) (get_or out i nan)
