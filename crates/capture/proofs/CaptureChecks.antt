-- The checks of a whole capture are those of its numbers in a row, so the first number that does not convert decides;
-- and the answer by the tests in their order. Assumes nothing.
use mathlib.Core.Path.{◌≡◌, refl, ◌∙◌}
use mathlib.Core.Bool.{Bool, true, false, cond, not, ◌||◌}
use mathlib.Core.List.{List, flat_map, append-nil}
use Prim.Native.Nat.{ℕ, zero, suc, ◌+◌, ◌*◌, ◌-◌, ◌/◌, ◌%◌, ◌≤◌, ◌<◌}
use native.Mathlib.Nat.{mul-one, add-zero}
use native.Mathlib.Omega.{arith}
use lib.Dec.{ltb, eqb}
use lib.ListN.{length, get_or}
use lib.Ieee.{Float, nan}
use Rattle.arithmetic.specs.Lists.{joined}
use Rattle.arithmetic.proofs.Lists.{length_first, joined_cong, joined_shares}
use Rattle.std.specs.Prelude.{Ok, Err}
use Rattle.frame.specs.declared.Refusal.{Refusal}
use Rattle.frame.specs.declared.Refusal.TheVariants.{Kind, Scale, InputLength, OutputTooShort}
use Rattle.frame.specs.Verdicts.{Verdict, Passed, Failed}
use Rattle.frame.specs.Checks.{Check, max_kind, verdict_of}
use Rattle.frame.proofs.Checks.{accepted_joined, joined_refused}
use Rattle.binary32.specs.Conversion.{max_scale, converts}
use Rattle.binary32.specs.Scaling.{refusal_for}
use Rattle.capture.specs.Answers.{fault_at}
use Rattle.capture.specs.Samples.{coordinate_checks, coordinates, sample_checks}
use Rattle.capture.specs.Capture.{Recording, numbers_per_sample, samples_in, sample_at, converted_i, converted_q}
use Rattle.capture.specs.Capture.{capture_sample_checks, capture_checks, capture_answer_for, capture_answer}
use Rattle.capture.specs.Converting.{samples_answer, AllConvert, RefusedAt}
use Rattle.capture.proofs.Checking.{coordinate_verdict}

-- ---- the checks of the numbers, in a row

-- those of number i, where a sample has so many numbers
abbrev pub number_checks : ℕ → ℕ → List Float → ℕ → List Check
number_checks F each xs i = coordinate_checks F (i / each) (get_or xs i nan)

module _ (F each : ℕ) (xs : List Float) where
  all_convert : (n : ℕ) → ((i : ℕ) → i < n → converts F (get_or xs i nan) ≡ true) → verdict_of (joined (number_checks F each xs) n) ≡ Passed
  all_convert n all = accepted_joined _ n (λ i h. rw (coordinate_verdict F (i / each) (get_or xs i nan), all i h))

  -- the first number that does not convert decides
  first_decides : (at : ℕ) → RefusedAt F xs at
      → verdict_of (joined (number_checks F each xs) (length xs)) ≡ Failed (refusal_for (get_or xs at nan)) (at / each)
  first_decides at p =
      joined_refused _ _ at p.inside (all_convert at p.before) (rw (coordinate_verdict F (at / each) (get_or xs at nan), p.refused))

-- ---- a sample's checks are those of its numbers

at_sample : (F each : ℕ) (xs : List Float) (n i : ℕ) → i / each ≡ n → number_checks F each xs i ≡ coordinate_checks F n (get_or xs i nan)
at_sample F each xs n i e = rw e

sample_checks_lem : (F kind : ℕ) (xs : List Float) (n : ℕ)
    → sample_checks F n (sample_at kind xs n)
    ≡ joined (λ i. number_checks F (numbers_per_sample kind) xs (n * numbers_per_sample kind + i)) (numbers_per_sample kind)
unfolding sample_checks coordinates sample_at numbers_per_sample joined flat_map
sample_checks_lem F zero xs n = rw (append-nil, at_sample F 1 xs n (n * 1 + 0) (omega arith), add-zero, mul-one)
sample_checks_lem F (suc kind) xs n =
    rw (append-nil, at_sample F 2 xs n (n * 2 + 0) (omega arith), at_sample F 2 xs n (n * 2 + 1) (omega arith), add-zero)

pub some_numbers : (kind : ℕ) → 0 < numbers_per_sample kind
unfolding numbers_per_sample
some_numbers zero = omega arith
some_numbers (suc kind) = omega arith

-- the numbers for the second buffer are some of those handed in
pub quadrature_few : (kind n : ℕ) → n / numbers_per_sample kind * (numbers_per_sample kind - 1) ≤ n
unfolding numbers_per_sample
quadrature_few zero n = omega arith
quadrature_few (suc kind) n = omega arith

-- whole samples: none of the numbers is left over
whole_samples : (kind n : ℕ) → n % numbers_per_sample kind ≡ 0 → n / numbers_per_sample kind * numbers_per_sample kind ≡ n
unfolding numbers_per_sample
whole_samples zero n h = omega arith
whole_samples (suc kind) n h = omega arith

pub in_a_row : (c : Recording) → length c.numbers % numbers_per_sample c.kind ≡ 0
    → capture_sample_checks c ≡ joined (number_checks c.scale (numbers_per_sample c.kind) c.numbers) (length c.numbers)
unfolding capture_sample_checks samples_in
in_a_row c h =
    joined_cong _ _ _ (λ n l. sample_checks_lem c.scale c.kind c.numbers n)
    ∙ joined_shares (number_checks c.scale (numbers_per_sample c.kind) c.numbers) (numbers_per_sample c.kind) _
    ∙ rw (whole_samples c.kind (length c.numbers) h)

-- ---- the answer

-- what is handed in with a kind that has no 80 hexadecimal added
abbrev pub plain_recording : ℕ → ℕ → List Float → Recording
plain_recording kind F xs = record { kind = kind; scale = F; numbers = xs }

answer_cond : (b : Bool) (r : Refusal) (n : ℕ) (rest : Verdict) (c : Recording)
    → capture_answer_for (cond b (Failed r n) rest) c ≡ cond b (Err (fault_at r n)) (capture_answer_for rest c)
unfolding capture_answer_for
answer_cond true r n rest c = refl
answer_cond false r n rest c = refl

module _ (kind F : ℕ) (xs : List Float) where
  abbrev WholeSamples : Type 0
  WholeSamples = length xs % numbers_per_sample kind ≡ 0

  pub refused_answer : (at : ℕ) → WholeSamples → RefusedAt F xs at
      → samples_answer (plain_recording kind F xs) ≡ Err (fault_at (refusal_for (get_or xs at nan)) (at / numbers_per_sample kind))
  unfolding capture_answer_for
  refused_answer at w p = rw (in_a_row (plain_recording kind F xs) w, first_decides F (numbers_per_sample kind) xs at p)

  pub converted_answer : WholeSamples → AllConvert F xs → samples_answer (plain_recording kind F xs) ≡ Ok (length xs / numbers_per_sample kind)
  unfolding capture_answer_for samples_in
  converted_answer w all = rw (in_a_row (plain_recording kind F xs) w, all_convert F (numbers_per_sample kind) xs (length xs) all)

  -- the tests in their order, by what the code finds
  pub decided : (room_i room_q each : ℕ) (s k l o : Bool) → each ≡ numbers_per_sample kind → ltb max_scale F ≡ s → ltb max_kind kind ≡ k
      → not (eqb (length xs % each) 0) ≡ l → ltb room_i (length xs / each) || ltb room_q (length xs / each * (each - 1)) ≡ o
      → capture_answer (plain_recording kind F xs) room_i room_q
      ≡ cond s (Err (fault_at Scale 0)) (cond k (Err (fault_at Kind 0)) (cond l (Err (fault_at InputLength 0)) (cond o (Err (fault_at OutputTooShort 0)) (samples_answer (plain_recording kind F xs)))))
  unfolding capture_answer capture_checks verdict_of converted_i converted_q samples_in
  decided room_i room_q each s k l o he hs hk hl ho = simp (length_first, ← he, hs, hk, hl, ho, answer_cond)
