-- What is known of a capture that is not refused: each of its numbers converts, so each sample's answer holds its coordinates rounded, and
-- the lists for the two sample buffers are the numbers rounded. Assumes nothing.
use Rattle.std.specs.Prelude.{Err}
use mathlib.Core.Path.{◌≡◌, refl, sym, ap, ◌∙◌}
use mathlib.Core.Logic.{◌↔◌, ◌≢◌}
use mathlib.Core.Bool.{Bool, true, false, cond, true≢false}
use mathlib.Core.List.{List, [], flat_map, append-nil}
use Prim.Native.Nat.{ℕ, zero, suc, ◌+◌, ◌*◌, ◌-◌, ◌/◌, ◌%◌, ◌≤◌, ◌<◌}
use native.Mathlib.Nat.{div-one, mul-zero, mul-one}
use native.Mathlib.Omega.{arith}
use borrow.Author.Tests.{le-ltb}
use lib.IntN.{ℤ, pos}
use lib.ListN.{length, get_or}
use lib.Ieee.{Float, nan}
use Rattle.arithmetic.specs.Lists.{first, over}
use Rattle.arithmetic.proofs.Lists.{length_first, first_cong, over_nothing, get_d_over}
use Rattle.std.specs.Prelude.{Ok}
use Rattle.frame.specs.declared.Refusal.{Refusal}
use Rattle.frame.specs.Verdicts.{Verdict, Passed, Failed}
use Rattle.frame.specs.Checks.{verdict_of}
use Rattle.frame.proofs.Checks.{verdict_kept, accepted_append, joined_accepted, kept-checks}
use Rattle.binary32.specs.Conversion.{max_scale, rounded, converts}
use Rattle.binary32.specs.Scaling.{refusal_for}
use Rattle.binary32.proofs.Rounding.{rounded_rounds}
use Rattle.capture.specs.declared.Sample.{Sample}
use Rattle.capture.specs.declared.Sample.TheVariants.{Single, Pair}
use Rattle.capture.specs.Samples.{coordinate_checks, coordinates, sample_checks, sample_verdict, sample_answer_for, sample_answer, sample_values, SampleRounds}
use Rattle.capture.specs.Capture.{Recording, numbers_per_sample, samples_in, sample_at, whole_of, converted_i, converted_q, capture_sample_checks, capture_checks, capture_answer_for, capture_answer}
use Rattle.capture.specs.Converting.{AllConvert, CaptureWritten}
use Rattle.capture.proofs.Checking.{coordinate_verdict}
use Rattle.capture.proofs.CaptureChecks.{plain_recording, in_a_row}

-- ---- a sample

coordinate_accepted : (F n : ℕ) (x : Float) → (verdict_of (coordinate_checks F n x) ≡ Passed) ↔ (converts F x ≡ true)
coordinate_accepted F n x = rw (coordinate_verdict F n x) (go (converts F x))
  where
    failed : {r : Refusal} {k : ℕ} → Failed r k ≡ Passed → ⊥
    failed e = let z : ◌≡◌ {A = ℕ} 0 1 = cc in omega arith

    go : (b : Bool) → (cond b Passed (Failed (refusal_for x) n) ≡ Passed) ↔ (b ≡ true)
    go true = ((λ e. refl), λ e. refl)
    go false = ((λ e. absurd (failed e)), λ e. absurd (true≢false (sym e)))

-- each coordinate converts
abbrev pub Convertible : ℕ → Sample Float → Type 0
Convertible F (Single x) = converts F x ≡ true
Convertible F (Pair p) = (converts F p.in_phase ≡ true) × (converts F p.quadrature ≡ true)

-- whatever the sample's number
sample_accepted : (F n : ℕ) (s : Sample Float) → (verdict_of (sample_checks F n s) ≡ Passed) ↔ Convertible F s
unfolding sample_checks coordinates flat_map
sample_accepted F n (Single x) = rw append-nil (coordinate_accepted F n x)
sample_accepted F n (Pair p) = rw append-nil (simp (accepted_append, coordinate_accepted) ((λ h. h), λ h. h))

sample_served : (F : ℕ) (s : Sample Float) → F ≤ max_scale → Convertible F s → sample_answer F s ≡ sample_answer_for Passed F s
unfolding sample_answer sample_verdict
sample_served F s h k =
    ap (λ (v : Verdict). sample_answer_for v F s) (verdict_kept _ _ (le-ltb max_scale F h) ∙ (sample_accepted F 0 s).1 k)

-- ---- a capture

pub record CaptureAccepted (c : Recording) (room_i room_q : ℕ) : Type 0 where
  pub scale_in : c.scale ≤ max_scale
  -- the numbers make whole samples
  pub whole : length c.numbers % numbers_per_sample c.kind ≡ 0
  pub fits_i : samples_in c ≤ room_i
  pub fits_q : samples_in c * (numbers_per_sample c.kind - 1) ≤ room_q
  pub checked : verdict_of (capture_sample_checks c) ≡ Passed

capture_accepted : (c : Recording) (room_i room_q : ℕ) → verdict_of (capture_checks c room_i room_q) ≡ Passed → CaptureAccepted c room_i room_q
unfolding capture_checks converted_i converted_q
capture_accepted c room_i room_q e =
    let (scale, (kind, (whole, ((i, q), samples)))) = simp kept-checks at e in
    record {
      scale_in = scale;
      whole = whole;
      fits_i = rw length_first at i;
      fits_q = rw length_first at q;
      checked = samples;
    }

-- each sample converts
each_sample : {c : Recording} {room_i room_q : ℕ} → CaptureAccepted c room_i room_q → (n : ℕ) → n < samples_in c
    → Convertible c.scale (sample_at c.kind c.numbers n)
unfolding capture_sample_checks
each_sample a n h = (sample_accepted _ n _).0 (joined_accepted _ _ a.checked n h)

-- where the answer is a number of samples, it is that of all, and no check is broken
pub converted_accepted : {c : Recording} {room_i room_q count : ℕ} → capture_answer c room_i room_q ≡ Ok count
    → (count ≡ samples_in c) × CaptureAccepted c room_i room_q
unfolding capture_answer capture_answer_for
converted_accepted {c} {room_i} {room_q} {count} e = go (verdict_of (capture_checks c room_i room_q)) refl e
  where
    go : (v : Verdict) → verdict_of (capture_checks c room_i room_q) ≡ v → capture_answer_for v c ≡ Ok count
        → (count ≡ samples_in c) × CaptureAccepted c room_i room_q
    go Passed k e = (cc, capture_accepted c room_i room_q k)
    go (Err fault) k e = cc

-- ---- its numbers

pub numbers_convert : (kind F : ℕ) (xs : List Float) {room_i room_q : ℕ} → CaptureAccepted (plain_recording kind F xs) room_i room_q → AllConvert F xs
numbers_convert kind F xs a i h =
    let in_row = rw (in_a_row (plain_recording kind F xs) a.whole) at a.checked in
    (coordinate_accepted F _ _).0 (joined_accepted _ _ in_row i h)

-- ---- the room for them

pub singles_room : (kind : ℕ) {F : ℕ} {xs : List Float} {room_i room_q : ℕ} → CaptureAccepted (plain_recording kind F xs) room_i room_q → kind ≡ 0
    → length xs ≤ room_i
unfolding samples_in numbers_per_sample
singles_room zero a known = omega (arith, a.fits_i)
singles_room (suc k) a known = absurd (omega arith)

pub pairs_room : (kind : ℕ) {F : ℕ} {xs : List Float} {room_i room_q : ℕ} → CaptureAccepted (plain_recording kind F xs) room_i room_q → kind ≢ 0
    → (length xs / 2 ≤ room_i) × (length xs / 2 ≤ room_q)
unfolding samples_in numbers_per_sample
pairs_room zero a other = absurd (other refl)
pairs_room (suc k) a other = (a.fits_i, rw mul-one at a.fits_q)

-- ---- its whole numbers

-- the whole numbers of a sample each of whose coordinates converts
abbrev served : ℕ → Sample Float → ℕ → ℤ
served F s i = get_or (sample_values (sample_answer_for Passed F s)) i (pos 0)

whole_served : {c : Recording} {room_i room_q : ℕ} → CaptureAccepted c room_i room_q → (i n : ℕ) → n < samples_in c
    → whole_of c i n ≡ served c.scale (sample_at c.kind c.numbers n) i
unfolding whole_of
whole_served a i n h = rw (sample_served _ _ a.scale_in (each_sample a n h))

-- so the lists for the two buffers are the numbers rounded
module _ {F : ℕ} {xs : List Float} {room_i room_q : ℕ} where
  pub singles_in_phase : CaptureAccepted (plain_recording zero F xs) room_i room_q
      → converted_i (plain_recording zero F xs) ≡ first (λ n. rounded F (get_or xs n nan)) (length xs)
  unfolding converted_i samples_in numbers_per_sample sample_at sample_answer_for sample_values
  singles_in_phase a = rw div-one (first_cong _ _ _ (λ n h. whole_served a 0 n (omega arith)))

  module _ {k : ℕ} (a : CaptureAccepted (plain_recording (suc k) F xs) room_i room_q) where
    pub pairs_in_phase : converted_i (plain_recording (suc k) F xs) ≡ first (λ n. rounded F (get_or xs (n * 2) nan)) (length xs / 2)
    unfolding converted_i samples_in numbers_per_sample sample_at sample_answer_for sample_values
    pairs_in_phase = first_cong _ _ _ (whole_served a 0)

    pub pairs_quadrature : converted_q (plain_recording (suc k) F xs) ≡ first (λ n. rounded F (get_or xs (n * 2 + 1) nan)) (length xs / 2)
    unfolding converted_q samples_in numbers_per_sample sample_at sample_answer_for sample_values
    pairs_quadrature = rw mul-one (first_cong _ _ _ (whole_served a 1))

pub singles_no_quadrature : (F : ℕ) (xs : List Float) → converted_q (plain_recording zero F xs) ≡ []
unfolding converted_q numbers_per_sample first
singles_no_quadrature F xs = rw mul-zero

-- ---- what is written

module _ {F : ℕ} {xs : List Float} {lent_i lent_q out_i : List ℤ} where
  pub singles_written : (kind : ℕ) → CaptureAccepted (plain_recording kind F xs) (length lent_i) (length lent_q) → kind ≡ 0
      → out_i ≡ over lent_i 0 (first (λ n. rounded F (get_or xs n nan)) (length xs)) → CaptureWritten (plain_recording kind F xs) lent_i lent_q out_i lent_q
  singles_written zero a known i =
      record {
        written_i = i ∙ ap (over lent_i 0) (sym (singles_in_phase a));
        written_q = sym (over_nothing lent_q 0) ∙ ap (over lent_q 0) (sym (singles_no_quadrature F xs));
      }
  singles_written (suc k) a known i = absurd (omega arith)

  pub pairs_written : {out_q : List ℤ} (kind : ℕ) → CaptureAccepted (plain_recording kind F xs) (length lent_i) (length lent_q) → kind ≢ 0
      → out_i ≡ over lent_i 0 (first (λ n. rounded F (get_or xs (n * 2) nan)) (length xs / 2))
      → out_q ≡ over lent_q 0 (first (λ n. rounded F (get_or xs (n * 2 + 1) nan)) (length xs / 2))
      → CaptureWritten (plain_recording kind F xs) lent_i lent_q out_i out_q
  pairs_written zero a other i q = absurd (other refl)
  pairs_written (suc k) a other i q =
      record {
        written_i = i ∙ ap (over lent_i 0) (sym (pairs_in_phase a));
        written_q = q ∙ ap (over lent_q 0) (sym (pairs_quadrature a));
      }

module _ {c : Recording} {lent_i lent_q out_i out_q : List ℤ} (a : CaptureAccepted c (length lent_i) (length lent_q))
    (w : CaptureWritten c lent_i lent_q out_i out_q) (n : ℕ) (h : n < samples_in c) where
  in_phase_at_lem : get_or out_i n (pos 0) ≡ served c.scale (sample_at c.kind c.numbers n) 0
  unfolding converted_i
  in_phase_at_lem = rw w.written_i (get_d_over lent_i (whole_of c 0) _ n (pos 0) h ∙ whole_served a 0 n h)

  quadrature_at_lem : n < samples_in c * (numbers_per_sample c.kind - 1)
      → get_or out_q n (pos 0) ≡ served c.scale (sample_at c.kind c.numbers n) 1
  unfolding converted_q
  quadrature_at_lem l = rw w.written_q (get_d_over lent_q (whole_of c 1) _ n (pos 0) l ∙ whole_served a 1 n h)

-- each is the nearest
pub written_rounds : (kind F : ℕ) (xs : List Float) {lent_i lent_q out_i out_q : List ℤ}
    → CaptureAccepted (plain_recording kind F xs) (length lent_i) (length lent_q) → CaptureWritten (plain_recording kind F xs) lent_i lent_q out_i out_q
    → (n : ℕ) → n < samples_in (plain_recording kind F xs) → SampleRounds F (sample_at kind xs n) (get_or out_i n (pos 0)) (get_or out_q n (pos 0))
unfolding SampleRounds sample_at sample_answer_for sample_values numbers_per_sample
written_rounds zero F xs a w n h = rw (in_phase_at_lem a w n h) (rounded_rounds F (get_or xs n nan))
written_rounds (suc k) F xs a w n h = (
  rw (in_phase_at_lem a w n h) (rounded_rounds F (get_or xs (n * 2) nan)),
  rw (quadrature_at_lem a w n h (rw mul-one h)) (rounded_rounds F (get_or xs (n * 2 + 1) nan)),
)
