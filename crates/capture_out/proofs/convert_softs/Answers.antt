-- `convert_softs` meets its contract: the first check that is broken is refused, and the buffer kept; else each soft value is written, exact.
-- Assumes nothing.
use mathlib.Core.Path.{◌≡◌, refl}
use mathlib.Core.List.{List}
use Prim.Native.Nat.{ℕ, ◌≤◌, ◌<◌}
use borrow.Author.Tests.{lt-ltb, le-ltb}
use native.Mathlib.Omega.{arith}
use lib.IntN.{ℤ}
use lib.ListN.{length}
use lib.Ieee.{Float}
use Rattle.std.specs.Prelude.{Ok, Err}
use Rattle.frame.specs.declared.Refusal.{Refusal}
use Rattle.frame.specs.declared.Refusal.TheVariants.{Scale, OutputTooShort}
use Rattle.frame.specs.Verdicts.{Passed, Failed}
use Rattle.frame.specs.Checks.{verdict_of}
use Rattle.frame.proofs.Refusals.{refusal_not-zero}
use Rattle.binary32.specs.SoftFloat.{max_soft_scale}
use Rattle.capture.specs.Answers.{fault_at, conversion_status, conversion_count}
use Rattle.capture.specs.SoftOut.{softs_checks, softs_answer, softs_answer_for, SoftsPromise}
use Rattle.capture.specs.Converting.{SoftsWritten}
use Rattle.capture_out.proofs.convert_softs.Goals as goal

-- the verdict, by the tests that the code makes
module _ (f : ℕ) (vs : List ℤ) (room : ℕ) where
  verdict_scale : max_soft_scale < f → verdict_of (softs_checks f vs room) ≡ Failed Scale 0
  unfolding softs_checks verdict_of
  verdict_scale h = rw (lt-ltb _ _ h)

  verdict_room : f ≤ max_soft_scale → room < length vs → verdict_of (softs_checks f vs room) ≡ Failed OutputTooShort 0
  unfolding softs_checks verdict_of
  verdict_room h k = rw (le-ltb _ _ h, lt-ltb _ _ k)

  verdict_passed : f ≤ max_soft_scale → length vs ≤ room → verdict_of (softs_checks f vs room) ≡ Passed
  unfolding softs_checks verdict_of
  verdict_passed h k = rw (le-ltb _ _ h, le-ltb _ _ k)

module _ {f : ℕ} {vs : List ℤ} {lent : List Float} where
  kept : {r : Refusal} {n : ℕ} → verdict_of (softs_checks f vs (length lent)) ≡ Failed r n → SoftsPromise f vs lent lent (Err (fault_at r n))
  unfolding softs_answer softs_answer_for conversion_status
  kept {r} e =
      record {
        answered = rw e;
        refused_keeps = λ h. refl;
        served_writes = λ h. absurd (refusal_not-zero r h);
        served_exact = λ h. absurd (refusal_not-zero r h);
      }

  served : {out : List Float} → f ≤ max_soft_scale → length vs ≤ length lent → SoftsWritten f vs lent out
      → SoftsPromise f vs lent out (Ok (length vs))
  unfolding softs_answer softs_answer_for conversion_status conversion_count
  served h k w =
      record {
        answered = rw (verdict_passed f vs (length lent) h k);
        refused_keeps = λ h. absurd (h refl);
        served_writes = λ h. w.written;
        served_exact = λ h. w.exact;
      }

pub returns-then-scale-gt-MAX_SOFT_SCALE : goal.returns-then-scale-gt-MAX_SOFT_SCALE
returns-then-scale-gt-MAX_SOFT_SCALE c = rw c.into.ensures (kept (verdict_scale _ _ _ c.if-scale-gt-MAX_SOFT_SCALE.true))

pub returns-then-out-soft : goal.returns-then-out-soft
returns-then-out-soft c = rw c.into-then-out-soft.ensures (kept (verdict_room _ _ _ (omega arith) (omega arith)))

pub returns : goal.returns
returns c = served (omega arith) (omega arith) c.write_softs.ensures
