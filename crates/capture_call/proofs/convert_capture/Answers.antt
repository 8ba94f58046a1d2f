-- `convert_capture` meets its contract: the answer of the checks decides between the buffers as they were and the whole numbers written.
-- Assumes nothing.
use mathlib.Core.Path.{◌≡◌, refl, sym, ap, ◌∙◌}
use mathlib.Core.List.{List}
use Prim.Native.Nat.{ℕ}
use native.Mathlib.Omega.{arith}
use lib.IntN.{ℤ}
use lib.ListN.{length}
use Rattle.std.specs.Prelude.{Ok, Err}
use Rattle.std.proofs.lemmas.Result.{err_from_is_err_and}
use Rattle.frame.proofs.Refusals.{refusal_not-zero}
use Rattle.capture.specs.declared.CaptureFault.{CaptureFault}
use Rattle.capture.specs.Answers.{conversion_status, conversion_count}
use Rattle.capture.specs.Capture.{Recording, samples_in, capture_answer, CapturePromise}
use Rattle.capture.specs.Converting.{CaptureWritten}
use Rattle.capture.proofs.Accepted.{converted_accepted, written_rounds}
use Rattle.capture_checks.proofs.Layouts.{fault_answered, found_answered}
use Rattle.capture_call.proofs.convert_capture.Goals as goal

-- what the writing asks for
counted : (c : Recording) (room_i room_q : ℕ) {count : ℕ} → Ok count ≡ capture_answer c room_i room_q → capture_answer c room_i room_q ≡ Ok (samples_in c)
counted c room_i room_q checked = sym checked ∙ ap Ok (converted_accepted (sym checked)).0

-- the promise, by what the checks answer
module _ {c : Recording} {lent_i lent_q : List ℤ} where
  refused : {fault : CaptureFault} → Err fault ≡ capture_answer c (length lent_i) (length lent_q) → CapturePromise c lent_i lent_q lent_i lent_q (Err fault)
  unfolding conversion_status
  refused {fault} checked =
      record {
        answered = checked;
        refused_keeps = λ h. (refl, refl);
        served_writes = λ h. absurd (refusal_not-zero fault.refusal h);
        served_rounds = λ h n l. absurd (refusal_not-zero fault.refusal h);
      }

  served : {out_i out_q : List ℤ} {count : ℕ} → Ok count ≡ capture_answer c (length lent_i) (length lent_q) → CaptureWritten c lent_i lent_q out_i out_q
      → CapturePromise c lent_i lent_q out_i out_q (Ok count)
  unfolding conversion_status conversion_count
  served checked w =
      let (all, accepted) = converted_accepted (sym checked) in
      record {
        answered = checked;
        refused_keeps = λ h. absurd (h refl);
        served_writes = λ h. (w.written_i, w.written_q);
        served_rounds = λ h n l. written_rounds c.kind c.scale c.numbers accepted w n (omega (arith, l, all));
      }

pub returns-in_err-found : goal.returns-in_err-found
returns-in_err-found c =
    let p = err_from_is_err_and c.from_residual.result c.from_residual.ensures.1 in
    rw (p.1, p.2) (refused (fault_answered _ _ c.in_err-found.ensures))

pub write_capture-requires : goal.write_capture-requires
write_capture-requires c =
    let (answer, known) = found_answered _ _ c.in_ok-found.ensures in
    record { passes = counted _ _ _ answer; known = known }

pub returns : goal.returns
returns c = served (found_answered _ _ c.in_ok-found.ensures).0 c.write_capture.ensures
