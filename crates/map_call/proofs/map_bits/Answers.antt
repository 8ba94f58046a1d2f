-- `map_bits` meets its contract: the verdict decides between the refusal and the samples. Assumes nothing.
use mathlib.Core.Path.{◌≡◌, refl}
use mathlib.Core.List.{List}
use Prim.Native.Nat.{ℕ}
use native.Mathlib.Omega.{arith}
use lib.IntN.{ℤ}
use Rattle.std.specs.Prelude.{Ok, Err}
use Rattle.std.proofs.lemmas.Result.{err_from_is_err_and}
use Rattle.frame.specs.declared.Refusal.{Refusal}
use Rattle.frame.specs.Verdicts.{Passed, Failed}
use Rattle.frame.specs.Limits.{full_limits}
use Rattle.frame.specs.Answers.{map_status}
use Rattle.frame.specs.Mapping.{Message, message_of, map_verdict, map_answer_for, map_answer}
use Rattle.frame.specs.Promise.{MapPromise}
use Rattle.map_call.specs.SamplesWritten.{SamplesWritten}
use Rattle.frame.proofs.Order.{message_accepted}
use Rattle.frame.proofs.Refusals.{refusal_not-zero}
use Rattle.map_call.proofs.map_bits.Goals as goal

module _ {m : Message} {lent_i lent_q : List ℤ} where
  refused : {r : Refusal} {n : ℕ} → map_verdict full_limits m lent_i lent_q ≡ Failed r n → MapPromise m lent_i lent_q lent_i lent_q (Err r)
  unfolding map_answer map_answer_for map_status
  refused {r} e = record { answered = rw e; refused_keeps = λ d. (refl, refl); served_writes = λ d. absurd (refusal_not-zero r d) }

  mapped : {out_i out_q : List ℤ} {symbols : ℕ} → map_verdict full_limits m lent_i lent_q ≡ Passed → SamplesWritten m lent_i lent_q out_i out_q symbols
      → MapPromise m lent_i lent_q out_i out_q (Ok symbols)
  unfolding map_answer map_answer_for map_status
  mapped e w = record { answered = rw (e, w.counted); refused_keeps = λ d. absurd (d refl); served_writes = λ d. (w.in_phase, w.quadrature) }

pub returns : goal.returns
unfolding map_verdict
returns c =
    let (passed, is) = c.in_ok-checked.ensures in
    mapped passed (c.write_samples.ensures _ is)

pub returns-in_err-checked : goal.returns-in_err-checked
unfolding map_verdict
returns-in_err-checked c =
    let handed = err_from_is_err_and c.from_residual.result c.from_residual.ensures.1 in
    rw (handed.1, handed.2) (refused c.in_err-checked.ensures)

pub write_samples-requires : goal.write_samples-requires
unfolding map_verdict
write_samples-requires c = let (passed, is) = c.in_ok-checked.ensures in (message_of c.args.message, is, passed)

pub overflow_cast-result : goal.overflow_cast-result
unfolding map_verdict
overflow_cast-result c =
    let (passed, is) = c.in_ok-checked.ensures in
    let accepted = message_accepted full_limits (message_of c.args.message) c.args.yi.now c.args.yq.now passed in
    rw is.setup (omega (arith, accepted.modulation.symbols_few))
