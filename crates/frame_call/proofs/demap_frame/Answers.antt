-- `demap_frame` meets its contract: by the verdict of the checks the frame is refused, and the buffers are as they were, or its
-- parts are read, and what the buffers begin with meets demand 3. Assumes nothing.
use mathlib.Core.Path.{◌≡◌, refl, sym, ap, ◌∙◌}
use mathlib.Core.List.{List}
use Prim.Native.Nat.{ℕ, ◌*◌, ◌≤◌}
use native.Mathlib.Nat.{zero-add, mul-le-mul}
use native.Mathlib.Omega.{arith}
use lib.IntN.{pos}
use lib.ListN.{length, take, length-map}
use Rattle.std.specs.Prelude.{Ok, Err}
use Rattle.std.proofs.lemmas.Result.{err_from_is_err_and}
use Rattle.arithmetic.specs.Lists.{joined, over}
use Rattle.arithmetic.proofs.Lists.{take_over}
use Rattle.symbol_reading.proofs.PartsReading.{length-part_hard}
use Rattle.constellation.specs.Parts.{part_hard}
use Rattle.demapper.specs.Lent.{held_in}
use Rattle.demapper.specs.Reading.{Buffers}
use Rattle.frame.specs.declared.Refusal.{Refusal}
use Rattle.frame.specs.Verdicts.{Passed, Failed}
use Rattle.frame.specs.declared.Limits.{Limits}
use Rattle.frame.specs.Limits.{full_limits}
use Rattle.constellation.specs.Ranges.{max_symbol_probes}
use Rattle.frame.specs.Answers.{frame_status, frame_probes}
use Rattle.frame.specs.Frame.{Frame, frame_of, plain_kind, modulation, symbol_count, frame_parts, nearest_labels, nearest_word, symbol_softs, hard_bits, soft_values, probe_list}
use Rattle.frame.specs.Checks.{verdict_of}
use Rattle.frame.specs.FrameCall.{room_in, frame_checks, frame_verdict, answer_for, frame_answer, handed_out, buffers_for}
use Rattle.frame.specs.Demand3.{Demand3}
use Rattle.frame.specs.Promise.{beginning, FramePromise}
use Rattle.demapper.specs.declared.Place.{Place}
use Rattle.header_checks.specs.declared.Setup.{Setup}
use Rattle.header_checks.specs.Called.{checked, header_setup}
use Rattle.header_checks.proofs.Called.{is_passed, is_refused}
use Rattle.frame.specs.declared.Fault.{Fault}
use Rattle.symbol_reading.specs.PartsRead.{PartsRead}
use Rattle.constellation.proofs.Schemes.{probes_few}
use Rattle.frame.proofs.Checks.{ModulationAccepted}
use Rattle.frame.proofs.Order.{frame_accepted}
use Rattle.frame.proofs.Refusals.{refusal_not-zero}
use Rattle.frame.proofs.Parts.{frame_bits, frame_softs, probe_count}
use Rattle.frame.proofs.Demand3.{payload_length, frame_meets_demand3}
use Rattle.frame_call.proofs.demap_frame.Goals as goal

-- the start of a buffer over which a list of n entries is written
taken : {A : Type 0} (d s : List A) {out : List A} {n : ℕ} → out ≡ over d 0 s → length s ≡ n → take n out ≡ s
taken d s o e = rw (o, ← e) (take_over d s)

module _ (f : Frame) (lent : Buffers) where
  refused : {r : Refusal} {n : ℕ} → frame_verdict full_limits f lent ≡ Failed r n → FramePromise f lent lent (Err (record { refusal = r; symbol = n }))
  unfolding frame_answer answer_for frame_status
  refused {r} e = record { answered = rw e; refused_keeps = λ d. refl; served_writes = λ d. absurd (refusal_not-zero r d); served_shows = λ d. absurd (refusal_not-zero r d) }

  module _ (e : frame_verdict full_limits f lent ≡ Passed) where
    modulation_in_lem : ModulationAccepted full_limits (plain_kind f.header.kind) f.header.bits_i f.header.bits_q f.header.payload
    modulation_in_lem = (frame_accepted {limits = full_limits} {f = f} {lent = lent} e).modulation_in

    probes_fit : length (probe_list f) ≤ full_limits.symbols * max_symbol_probes
    unfolding symbol_count
    probes_fit = rw probe_count (mul-le-mul modulation_in_lem.symbols_few (probes_few (modulation f) modulation_in_lem.bits_ok))

    module _ {out : Buffers} {end : Place} (r : PartsRead (modulation f) (frame_parts f) (joined (symbol_softs f) (symbol_count f)) f.header.payload (record { bit = 0; probe = 0 }) lent out end) where
      counted : end.probe ≡ length (probe_list f)
      unfolding probe_list
      counted = rw zero-add at r.probes_counted

      writes : out ≡ buffers_for Passed f lent
      unfolding buffers_for handed_out hard_bits nearest_word nearest_labels soft_values probe_list
      writes = λ i. record { hard = r.hard i; soft = r.soft i; indices = r.indices i; costs = r.costs i }

      begins : beginning f.header.payload end.probe out ≡ handed_out f
      unfolding handed_out hard_bits nearest_word nearest_labels soft_values probe_list
      begins =
          let hard = taken lent.hard _ r.hard (payload_length f modulation_in_lem.bits_ok 0 _ (frame_bits part_hard length-part_hard f)) in
          let soft = taken lent.soft _ r.soft (payload_length f modulation_in_lem.bits_ok (pos 0) _ (frame_softs f)) in
          let indices = taken lent.indices _ r.indices (length-map (probe_list f) (λ q. q.index) ∙ sym counted) in
          let costs = taken lent.costs _ r.costs (length-map (probe_list f) (λ q. q.cost) ∙ sym counted) in
          λ i. record { hard = hard i; soft = soft i; indices = indices i; costs = costs i }

      shows : Demand3 f (beginning f.header.payload end.probe out) end.probe
      shows = rw (begins, counted) (frame_meets_demand3 full_limits f lent e)

      served : FramePromise f lent out (Ok (record { probes = end.probe }))
      unfolding frame_answer answer_for frame_status frame_probes
      served =
          record {
            answered = rw e (ap (λ (n : ℕ). Ok (record { probes = n })) counted);
            refused_keeps = λ d. absurd (d refl);
            served_writes = λ d. writes;
            served_shows = λ d. shows;
          }

-- what the checks answer is by the verdict on the frame and the lent buffers
module _ (f : Frame) (lent : Buffers) {limits : Limits} (e : limits ≡ full_limits) where
  passed : {s : Setup} → Ok s ≡ checked (verdict_of (frame_checks limits f (room_in lent))) (header_setup f.header)
      → (frame_verdict full_limits f lent ≡ Passed) × (s ≡ header_setup f.header)
  unfolding frame_verdict
  passed r = is_passed _ (rw e at r)

  failed : {fault : Fault} → Err fault ≡ checked (verdict_of (frame_checks limits f (room_in lent))) (header_setup f.header)
      → frame_verdict full_limits f lent ≡ Err fault
  unfolding frame_verdict
  failed r = sym (is_refused _ _ (rw e at r))

pub read_frame-end-requires : goal.read_frame-end-requires
read_frame-end-requires c =
    passed (frame_of c.args.header c.args.signal) _ c.full_limits.ensures c.in_ok-setup.ensures

pub overflow_cast-result : goal.overflow_cast-result
unfolding probe_list
overflow_cast-result c =
    let a = c.args in
    let f = frame_of a.header a.signal in
    let lent = held_in a.out.now in
    omega (arith, c.read_frame-end.ensures.read.probes_counted, probes_fit f lent (passed f lent c.full_limits.ensures c.in_ok-setup.ensures).0)

pub returns-in_err-setup-clause-promise : goal.returns-in_err-setup-clause-promise
returns-in_err-setup-clause-promise c =
    let f = frame_of c.args.header c.args.signal in
    let handed = err_from_is_err_and c.from_residual.result c.from_residual.ensures.1 in
    rw (handed.1, handed.2) (refused f _ (failed f _ c.full_limits.ensures c.in_err-setup.ensures))

pub returns-clause-promise : goal.returns-clause-promise
returns-clause-promise c =
    let f = frame_of c.args.header c.args.signal in
    served f _ (passed f _ c.full_limits.ensures c.in_ok-setup.ensures).0 c.read_frame-end.ensures.read
