-- `map_and_read` meets its contract: the frame that is read is the message read back, which is accepted and has the message's
-- bits. Assumes nothing.
use mathlib.Core.Path.{◌≡◌, refl, ap, ◌∙◌}
use mathlib.Core.Bool.{Bool, true, false, ◌||◌}
use mathlib.Core.List.{List, []}
use Prim.Native.Nat.{ℕ, ◌*◌, ◌≤◌}
use native.Mathlib.Nat.{mul-le-mul}
use native.Mathlib.Omega.{arith}
use borrow.Author.Tests.{le-ltb}
use lib.Dec.{ltb}
use lib.IntN.{ℤ}
use lib.ListN.{length, take, length-take}
use Rattle.std.specs.Prelude.{Result, Ok, Err}
use Rattle.std.proofs.lemmas.Result.{err_from_is_err_and}
use Rattle.arithmetic.specs.Lists.{first, over}
use Rattle.arithmetic.proofs.Lists.{length_first, take_first, take_over}
use Rattle.constellation.specs.declared.Modulation.{Modulation}
use Rattle.constellation.specs.Schemes.{bits_per_symbol, quadrature_length, probes_per_symbol}
use Rattle.demapper.specs.Reading.{Buffers}
use Rattle.frame.specs.declared.Refusal.{Refusal}
use Rattle.frame.specs.declared.Refusal.TheVariants.{OutputTooShort}
use Rattle.frame.specs.declared.Fault.{Fault}
use Rattle.frame.specs.declared.Served.{Served}
use Rattle.frame.specs.Verdicts.{Verdict, Passed, Failed}
use Rattle.frame.specs.Limits.{full_limits}
use Rattle.constellation.specs.Ranges.{max_symbol_bits, max_symbol_probes}
use Rattle.frame.specs.Answers.{frame_status, map_status}
use Rattle.frame.specs.Checks.{Check, check, verdict_of}
use Rattle.frame.specs.Frame.{Frame, frame_from, header_from, symbol_count, probe_list}
use Rattle.frame.specs.FrameCall.{room_in, outputs_too_short, answer_for, frame_answer, handed_out, buffers_for}
use Rattle.std.proofs.Common.{rules}
use Rattle.frame.specs.Mapping.{Message, message_modulation, message_symbols, mapped_i, mapped_q, map_checks, map_verdict, map_answer_for, map_answer, read_back}
use Rattle.frame.specs.Promise.{FramePromise, MapPromise}
use Rattle.round_trip.specs.Echo.{echo_verdict, echo_answer, EchoPromise}
use Rattle.constellation.proofs.Schemes.{bits_few, probes_few, bits_above_zero}
use Rattle.frame.proofs.Checks.{known_plain, verdict_broken, verdict_kept, verdict_nil, verdict_append, verdict_front}
use Rattle.frame.proofs.Order.{MessageAccepted, message_accepted}
use Rattle.frame.proofs.Refusals.{refusal_not-zero}
use Rattle.frame.proofs.Parts.{probe_count, symbols_enough}
use Rattle.frame.proofs.RoundTrip.{mapped_too_long, round_trip, mapped_accepted}
use Rattle.frame.proofs.Writing.{length-mapped_i, length-mapped_q}
use Rattle.round_trip.proofs.map_and_read.Goals as goal

-- a list is as long as a part at its start
part_within : {A : Type 0} (l : List A) {n : ℕ} → n ≡ length (take n l) → n ≤ length l
part_within l e = omega (arith, rw length-take at e)

mapped_passed : (v : Verdict) (m : Message) {n : ℕ} → Ok n ≡ map_answer_for v m → (v ≡ Passed) × (n ≡ message_symbols m)
unfolding map_answer_for
mapped_passed Passed m e = (refl, cc)
mapped_passed (Err fault) m e = absurd (let z : ◌≡◌ {A = ℕ} 0 1 = cc in omega arith)

or_none : (b : Bool) → b || false ≡ b
or_none true = refl
or_none false = refl

not_mapped_failed : (v : Verdict) (m : Message) {r : Refusal} → Err r ≡ map_answer_for v m → (s : ℕ) × (v ≡ Failed r s)
unfolding map_answer_for
not_mapped_failed Passed m e = let z : ◌≡◌ {A = ℕ} 0 1 = cc in absurd (omega arith)
not_mapped_failed (Err fault) m {r} e = let same : fault.refusal ≡ r = cc in (fault.symbol, rw (← same))

-- the verdict of mapping into two buffers for the longest frame
with_room : (m : Message) {a b : ℕ} {v : Verdict} → a ≡ full_limits.symbols → b ≡ full_limits.symbols → verdict_of (map_checks full_limits m a b) ≡ v → verdict_of (map_checks full_limits m full_limits.symbols full_limits.symbols) ≡ v
with_room m i q e = rw (i, q) at e

refused : {m : Message} {zeros_i zeros_q out_i out_q : List ℤ} {r : Refusal} {lent : List ℕ} → length zeros_i ≡ full_limits.symbols → length zeros_q ≡ full_limits.symbols
    → MapPromise m zeros_i zeros_q out_i out_q (Err r) → EchoPromise m lent lent (Err (record { refusal = r; symbol = 0 }))
unfolding map_answer map_verdict echo_verdict echo_answer frame_status
refused {m} {zeros_i} {zeros_q} {r} i q p =
    let (s, failed) = not_mapped_failed (map_verdict full_limits m zeros_i zeros_q) m p.answered in
    record {
      answered = rw (verdict_front _ _ (with_room m i q failed));
      refused_keeps = λ e. refl;
      served_writes = λ e. absurd (refusal_not-zero r e);
      served_returns = λ e g. absurd (refusal_not-zero r e);
    }

module _ {m : Message} {zeros_i zeros_q out_i out_q : List ℤ} {n : ℕ} (p : MapPromise m zeros_i zeros_q out_i out_q (Ok n)) where
  verdict : map_verdict full_limits m zeros_i zeros_q ≡ Passed
  unfolding map_answer
  verdict = (mapped_passed (map_verdict full_limits m zeros_i zeros_q) m p.answered).0

  counted : n ≡ message_symbols m
  unfolding map_answer
  counted = (mapped_passed (map_verdict full_limits m zeros_i zeros_q) m p.answered).1

  accepted : MessageAccepted full_limits m zeros_i zeros_q
  accepted = message_accepted full_limits m zeros_i zeros_q verdict

  few : message_symbols m ≤ full_limits.symbols
  unfolding message_symbols
  few = accepted.modulation.symbols_few

  payload_few : length m.bits ≤ full_limits.symbols * max_symbol_bits
  unfolding message_symbols
  payload_few =
      let q = message_modulation m in
      let ok = accepted.modulation.bits_ok in
      omega (arith, symbols_enough (bits_per_symbol q) (length m.bits) (bits_above_zero q ok), mul-le-mul few (bits_few q ok))

  samples : (out_i ≡ over zeros_i 0 (mapped_i m)) × (out_q ≡ over zeros_q 0 (mapped_q m))
  unfolding map_status
  samples = p.served_writes refl

  -- the parts of the arrays that are read
  gains_read : take n (first (λ _. m.gain) full_limits.symbols) ≡ first (λ _. m.gain) (message_symbols m)
  gains_read = rw counted (take_first (λ _. m.gain) (message_symbols m) full_limits.symbols few)

  read_i : take n out_i ≡ mapped_i m
  read_i = rw (counted, ← length-mapped_i, samples.0) (take_over zeros_i (mapped_i m))

  read_q : take (quadrature_length (message_modulation m) n) out_q ≡ mapped_q m
  read_q = rw (counted, ← length-mapped_q, samples.1) (take_over zeros_q (mapped_q m))

  abbrev frame_read : List ℕ → ℕ → Frame
  frame_read gains q = frame_from (header_from m.kind m.bits_i m.bits_q (length m.bits) 1 0 1) (take n gains) [] (take n out_i) (take q out_q)

  frame_is : {gains : List ℕ} {q : ℕ} → gains ≡ first (λ _. m.gain) full_limits.symbols → q ≡ quadrature_length (message_modulation m) n
      → frame_read gains q ≡ read_back m 1 0 1
  unfolding read_back
  frame_is g h = rw (g, h, gains_read, read_i, read_q)

  -- and how long they are
  length_gains : {gains : List ℕ} → gains ≡ first (λ _. m.gain) full_limits.symbols → n ≡ length (take n gains)
  length_gains g = rw (g, gains_read, length_first) counted

  length_i : n ≡ length (take n out_i)
  length_i = rw (read_i, length-mapped_i) counted

  length_q : {q : ℕ} → q ≡ quadrature_length (message_modulation m) n → q ≡ length (take q out_q)
  length_q h = rw (h, read_q, length-mapped_q, counted)

  probe_number : length (probe_list (read_back m 1 0 1)) ≡ message_symbols m * probes_per_symbol (message_modulation m)
  unfolding symbol_count message_symbols read_back
  probe_number = rw (known_plain m.kind accepted.modulation.kind_known).1 at (probe_count (read_back m 1 0 1))

  payload_fits : {n : ℕ} → length m.bits ≤ n → (read_back m 1 0 1).header.payload ≤ n
  unfolding read_back
  payload_fits h = h

  -- the buffers, of which only that for the hard bits can be too short
  module _ (lent : Buffers) (soft : length lent.soft ≡ full_limits.symbols * max_symbol_bits) (indices : length lent.indices ≡ full_limits.symbols * max_symbol_probes) (costs : length lent.costs ≡ full_limits.symbols * max_symbol_probes)
      (i : length zeros_i ≡ full_limits.symbols) (q : length zeros_q ≡ full_limits.symbols) where
    room : outputs_too_short (read_back m 1 0 1) (room_in lent) ≡ ltb (length lent.hard) (length m.bits)
    unfolding outputs_too_short read_back
    room =
        let probes : length (probe_list (read_back m 1 0 1)) ≤ full_limits.symbols * max_symbol_probes =
        rw probe_number (omega (arith, mul-le-mul few (probes_few (message_modulation m) accepted.modulation.bits_ok))) in
        let n = length (probe_list (read_back m 1 0 1)) in
        rw (le-ltb (length lent.soft) (length m.bits) (rw soft payload_few), le-ltb (length lent.indices) n (rw indices probes), le-ltb (length lent.costs) n (rw costs probes), or_none, or_none, or_none)

    abbrev buffer_check : Check
    buffer_check = check (ltb (length lent.hard) (length m.bits)) OutputTooShort

    answers : {answer : Result Served Fault} (short : Bool) → ltb (length lent.hard) (length m.bits) ≡ short
        → answer ≡ frame_answer full_limits (read_back m 1 0 1) lent → answer ≡ echo_answer (echo_verdict m (length lent.hard)) m
    unfolding frame_answer answer_for echo_verdict echo_answer map_verdict
    answers true h f =
        f ∙ rw (mapped_too_long m zeros_i zeros_q verdict 1 0 1 (omega arith) (omega arith) (omega arith) (omega arith) (omega arith) lent (room ∙ h), verdict_append _ _ (with_room m i q verdict), verdict_broken buffer_check [] h)
    answers false h f =
        f ∙ rw (mapped_accepted m zeros_i zeros_q verdict 1 0 1 (omega arith) (omega arith) (omega arith) (omega arith) (omega arith) lent (room ∙ h), verdict_append _ _ (with_room m i q verdict), verdict_kept buffer_check [] h, verdict_nil, probe_number)

    read_back_lem : {out : Buffers} {answer : Result Served Fault} → FramePromise (read_back m 1 0 1) lent out answer → EchoPromise m lent.hard out.hard answer
    unfolding buffers_for handed_out
    read_back_lem f =
        record {
          answered = answers _ refl f.answered;
          refused_keeps = λ e. ap (λ (b : Buffers). b.hard) (f.refused_keeps e);
          served_writes = λ e. ap (λ (b : Buffers). b.hard) (f.served_writes e);
          served_returns = λ e g. ap (λ (b : Buffers). b.hard) (f.served_writes e) ∙ rw (round_trip m zeros_i zeros_q verdict g 1 0 1);
        }

    echo : {out : Buffers} {answer : Result Served Fault} {gains : List ℕ} {q : ℕ} → gains ≡ first (λ _. m.gain) full_limits.symbols
        → q ≡ quadrature_length (message_modulation m) n → FramePromise (frame_read gains q) lent out answer
        → EchoPromise m lent.hard out.hard answer
    echo g h f = read_back_lem (rw (frame_is g h) at f)

-- the samples that a modulation has, by an equal modulation
quadrature_of : {p q : Modulation} (n : ℕ) {l : ℕ} → q ≡ p → l ≡ quadrature_length q n → l ≡ quadrature_length p n
quadrature_of n is e = e ∙ ap (λ (q : Modulation). quadrature_length q n) is

-- ---- the code, whose arrays are long enough for the longest frame

-- the buffer that is handed back is the one that was lent
handed_back : {m : Message} {lent out now : List ℕ} {answer : Result Served Fault} → EchoPromise m lent out answer → now ≡ out → EchoPromise m lent now answer
handed_back p e = rw e p

-- the number of symbols as a length
as_length : {m : Message} {zeros_i zeros_q out_i out_q : List ℤ} {n symbols : ℕ} → symbols ≡ n → MapPromise m zeros_i zeros_q out_i out_q (Ok n)
    → MapPromise m zeros_i zeros_q out_i out_q (Ok symbols)
as_length e p = rw e p

pub returns : goal.returns
unfolding first
returns c =
    let promise =
    echo (as_length c.from-symbols.ensures c.in_ok-map_bits.ensures) _ refl refl refl refl refl refl (quadrature_of _ c.modulation_of-modulation.ensures c.quadrature_length.ensures) c.demap_frame.ensures.promise in
    handed_back promise (search rules)

pub returns-in_err-map_bits : goal.returns-in_err-map_bits
returns-in_err-map_bits c =
    let handed = err_from_is_err_and c.from_residual.result c.from_residual.ensures.1 in
    rw (handed.1, handed.2) (refused refl refl c.in_err-map_bits.ensures)

pub overflow_cast-header : goal.overflow_cast-header
overflow_cast-header c = omega (arith, payload_few (as_length c.from-symbols.ensures c.in_ok-map_bits.ensures))

pub slice_bounds-gains-end : goal.slice_bounds-gains-end
slice_bounds-gains-end c = rw (counted (as_length c.from-symbols.ensures c.in_ok-map_bits.ensures)) (few (as_length c.from-symbols.ensures c.in_ok-map_bits.ensures))

pub slice_bounds-signal-end : goal.slice_bounds-signal-end
unfolding first
slice_bounds-signal-end c = length_gains (as_length c.from-symbols.ensures c.in_ok-map_bits.ensures) refl

pub slice_bounds-yi-end : goal.slice_bounds-yi-end
slice_bounds-yi-end c = part_within _ (length_i (as_length c.from-symbols.ensures c.in_ok-map_bits.ensures))

pub slice_bounds-signal-end-3 : goal.slice_bounds-signal-end-3
slice_bounds-signal-end-3 c = length_i (as_length c.from-symbols.ensures c.in_ok-map_bits.ensures)

pub slice_bounds-yq-end : goal.slice_bounds-yq-end
slice_bounds-yq-end c =
    part_within _ (length_q (as_length c.from-symbols.ensures c.in_ok-map_bits.ensures) (quadrature_of _ c.modulation_of-modulation.ensures c.quadrature_length.ensures))

pub slice_bounds-signal-end-4 : goal.slice_bounds-signal-end-4
slice_bounds-signal-end-4 c =
    length_q (as_length c.from-symbols.ensures c.in_ok-map_bits.ensures) (quadrature_of _ c.modulation_of-modulation.ensures c.quadrature_length.ensures)
