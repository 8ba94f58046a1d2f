-- `frame_verdict` meets its contract: the header, the lengths of input and output, and then the symbols, decide. Assumes nothing.
use Rattle.std.specs.Prelude.{Ok, Err}
use mathlib.Core.Path.{◌≡◌, refl, sym, ap, ◌∙◌}
use mathlib.Core.Bool.{Bool, true, false, cond, not-eq-not}
use Prim.Native.Nat.{ℕ, ◌*◌, ◌≤◌}
use native.Mathlib.Nat.{mul-le-mul}
use native.Mathlib.Omega.{arith}
use lib.ListN.{length}
use Rattle.arithmetic.specs.Lists.{joined}
use Rattle.arithmetic.proofs.Tests.{tests-false}
use Rattle.frame.specs.declared.Refusal.TheVariants.{InputLength, OutputTooShort}
use Rattle.frame.specs.declared.Room.{Room}
use Rattle.frame.specs.declared.Header.{Header}
use Rattle.frame.specs.declared.Limits.{Limits}
use Rattle.frame.specs.Verdicts.{Verdict, Passed, Failed}
use Rattle.frame.specs.Limits.{full_limits}
use Rattle.frame.specs.Frame.{Frame, frame_of, plain_kind, modulation, symbol_count, header_weights}
use Rattle.constellation.specs.Schemes.{probes_per_symbol, quadrature_length}
use Rattle.frame.specs.Checks.{verdict_of}
use Rattle.frame.specs.FrameCall.{symbol_checks, input_lengths_differ, outputs_too_short, header_checks, input_checks, frame_checks}
use Rattle.constellation.proofs.Schemes.{probes_few, quadrature_all}
use Rattle.frame.proofs.Checks.{verdict_append, verdict_front, handed_on, accepted_append, ModulationAccepted, modulation_accepted}
use Rattle.frame.proofs.Parts.{probe_count}
use Rattle.header_checks.specs.declared.Setup.{Setup}
use Rattle.header_checks.specs.Called.{checked, header_setup}
use Rattle.header_checks.proofs.Called.{passed_by, refused_by, is_passed, is_refused}
use Rattle.frame_checks.proofs.frame_verdict.Goals as goal

-- the checks of the header come first
by_input : (limits : Limits) (f : Frame) (room : Room) {v : Verdict} → verdict_of (header_checks limits f.header) ≡ Passed → v ≡ verdict_of (input_checks f room)
    → v ≡ verdict_of (frame_checks limits f room)
unfolding frame_checks
by_input limits f room passed e = e ∙ sym (verdict_append _ _ passed)

decided : (f : Frame) (room : Room) (i o : Bool) → input_lengths_differ f ≡ i → outputs_too_short f room ≡ o
    → verdict_of (input_checks f room)
    ≡ cond i (Failed InputLength 0) (cond o (Failed OutputTooShort 0) (verdict_of (joined (symbol_checks f.gains f.weights f.y_i f.y_q) (symbol_count f))))
unfolding input_checks verdict_of
decided f room i o h k = rw (h, k)

known : (limits : Limits) (h : Header) → verdict_of (header_checks limits h) ≡ Passed → ModulationAccepted limits (plain_kind h.kind) h.bits_i h.bits_q h.payload
unfolding header_checks
known limits h e = modulation_accepted limits _ _ _ _ ((accepted_append _ _).0 e).0

few : (limits : Limits) (f : Frame) → limits.symbols ≤ full_limits.symbols → verdict_of (header_checks limits f.header) ≡ Passed
    → symbol_count f ≤ full_limits.symbols
unfolding symbol_count
few limits f h e = omega (arith, (known limits f.header e).symbols_few)

-- a header that passes its checks, and the counts that the code makes by it: symbols, weights, samples of the second coordinate and probes
record Counts (limits : Limits) (f : Frame) (s : Setup) (w q m : ℕ) : Type 0 where
  pub kept : verdict_of (header_checks limits f.header) ≡ Passed
  pub is : s ≡ header_setup f.header
  pub symbols : s.symbols ≡ symbol_count f
  pub weights : w ≡ header_weights f.header
  pub second : q ≡ quadrature_length (modulation f) (symbol_count f)
  pub probes : m ≡ symbol_count f * probes_per_symbol (modulation f)

made : (f : Frame) {limits : Limits} {s : Setup} {w q p : ℕ} → Ok s ≡ checked (verdict_of (header_checks limits f.header)) (header_setup f.header)
    → w ≡ cond s.weighted s.symbols 0 → q ≡ quadrature_length s.modulation s.symbols → p ≡ probes_per_symbol s.modulation → Counts limits f s w q (s.symbols * p)
unfolding symbol_count header_weights
made f passed ew eq ep =
    let (kept, is) = is_passed _ passed in
    let symbols = ap (λ (s : Setup). s.symbols) is in
    let own = ap (λ (s : Setup). s.modulation) is in
    record { kept = kept; is = is; symbols = symbols; weights = ew ∙ rw is; second = eq ∙ rw (own, symbols); probes = rw (symbols, ep, own) }

-- the first test
lengths_same : (f : Frame) {limits : Limits} {s : Setup} {w q m : ℕ} → Counts limits f s w q m → (length f.gains ≡ s.symbols) × (length f.weights ≡ w) × (length f.y_i ≡ s.symbols) × (length f.y_q ≡ q) → input_lengths_differ f ≡ false
unfolding input_lengths_differ
lengths_same f k h = simp tests-false (omega (arith, k.symbols, k.weights, k.second))

lengths_differ : (f : Frame) {limits : Limits} {s : Setup} {w q m : ℕ} → Counts limits f s w q m
    → ((length f.gains ≡ s.symbols) × (length f.weights ≡ w) × (length f.y_i ≡ s.symbols) × (length f.y_q ≡ q) → ⊥) → input_lengths_differ f ≡ true
unfolding input_lengths_differ
lengths_differ f k h = (not-eq-not {b = true}).0 (simp tests-false (λ same. h (omega (arith, k.symbols, k.weights, k.second))))

-- and the second
outputs_fit : (f : Frame) (room : Room) {limits : Limits} {s : Setup} {w q m : ℕ} → Counts limits f s w q m
    → (f.header.payload ≤ room.hard) × (f.header.payload ≤ room.soft) × (m ≤ room.indices) × (m ≤ room.costs) → outputs_too_short f room ≡ false
unfolding outputs_too_short
outputs_fit f room k h = simp tests-false (omega (arith, k.probes, probe_count f))

outputs_short : (f : Frame) (room : Room) {limits : Limits} {s : Setup} {w q m : ℕ} → Counts limits f s w q m
    → ((f.header.payload ≤ room.hard) × (f.header.payload ≤ room.soft) × (m ≤ room.indices) × (m ≤ room.costs) → ⊥) → outputs_too_short f room ≡ true
unfolding outputs_too_short
outputs_short f room k h = (not-eq-not {b = true}).0 (simp tests-false (λ fit. h (omega (arith, k.probes, probe_count f))))

pub returns-in_err-setup : goal.returns-in_err-setup
unfolding frame_checks
returns-in_err-setup c =
    handed_on _ c.from_residual.ensures.1 (refused_by _ (sym (verdict_front _ _ (sym (is_refused _ _ c.in_err-setup.ensures)))))

pub overflow_mul-probes : goal.overflow_mul-probes
overflow_mul-probes c =
    let f = frame_of c.args.header c.args.signal in
    let k = made f c.in_ok-setup.ensures c.weights-own.ensures c.quadrature_length-second.ensures c.probes_per_symbol.ensures in
    rw k.probes (omega (arith, mul-le-mul (few c.args.limits f c.requires k.kept) (probes_few (modulation f) (known c.args.limits f.header k.kept).bits_ok)))

pub signal_verdict-requires : goal.signal_verdict-requires
signal_verdict-requires c =
    let f = frame_of c.args.header c.args.signal in
    let k = made f c.in_ok-setup.ensures c.weights-own.ensures c.quadrature_length-second.ensures c.probes_per_symbol.ensures in
    let (gains, _, in-phase, quadrature) = c.if-yq-second.false in
    let second : length c.args.signal.yq.now ≡ quadrature_length (modulation f) (symbol_count f) = quadrature ∙ k.second in (
      omega (arith, gains, k.symbols, few c.args.limits f c.requires k.kept),
      omega (arith, gains, in-phase),
      (λ some. second ∙ quadrature_all (modulation f) (symbol_count f) (λ z. some (second ∙ z)) ∙ sym (gains ∙ k.symbols)),
    )

pub returns-then-yq-second : goal.returns-then-yq-second
returns-then-yq-second c =
    let f = frame_of c.args.header c.args.signal in
    let k = made f c.in_ok-setup.ensures c.weights-own.ensures c.quadrature_length-second.ensures c.probes_per_symbol.ensures in
    refused_by _ (by_input _ f _ k.kept (ap Err c.into.ensures ∙ sym (decided f c.args.room true _ (lengths_differ f k (λ same. grind arith)) refl)))

pub returns-then-room-probes-2 : goal.returns-then-room-probes-2
returns-then-room-probes-2 c =
    let f = frame_of c.args.header c.args.signal in
    let k = made f c.in_ok-setup.ensures c.weights-own.ensures c.quadrature_length-second.ensures c.probes_per_symbol.ensures in
    refused_by _ (by_input _ f _ k.kept
    (ap Err c.into-then-room-probes-2.ensures ∙ sym (decided f c.args.room false true (lengths_same f k c.if-yq-second.false) (outputs_short f c.args.room k (λ fit. grind arith)))))

-- where lengths and room are right, the symbols decide
by_symbols : (limits : Limits) (f : Frame) (room : Room) {s : Setup} {w q m : ℕ} {v : Verdict} → Counts limits f s w q m
    → (length f.gains ≡ s.symbols) × (length f.weights ≡ w) × (length f.y_i ≡ s.symbols) × (length f.y_q ≡ q)
    → (f.header.payload ≤ room.hard) × (f.header.payload ≤ room.soft) × (m ≤ room.indices) × (m ≤ room.costs)
    → v ≡ verdict_of (joined (symbol_checks f.gains f.weights f.y_i f.y_q) (length f.gains)) → v ≡ verdict_of (frame_checks limits f room)
by_symbols limits f room k same fit e =
    by_input limits f room k.kept (e ∙ rw (same.0 ∙ k.symbols) (sym (decided f room false false (lengths_same f k same) (outputs_fit f room k fit))))

pub returns-in_err-signal_verdict : goal.returns-in_err-signal_verdict
returns-in_err-signal_verdict c =
    let f = frame_of c.args.header c.args.signal in
    let k = made f c.in_ok-setup.ensures c.weights-own.ensures c.quadrature_length-second.ensures c.probes_per_symbol.ensures in
    handed_on _ c.from_residual-in_err-signal_verdict.ensures.1
    (refused_by _ (by_symbols _ f c.args.room k c.if-yq-second.false (rw c.from-payload.ensures at c.if-room-probes-2.false) c.in_err-signal_verdict.ensures))

pub returns-in_ok-signal_verdict : goal.returns-in_ok-signal_verdict
returns-in_ok-signal_verdict c =
    let f = frame_of c.args.header c.args.signal in
    let k = made f c.in_ok-setup.ensures c.weights-own.ensures c.quadrature_length-second.ensures c.probes_per_symbol.ensures in
    passed_by (by_symbols _ f c.args.room k c.if-yq-second.false (rw c.from-payload.ensures at c.if-room-probes-2.false) c.in_ok-signal_verdict.ensures) k.is
