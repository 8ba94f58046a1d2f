-- `serving::serve_line` meets its contract: what is parsed is the frame that the line stands for, which its symbols alone can refuse, as they do the line;
-- and where they pass, the head and the payload's soft values are written as the text of the answer. Assumes nothing.
use mathlib.Core.Path.{◌≡◌, refl, sym, ap, ap₂, ◌∙◌}
use mathlib.Core.Bool.{cond}
use mathlib.Core.List.{List}
use Prim.Native.Nat.{ℕ, ◌+◌, ◌*◌, ◌≤◌}
use native.Mathlib.Nat.{le_trans, mul-le-mul}
use native.Mathlib.Omega.{arith}
use lib.IntN.{ℤ}
use lib.ListN.{length, take}
use lib.Seq.{length-take-le}
use Rattle.std.proofs.lemmas.Result.{err_from_is_err_and}
use Rattle.arithmetic.specs.Lists.{first, joined}
use Rattle.arithmetic.proofs.Lists.{length_first}
use Rattle.arithmetic.proofs.Tests.{cond-≤}
use Rattle.constellation.specs.Ranges.{max_symbol_probes}
use Rattle.constellation.specs.Schemes.{probes_per_symbol, has_quadrature, quadrature_length}
use Rattle.constellation.proofs.Schemes.{probes_few, quadrature_all}
use Rattle.frame.specs.declared.Header.{Header}
use Rattle.frame.specs.Verdicts.{Verdict, Passed}
use Rattle.frame.specs.Limits.{full_limits}
use Rattle.frame.specs.Frame.{Frame, frame_from, modulation, symbol_count, header_weights}
use Rattle.frame.specs.Checks.{verdict_of}
use Rattle.frame.specs.FrameCall.{header_checks, symbol_checks}
use Rattle.frame.proofs.Order.{header_weight_few}
use Rattle.frame.proofs.Parts.{probe_count}
use Rattle.header_checks.specs.declared.Setup.{Setup}
use Rattle.header_checks.specs.Called.{header_setup}
use Rattle.line_text.specs.declared.LineLimits.{LineLimits}
use Rattle.line_text.specs.Line.{line_header, symbol_digits, symbol_at, gain_at, weight_at, in_phase_at, quadrature_at, line_length, line_frame}
use Rattle.line_text.specs.LineCall.{text_checks, frame_symbol_checks, line_verdict}
use Rattle.line_text.specs.Within.{field_checks}
use Rattle.line_text.proofs.AnswerText.{line_servable, frame_text_length}
use Rattle.line_text.proofs.LineChecks.{header_accepted, LineReady, line_ready, ready_symbols, line_by_symbols, header_scaled}
use Rattle.line_call.proofs.Answers.{refused_at, answered_at}
use Rattle.line_call.proofs.ServedLine.{ok, by_symbols, payload_ready, scale_is, text_written}
use Rattle.line_call.proofs.serving.serve_line.Goals as goal

-- ---- a line that is served: its header, what it calls for, and its checks

record Served (served : LineLimits) (h : Header) (s : Setup) (line : List ℕ) (room : ℕ) : Type 0 where
  header : h ≡ line_header line
  setup : s ≡ header_setup h
  text : verdict_of (text_checks served.limits line) ≡ Passed
  fields : verdict_of (field_checks served.limits line room) ≡ Passed

module _ {h : Header} {s : Setup} {line : List ℕ} {room : ℕ} where
  known : (served : LineLimits) → (h ≡ line_header line) × (s ≡ header_setup h) × (verdict_of (text_checks served.limits line) ≡ Passed)
      × (verdict_of (field_checks served.limits line room) ≡ Passed) → Served served h s line room
  known served (header, setup, text, fields) = record { header = header; setup = setup; text = text; fields = fields }

  module _ {served : LineLimits} (k : Served served h s line room) where
    ready : LineReady served.limits line room
    ready = line_ready _ line room k.text k.fields

    passes : verdict_of (header_checks served.limits h) ≡ Passed
    passes = rw k.header ready.header_passes

    -- there are no more symbols than the lists have room for, and the digits of all are there
    few : s.symbols ≤ full_limits.symbols
    few = rw (k.setup, k.header) (ready_symbols _ (line_servable served) ready)

    few_crossed : quadrature_length s.modulation s.symbols ≤ full_limits.symbols
    unfolding quadrature_length
    few_crossed = cond-≤ (has_quadrature s.modulation) few (omega arith)

    few_weights : cond s.weighted s.symbols 0 ≤ full_limits.symbols
    few_weights = cond-≤ s.weighted few (omega arith)

    symbols_there : symbol_at (symbol_digits s.weighted s.modulation) s.symbols ≤ length line
    unfolding line_length
    symbols_there = rw (k.setup, k.header) (omega (arith, ready.size))

    -- and no more probes
    probes_fit : {n : ℕ} → n ≡ probes_per_symbol s.modulation → s.symbols * n ≤ full_limits.symbols * max_symbol_probes
    probes_fit e =
        rw (e, k.setup, k.header) (mul-le-mul (rw (k.setup, k.header) at few) (probes_few _ (header_accepted served.limits (line_header line) ready.header_passes).bits_ok))

    -- the text of the answer has room
    text_there : 6 + h.payload * served.limits.digits ≤ room
    text_there = rw k.header ready.fits

-- ---- the frame that is parsed

abbrev digits : Setup → ℕ
digits s = symbol_digits s.weighted s.modulation

record Parsed (s : Setup) (line : List ℕ) (gains weights : List ℕ) (y_i y_q : List ℤ) : Type 0 where
  gains_read : gains ≡ first (gain_at (digits s) line) s.symbols
  weights_read : weights ≡ first (weight_at (digits s) line) (cond s.weighted s.symbols 0)
  in_phase_read : y_i ≡ first (in_phase_at s.weighted (digits s) line) s.symbols
  quadrature_read : y_q ≡ first (quadrature_at s.weighted (digits s) line) (quadrature_length s.modulation s.symbols)

-- into the start of lists that have room, of which that for weights is cut to so many as there are
parsed : {s : Setup} {line : List ℕ} (lent lent_weights : List ℕ) {gains weights : List ℕ} {y_i y_q : List ℤ} {own : ℕ} → s.symbols ≤ length lent
    → own ≡ cond s.weighted s.symbols 0 → own ≤ length lent_weights
    → gains ≡ first (gain_at (digits s) line) (length (take s.symbols lent))
    → weights ≡ first (weight_at (digits s) line) (length (take own lent_weights))
    → y_i ≡ first (in_phase_at s.weighted (digits s) line) (length (take s.symbols lent))
    → y_q ≡ first (quadrature_at s.weighted (digits s) line) (quadrature_length s.modulation (length (take s.symbols lent)))
    → Parsed s line gains weights y_i y_q
parsed {s} lent lent_weights {own = own} few is room g w i q =
    let long = length-take-le s.symbols lent few in
    let long_weights = length-take-le own lent_weights room in
    record { gains_read = rw long at g; weights_read = rw (long_weights, is) at w; in_phase_read = rw long at i; quadrature_read = rw long at q }

module _ {served : LineLimits} {h : Header} {s : Setup} {line : List ℕ} {room : ℕ} (k : Served served h s line room) {gains weights : List ℕ} {y_i y_q : List ℤ}
    (p : Parsed s line gains weights y_i y_q) where
  abbrev frame : Frame
  frame = frame_from h gains weights y_i y_q

  same : frame ≡ line_frame line
  unfolding line_frame header_weights
  same = rw (p.gains_read, p.weights_read, p.in_phase_read, p.quadrature_read, k.setup, k.header)

  symbols_is : s.symbols ≡ symbol_count frame
  unfolding symbol_count
  symbols_is = rw k.setup

  gained : length gains ≡ s.symbols
  gained = rw p.gains_read (length_first _ _)

  sampled : length y_i ≡ s.symbols
  sampled = rw p.in_phase_read (length_first _ _)

  crossed : length y_q ≡ quadrature_length s.modulation s.symbols
  crossed = rw p.quadrature_read (length_first _ _)

  weighed : length frame.weights ≡ header_weights frame.header
  unfolding header_weights
  weighed = rw (p.weights_read, length_first _ _, k.setup) refl

  counted : length frame.gains ≡ symbol_count frame
  counted = gained ∙ symbols_is

  lengths : (length gains ≤ full_limits.symbols) × (length y_i ≡ length gains) × ((length y_q ≡ 0 → ⊥) → length y_q ≡ length gains)
  lengths =
      (rw gained (few k), sampled ∙ sym gained, (λ some. crossed ∙ quadrature_all _ _ (λ z. some (crossed ∙ z)) ∙ sym gained))

  own : s.modulation ≡ modulation frame
  own = rw k.setup

  probes_is : {n : ℕ} → n ≡ probes_per_symbol s.modulation → s.symbols * n ≡ symbol_count frame * probes_per_symbol (modulation frame)
  probes_is e = ap₂ (λ a b. a * b) symbols_is (e ∙ ap probes_per_symbol own)

  sampled_all : length frame.y_i ≡ symbol_count frame
  sampled_all = sampled ∙ symbols_is

  -- the verdict of the symbols is that of the line
  module _ {v : Verdict} (e : v ≡ verdict_of (joined (symbol_checks gains weights y_i y_q) (length gains))) where
    symbols_decide : verdict_of (frame_symbol_checks frame) ≡ v
    symbols_decide = sym (by_symbols frame counted weighed) ∙ sym e

    decided : line_verdict served.limits line room ≡ v
    decided = line_by_symbols served.limits line room k.text k.fields ∙ rw (← same) symbols_decide

-- ---- the code

pub slice_bounds-gains-end : goal.slice_bounds-gains-end
slice_bounds-gains-end c = omega (arith, few (known c.args.served c.requires))

pub slice_bounds-weights-end : goal.slice_bounds-weights-end
slice_bounds-weights-end c = omega (arith, c.weights-own.ensures, few_weights (known c.args.served c.requires))

pub slice_bounds-yq-end : goal.slice_bounds-yq-end
slice_bounds-yq-end c = omega (arith, c.quadrature_length-second.ensures, few_crossed (known c.args.served c.requires))

pub parse_symbols-requires : goal.parse_symbols-requires
parse_symbols-requires c =
    let k = known c.args.served c.requires in
    let l = c.args.lists.now in
    let n = length-take-le c.args.setup.symbols l.gains (omega (arith, few k)) in
    let i = length-take-le c.args.setup.symbols l.yi (omega (arith, few k)) in
    let q = length-take-le c.quadrature_length-second.result l.yq (omega (arith, c.quadrature_length-second.ensures, few_crossed k)) in
    let w = length-take-le c.weights-own.result l.weights (omega (arith, c.weights-own.ensures, few_weights k)) in
    (rw n (symbols_there k), rw n (w ∙ c.weights-own.ensures), i ∙ sym n, rw n (q ∙ c.quadrature_length-second.ensures))

pub signal_verdict-requires : goal.signal_verdict-requires
signal_verdict-requires c =
    let k = known c.args.served c.requires in
    let r = c.parse_symbols.ensures in
    lengths k (parsed c.args.lists.now.gains c.args.lists.now.weights (omega (arith, few k)) c.weights-own.ensures (omega (arith, c.weights-own.ensures, few_weights k)) r.gain r.weight r.in_phase r.quadrature)

pub overflow_mul-probes : goal.overflow_mul-probes
overflow_mul-probes c = omega (arith, probes_fit (known c.args.served c.requires) c.probes_per_symbol.ensures)

pub overflow_cast-probes : goal.overflow_cast-probes
overflow_cast-probes c = omega (arith, probes_fit (known c.args.served c.requires) c.probes_per_symbol.ensures)

pub write_head-requires : goal.write_head-requires
write_head-requires c = omega (arith, text_there (known c.args.served c.requires))

pub new-demapper-requires : goal.new-demapper-requires
new-demapper-requires c =
    let (w, s, t) = header_scaled _ _ (passes (known c.args.served c.requires)) in
    (header_weight_few w, s, le_trans t c.args.served.soft)

pub overflow_add-at : goal.overflow_add-at
overflow_add-at c = omega (arith, text_there (known c.args.served c.requires))

pub write_payload-requires : goal.write_payload-requires
write_payload-requires c =
    let k = known c.args.served c.requires in
    let r = c.parse_symbols.ensures in
    let there : c.args.setup.symbols ≤ length c.args.lists.now.gains = omega (arith, few k) in
    let p = parsed c.args.lists.now.gains c.args.lists.now.weights there c.weights-own.ensures (omega (arith, c.weights-own.ensures, few_weights k)) r.gain r.weight r.in_phase r.quadrature in
    let is = c.new-demapper.ensures.modulation ∙ own k p in
    let (samples, weights, symbols) = payload_ready (frame k p) (counted k p) (weighed k p) (line_servable c.args.served) (passes k) is (sampled_all k p) (symbols_decide k p c.in_ok-signal_verdict.ensures) in
    (samples, weights, symbols, rw (c.from.ensures, c.args.served.digits) (omega (arith, text_there k, c.write_head.auto.text)))

pub returns-in_err-signal_verdict : goal.returns-in_err-signal_verdict
returns-in_err-signal_verdict c =
    let k = known c.args.served c.requires in
    let r = c.parse_symbols.ensures in
    let there : c.args.setup.symbols ≤ length c.args.lists.now.gains = omega (arith, few k) in
    let p = parsed c.args.lists.now.gains c.args.lists.now.weights there c.weights-own.ensures (omega (arith, c.weights-own.ensures, few_weights k)) r.gain r.weight r.in_phase r.quadrature in
    let handed = err_from_is_err_and c.from_residual.result c.from_residual.ensures.1 in
    rw (handed.1, handed.2) (refused_at (decided k p c.in_err-signal_verdict.ensures))

pub returns : goal.returns
returns c =
    let k = known c.args.served c.requires in
    let r = c.parse_symbols.ensures in
    let there : c.args.setup.symbols ≤ length c.args.lists.now.gains = omega (arith, few k) in
    let p = parsed c.args.lists.now.gains c.args.lists.now.weights there c.weights-own.ensures (omega (arith, c.weights-own.ensures, few_weights k)) r.gain r.weight r.in_phase r.quadrature in
    let f = frame k p in
    let servable = line_servable c.args.served in
    let good = ok f (counted k p) (weighed k p) servable (passes k) in
    let d = c.new-demapper.ensures in
    let rounded = scale_is f (counted k p) (weighed k p) servable (passes k) d.scale (own k p) in
    let probes = probes_is k p c.probes_per_symbol.ensures ∙ sym (probe_count f) in
    let room : c.args.at + 6 ≤ length c.args.answer.now = omega (arith, text_there k) in
    let softs = rw (c.args.served.digits, c.from.ensures) at c.write_payload.ensures in
    let long = c.text_length.ensures ∙ ap (λ (d : ℕ). 6 + c.args.header.payload * d) c.args.served.digits in
    let written = text_written f (counted k p) (weighed k p) servable (passes k) c.args.answer.now c.args.at (d.modulation ∙ own k p) rounded probes room c.write_head.ensures softs in
    answered_at (decided k p c.in_ok-signal_verdict.ensures) (long ∙ rw (← same k p) (sym (frame_text_length _ f good))) (rw (← same k p) written)
