-- `sizes_within` meets its contract: the header's checks decide; each size is that of the definition, and none wraps. Assumes nothing.
use mathlib.Core.Path.{◌≡◌, refl, sym, ap, ◌∙◌}
use mathlib.Core.Bool.{Bool}
use Prim.Native.Nat.{ℕ, ◌+◌, ◌*◌, ◌≤◌}
use native.Mathlib.Nat.{le_trans, mul-le-mul}
use native.Mathlib.Omega.{arith}
use Rattle.constellation.specs.Schemes.{probes_per_symbol, quadrature_length}
use Rattle.constellation.proofs.Schemes.{probes_few, quadrature_few}
use Rattle.frame.specs.Frame.{plain_kind}
use Rattle.frame.specs.declared.Header.{Header}
use Rattle.frame.specs.declared.Limits.{Limits}
use Rattle.frame.specs.Verdicts.{Verdict}
use Rattle.frame.specs.Checks.{verdict_of}
use Rattle.frame.specs.FrameCall.{header_checks}
use Rattle.line_text.specs.declared.LineLimits.{LineLimits}
use Rattle.line_text.specs.Answer.{softs_at}
use Rattle.sizes.specs.declared.Sizes.{Sizes}
use Rattle.line_text.specs.Line.{header_digits, symbol_digits, line_length}
use Rattle.line_text.proofs.LineChecks.{header_accepted, symbol_digits_few}
use Rattle.sizes.specs.Sizes.{header_probes, answer_length, sized, sizes_for, sizes_answer}
use Rattle.std.specs.Prelude.{Ok}
use Rattle.std.proofs.lemmas.Result.{err_from_is_err_and}
use Rattle.header_checks.specs.declared.Setup.{Setup}
use Rattle.header_checks.specs.Called.{checked, header_setup}
use Rattle.header_checks.proofs.Called.{is_passed, is_refused}
use Rattle.frame.proofs.Checks.{ModulationAccepted}
use Rattle.sizes.proofs.SizesFit.{sizes_promised}
use Rattle.sizes.proofs.sizes_within.Goals as goal

-- what a header that passes calls for is so few that nothing wraps
module _ (served : LineLimits) (h : Header) {s : Setup} (made : Ok s ≡ checked (verdict_of (header_checks served.limits h)) (header_setup h)) where
  accepted : ModulationAccepted served.limits (plain_kind h.kind) h.bits_i h.bits_q h.payload
  accepted = header_accepted served.limits h (is_passed _ made).0

  few : s.symbols ≤ 256
  few = rw (ap (λ (s : Setup). s.symbols) (is_passed _ made).1) (le_trans accepted.symbols_few served.symbols)

  few_probes : {p : ℕ} → p ≡ probes_per_symbol s.modulation → s.symbols * p ≤ 256 * 14
  few_probes e = mul-le-mul {m₂ = 14} few (rw (e, ap (λ (s : Setup). s.modulation) (is_passed _ made).1) (probes_few _ accepted.bits_ok))

  few_digits : (weighted : Bool) {d : ℕ} → d ≡ symbol_digits weighted s.modulation → s.symbols * d ≤ 256 * 24
  few_digits weighted e = mul-le-mul {m₂ = 24} few (rw e (symbol_digits_few weighted s.modulation))

-- the sizes are those of the definition
made : (limits : Limits) (h : Header) {s : Setup} {q p d t : ℕ} → s ≡ header_setup h → q ≡ quadrature_length s.modulation s.symbols
    → p ≡ probes_per_symbol s.modulation → d ≡ symbol_digits s.weighted s.modulation → t ≡ softs_at + h.payload * limits.digits
    → ◌≡◌ {A = Sizes} (record { symbols = s.symbols; quadrature = q; probes = s.symbols * p; line = header_digits + s.symbols * d; answer = t }) (sized limits h)
unfolding sized header_probes answer_length line_length
made limits h es eq ep ed et = rw (eq, ep, ed, et, es) refl

-- the answer of a verdict is that of the header
answer_by : (limits : Limits) (h : Header) (v : Verdict) → verdict_of (header_checks limits h) ≡ v → sizes_for v limits h ≡ sizes_answer limits h
unfolding sizes_answer
answer_by limits h v e = ap (λ (w : Verdict). sizes_for w limits h) (sym e)

pub returns-in_err-setup : goal.returns-in_err-setup
unfolding sizes_for
returns-in_err-setup c =
    let handed = err_from_is_err_and c.from_residual.result c.from_residual.ensures.1 in
    sizes_promised _ _ (rw (handed.1, handed.2) (answer_by _ _ _ (sym (is_refused _ _ c.in_err-setup.ensures))))

pub returns : goal.returns
unfolding sizes_for
returns c =
    let (passed, is) = is_passed _ c.in_ok-setup.ensures in
    let all = made c.args.served.limits c.args.header is c.quadrature_length.ensures c.probes_per_symbol.ensures c.symbol_digits.ensures (rw c.args.served.digits at c.text_length.ensures) in
    sizes_promised _ _ (ap Ok all ∙ answer_by _ _ _ passed)

pub overflow_cast-result : goal.overflow_cast-result
overflow_cast-result c = omega (arith, few c.args.served c.args.header c.in_ok-setup.ensures)

pub overflow_cast-result-2 : goal.overflow_cast-result-2
overflow_cast-result-2 c = omega (arith, few c.args.served c.args.header c.in_ok-setup.ensures, c.quadrature_length.ensures, quadrature_few c.in_ok-setup.setup.modulation c.in_ok-setup.setup.symbols)

pub overflow_mul-result : goal.overflow_mul-result
overflow_mul-result c = omega (arith, few_probes c.args.served c.args.header c.in_ok-setup.ensures c.probes_per_symbol.ensures)

pub overflow_cast-result-3 : goal.overflow_cast-result-3
overflow_cast-result-3 c = omega (arith, few_probes c.args.served c.args.header c.in_ok-setup.ensures c.probes_per_symbol.ensures)

pub overflow_mul-result-2 : goal.overflow_mul-result-2
overflow_mul-result-2 c = omega (arith, few_digits c.args.served c.args.header c.in_ok-setup.ensures _ c.symbol_digits.ensures)

pub overflow_add-result : goal.overflow_add-result
overflow_add-result c = omega (arith, few_digits c.args.served c.args.header c.in_ok-setup.ensures _ c.symbol_digits.ensures)

pub overflow_cast-result-4 : goal.overflow_cast-result-4
overflow_cast-result-4 c = omega (arith, few_digits c.args.served c.args.header c.in_ok-setup.ensures _ c.symbol_digits.ensures)
