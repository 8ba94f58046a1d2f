-- `checked_setup` meets its contract: the checks of kind and bits stand before that of the payload. Assumes nothing.
use mathlib.Core.Path.{◌≡◌, refl, sym, ap, ◌∙◌}
use mathlib.Core.Bool.{Bool, true, false, cond, ◌||◌, not-eq-not}
use mathlib.Core.List.{List, [], ◌∷◌}
use Prim.Native.Nat.{ℕ, ◌≤◌}
use native.Mathlib.Omega.{arith}
use Rattle.std.proofs.Common.{◌≢◌}
use lib.Dec.{ltb, eqb}
use Rattle.std.specs.Prelude.{Err}
use Rattle.constellation.specs.declared.Modulation.{Modulation}
use Rattle.constellation.specs.Schemes.{bits_per_symbol}
use Rattle.frame.specs.declared.Refusal.TheVariants.{Kind, BitsPerSymbol, Payload}
use Rattle.frame.specs.Verdicts.{Passed, Failed}
use Rattle.frame.specs.Frame.{modulation_of, symbols_for}
use Rattle.frame.specs.declared.Limits.{Limits}
use Rattle.frame.specs.Checks.{Check, check, max_kind, bits_outside, verdict_of, modulation_checks}
use Rattle.frame.proofs.Checks.{verdict_append, verdict_front, handed_on, kept-checks}
use Rattle.header_checks.specs.declared.Setup.{Setup}
use Rattle.header_checks.specs.Called.{setup_for}
use Rattle.header_checks.proofs.Called.{passed_by, refused_by, is_passed, is_refused}
use Rattle.header_checks.proofs.checked_setup.Goals as goal

-- where kind and bits are in range, the payload decides
abbrev front : ℕ → ℕ → ℕ → List Check
front kind m_i m_q = check (ltb max_kind kind) Kind ∷ check (bits_outside kind m_i m_q) BitsPerSymbol ∷ []

module _ (limits : Limits) (kind m_i m_q payload : ℕ) where
  abbrev symbols : ℕ
  symbols = symbols_for (bits_per_symbol (modulation_of kind m_i m_q)) payload

  decided : (b : Bool) → verdict_of (front kind m_i m_q) ≡ Passed → eqb payload 0 || ltb limits.symbols symbols ≡ b
      → cond b (Failed Payload 0) Passed ≡ verdict_of (modulation_checks limits kind m_i m_q payload)
  unfolding modulation_checks verdict_of
  decided b e h = sym (verdict_append (front kind m_i m_q) (check (eqb payload 0 || ltb limits.symbols symbols) Payload ∷ []) e ∙ rw h)

  refused : ((payload ≢ 0) × (symbols ≤ limits.symbols) → ⊥) → eqb payload 0 || ltb limits.symbols symbols ≡ true
  refused h = (not-eq-not {b = true}).0 (simp kept-checks h)

  kept : (payload ≢ 0) × (symbols ≤ limits.symbols) → eqb payload 0 || ltb limits.symbols symbols ≡ false
  kept h = simp kept-checks h

-- what is called for, by the modulation and the symbols that the code makes
counted : (kind m_i m_q payload : ℕ) {m : Modulation} {b n : ℕ} → m ≡ modulation_of kind m_i m_q → b ≡ bits_per_symbol m → n ≡ symbols_for b payload
    → ◌≡◌ {A = Setup} (record { modulation = m; symbols = n; weighted = false }) (setup_for kind m_i m_q payload)
counted kind m_i m_q payload em eb en = rw (en, eb, em) refl

pub returns-in_err-modulation : goal.returns-in_err-modulation
unfolding modulation_checks
returns-in_err-modulation c =
    handed_on _ c.from_residual.ensures.1 (refused_by _ (sym (verdict_front (_ ∷ _ ∷ []) (_ ∷ []) (sym (is_refused _ _ c.in_err-modulation.ensures)))))

pub returns-then-limits-symbols : goal.returns-then-limits-symbols
returns-then-limits-symbols c =
    let (passed, is) = is_passed _ c.in_ok-modulation.ensures in
    let made = counted c.args.kind c.args.mi c.args.mq c.args.payload is c.bits_per_symbol.ensures c.symbols_for-symbols.ensures in
    let n = ap (λ (s : Setup). s.symbols) made in
    ap Err c.into.ensures ∙ refused_by _ (decided _ _ _ _ _ true passed (refused c.args.limits _ _ _ _ (λ h. omega (arith, n))))

pub returns-else-limits-symbols : goal.returns-else-limits-symbols
returns-else-limits-symbols c =
    let (passed, is) = is_passed _ c.in_ok-modulation.ensures in
    let made = counted c.args.kind c.args.mi c.args.mq c.args.payload is c.bits_per_symbol.ensures c.symbols_for-symbols.ensures in
    let n = ap (λ (s : Setup). s.symbols) made in
    passed_by (decided _ _ _ _ _ false passed (kept c.args.limits _ _ _ _ (omega (arith, n)))) made
