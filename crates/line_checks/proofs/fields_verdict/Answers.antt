-- `fields_verdict` meets its contract: the header decides, and where it passes the length that it calls for and the room for the answer. Assumes nothing.
use Rattle.std.specs.Prelude.{Ok, Err}
use mathlib.Core.Path.{◌≡◌, refl, sym, ap, ◌∙◌}
use mathlib.Core.Bool.{Bool, true, false, cond, not}
use mathlib.Core.List.{List}
use Prim.Native.Nat.{ℕ, ◌+◌, ◌*◌, ◌≤◌}
use native.Mathlib.Nat.{le_trans, mul-le-mul}
use native.Mathlib.Omega.{arith}
use borrow.Author.Tests.{lt-ltb, le-ltb, eq-eqb, ne_eqb}
use lib.Dec.{ltb, eqb}
use lib.ListN.{length}
use Rattle.frame.specs.declared.Header.{Header}
use Rattle.frame.specs.declared.Refusal.TheVariants.{LineLengthForHeader, OutputTooShort}
use Rattle.frame.specs.Verdicts.{Verdict, Passed, Failed}
use Rattle.frame.specs.declared.Limits.{Limits}
use Rattle.frame.specs.Checks.{verdict_of}
use Rattle.frame.specs.FrameCall.{header_checks}
use Rattle.line_text.specs.Line.{line_header, symbol_digits, line_length}
use Rattle.line_text.specs.LineCall.{size_checks}
use Rattle.line_text.specs.Within.{field_checks}
use Rattle.line_text.specs.declared.LineLimits.{LineLimits}
use Rattle.line_text.proofs.LineChecks.{header_accepted, line_text_length, symbol_digits_few}
use Rattle.frame.proofs.Checks.{verdict_append, verdict_front, handed_on}
use Rattle.header_checks.specs.declared.Setup.{Setup}
use Rattle.header_checks.specs.Called.{checked, header_setup}
use Rattle.header_checks.proofs.Called.{passed_by, refused_by, is_passed, is_refused}
use Rattle.line_checks.proofs.fields_verdict.Goals as goal

-- the two tests decide
decided : (limits : Limits) (line : List ℕ) (room : ℕ) (h : Header) (l o : Bool) → h ≡ line_header line → verdict_of (header_checks limits h) ≡ Passed
    → eqb (length line) (line_length h) ≡ l → ltb room (6 + h.payload * limits.digits) ≡ o
    → verdict_of (size_checks limits line room) ≡ cond (not l) (Failed LineLengthForHeader 0) (cond o (Failed OutputTooShort 0) Passed)
unfolding size_checks verdict_of
decided limits line room h l o e passed el eo = rw (line_text_length limits line (rw e at passed), ← e, el, eo)

-- the length that the code counts, from what the header calls for
counted : (h : Header) {s : Setup} {d : ℕ} → s ≡ header_setup h → d ≡ symbol_digits s.weighted s.modulation → 20 + s.symbols * d ≡ line_length h
unfolding line_length
counted h is e = rw (e, is) refl

-- what a header that passes calls for is so few that nothing wraps
few : (served : LineLimits) (h : Header) (weighted : Bool) {s : Setup} {d : ℕ} → Ok s ≡ checked (verdict_of (header_checks served.limits h)) (header_setup h)
    → d ≡ symbol_digits weighted s.modulation → s.symbols * d ≤ 256 * 24
few served h weighted {s} made e =
    let (passed, is) = is_passed _ made in
    let bound : s.symbols ≤ 256 = rw (ap (λ (s : Setup). s.symbols) is) (le_trans (header_accepted served.limits h passed).symbols_few served.symbols) in
    rw e (mul-le-mul bound (symbol_digits_few weighted s.modulation))

-- the checks of the header come first
module _ (limits : Limits) (room : ℕ) {h : Header} (passed : verdict_of (header_checks limits h) ≡ Passed) where
  by_sizes : {v : Verdict} (line : List ℕ) → h ≡ line_header line → v ≡ verdict_of (size_checks limits line room) → v ≡ verdict_of (field_checks limits line room)
  by_sizes line is e = e ∙ sym (verdict_append _ _ (rw is at passed))

pub returns-in_err-setup : goal.returns-in_err-setup
returns-in_err-setup c line long is =
    handed_on _ c.from_residual.ensures.1 (refused_by _ (sym (verdict_front _ _ (rw is at (sym (is_refused _ _ c.in_err-setup.ensures))))))

pub overflow_mul-setup : goal.overflow_mul-setup
overflow_mul-setup c = omega (arith, few c.args.served c.args.header _ c.in_ok-setup.ensures c.symbol_digits.ensures)

pub overflow_add-setup : goal.overflow_add-setup
overflow_add-setup c = omega (arith, few c.args.served c.args.header _ c.in_ok-setup.ensures c.symbol_digits.ensures)

pub returns-then-characters-setup : goal.returns-then-characters-setup
returns-then-characters-setup c line long is =
    let (passed, made) = is_passed _ c.in_ok-setup.ensures in
    let n = counted c.args.header made c.symbol_digits.ensures in
    let differ = ne_eqb _ _ (λ e. c.if-characters-setup.true (sym long ∙ e ∙ sym n)) in
    refused_by _ (ap Err c.into.ensures ∙ by_sizes _ _ passed line is (sym (decided _ _ _ _ false _ is passed differ refl)))

pub returns-then-room-text_length : goal.returns-then-room-text_length
returns-then-room-text_length c line long is =
    let (passed, made) = is_passed _ c.in_ok-setup.ensures in
    let same = eq-eqb _ _ (long ∙ c.if-characters-setup.false ∙ counted c.args.header made c.symbol_digits.ensures) in
    let short = lt-ltb _ _ (rw (c.text_length.ensures, c.args.served.digits) at c.if-room-text_length.true) in
    refused_by _ (ap Err c.into-then-room-text_length.ensures ∙ by_sizes _ _ passed line is (sym (decided _ _ _ _ true true is passed same short)))

pub returns-else-room-text_length : goal.returns-else-room-text_length
returns-else-room-text_length c line long is =
    let (passed, made) = is_passed _ c.in_ok-setup.ensures in
    let same = eq-eqb _ _ (long ∙ c.if-characters-setup.false ∙ counted c.args.header made c.symbol_digits.ensures) in
    let there = le-ltb _ _ (rw (c.text_length.ensures, c.args.served.digits) at c.if-room-text_length.false) in
    passed_by (by_sizes _ _ passed line is (sym (decided _ _ _ _ true false is passed same there))) made
