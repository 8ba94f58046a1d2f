-- `checked_header` meets its contract: the checks that mapping has too come first, and then weight, shift and limit. Assumes nothing.
use Rattle.std.specs.Prelude.{ℕ, Result, Ok, Err}
use mathlib.Core.Path.{◌≡◌, refl, sym, ap, ◌∙◌}
use mathlib.Core.Bool.{Bool, true, false, cond}
use mathlib.Core.List.{List, [], ◌∷◌}
use borrow.Author.Tests.{lt-ltb, le-ltb}
use lib.Dec.{ltb}
use Rattle.demapper.specs.Soft.{max_shift}
use Rattle.frame.specs.declared.Fault.{Fault}
use Rattle.frame.specs.declared.Header.{Header}
use Rattle.frame.specs.declared.Refusal.TheVariants.{Shift, Limit}
use Rattle.frame.specs.Verdicts.{Passed, Failed}
use Rattle.frame.specs.declared.Limits.{Limits}
use Rattle.frame.specs.Frame.{is_weighted, plain_kind}
use Rattle.frame.specs.Checks.{Check, check, verdict_of, outside, modulation_checks}
use Rattle.frame.specs.FrameCall.{weight_check, header_checks}
use Rattle.frame.proofs.Checks.{verdict_append, verdict_front, handed_on}
use Rattle.header_checks.specs.declared.Setup.{Setup}
use Rattle.header_checks.specs.Called.{checked, setup_for, header_setup}
use Rattle.header_checks.proofs.Called.{passed_by, refused_by, is_passed, is_refused}
use Rattle.header_checks.proofs.checked_header.Goals as goal

module _ (limits : Limits) (h : Header) where
  -- the checks that mapping has too, of the kind less 80 hexadecimal where that is added; that of the weight; and those behind
  abbrev shared : List Check
  shared = modulation_checks limits (plain_kind h.kind) h.bits_i h.bits_q h.payload

  abbrev weight : List Check
  weight = weight_check h ∷ []

  abbrev behind : List Check
  behind = check (ltb max_shift h.shift) Shift ∷ check (outside 1 limits.soft h.limit) Limit ∷ []

  -- where the checks before them are kept, shift and limit decide
  decided : (s t : Bool) → verdict_of shared ≡ Passed → verdict_of weight ≡ Passed → ltb max_shift h.shift ≡ s → outside 1 limits.soft h.limit ≡ t
      → cond s (Failed Shift 0) (cond t (Failed Limit 0) Passed) ≡ verdict_of (header_checks limits h)
  unfolding header_checks verdict_of
  decided s t front kept es et = sym (verdict_append shared _ front ∙ verdict_append weight behind kept ∙ rw (es, et))

  -- the header's checks, of a payload as a length
  module _ {payload : ℕ} (is : payload ≡ h.payload) where
    abbrev Shared : Result Setup Fault → Type 0
    Shared r = r ≡ checked (verdict_of (modulation_checks limits (plain_kind h.kind) h.bits_i h.bits_q payload)) (setup_for (plain_kind h.kind) h.bits_i h.bits_q payload)

    shared_refuses : {fault : Fault} → Shared (Err fault) → Err fault ≡ checked (verdict_of (header_checks limits h)) (header_setup h)
    unfolding header_checks
    shared_refuses r = refused_by _ (sym (verdict_front shared _ (sym (is_refused _ _ (rw is at r)))))

    shared_passes : {s : Setup} → Shared (Ok s) → (verdict_of shared ≡ Passed) × (s ≡ setup_for (plain_kind h.kind) h.bits_i h.bits_q h.payload)
    shared_passes r = is_passed _ (rw is at r)

  -- and that of the weight
  weight_refuses : {fault : Fault} → verdict_of shared ≡ Passed → Err fault ≡ verdict_of weight
      → Err fault ≡ checked (verdict_of (header_checks limits h)) (header_setup h)
  unfolding header_checks
  weight_refuses front r = refused_by _ (sym (verdict_append shared _ front ∙ verdict_front weight behind (sym r)))

pub returns-in_err-setup : goal.returns-in_err-setup
returns-in_err-setup c =
    handed_on _ c.from_residual.ensures.1 (shared_refuses c.args.limits c.args.header c.from.ensures (rw c.plain_kind.ensures at c.in_err-setup.ensures))

pub returns-in_err-weight_verdict : goal.returns-in_err-weight_verdict
returns-in_err-weight_verdict c =
    let (front, _) = shared_passes c.args.limits c.args.header c.from.ensures (rw c.plain_kind.ensures at c.in_ok-setup.ensures) in
    handed_on _ c.from_residual-in_err-weight_verdict.ensures.1 (weight_refuses c.args.limits c.args.header front c.in_err-weight_verdict.ensures)

-- what is known behind both
record Before (limits : Limits) (h : Header) (s : Setup) : Type 0 where
  front : verdict_of (shared limits h) ≡ Passed
  kept : verdict_of (weight limits h) ≡ Passed
  is : ◌≡◌ {A = Setup} (record { modulation = s.modulation; symbols = s.symbols; weighted = is_weighted h.kind }) (header_setup h)

before : (limits : Limits) (h : Header) {payload : ℕ} (same : payload ≡ h.payload) {s : Setup} → Shared limits h same (Ok s)
    → Passed ≡ verdict_of (weight limits h) → Before limits h s
before limits h same r e =
    let (front, is) = shared_passes limits h same r in
    record { front = front; kept = sym e; is = rw is refl }

pub returns-then-header-gt-MAX_SHIFT : goal.returns-then-header-gt-MAX_SHIFT
returns-then-header-gt-MAX_SHIFT c =
    let b = before c.args.limits c.args.header c.from.ensures (rw c.plain_kind.ensures at c.in_ok-setup.ensures) c.in_ok-weight_verdict.ensures in
    ap Err c.into.ensures ∙ refused_by _ (decided c.args.limits c.args.header true _ b.front b.kept (lt-ltb _ _ c.if-header-gt-MAX_SHIFT.true) refl)

pub returns-then-is_outside : goal.returns-then-is_outside
returns-then-is_outside c =
    let b = before c.args.limits c.args.header c.from.ensures (rw c.plain_kind.ensures at c.in_ok-setup.ensures) c.in_ok-weight_verdict.ensures in
    ap Err c.into-then-is_outside.ensures
    ∙ refused_by _ (decided c.args.limits c.args.header false true b.front b.kept (le-ltb _ _ c.if-header-gt-MAX_SHIFT.false) (sym c.is_outside.ensures ∙ c.if-is_outside.true))

pub returns-else-is_outside : goal.returns-else-is_outside
returns-else-is_outside c =
    let b = before c.args.limits c.args.header c.from.ensures (rw c.plain_kind.ensures at c.in_ok-setup.ensures) c.in_ok-weight_verdict.ensures in
    passed_by (decided c.args.limits c.args.header false false b.front b.kept (le-ltb _ _ c.if-header-gt-MAX_SHIFT.false) (sym c.is_outside.ensures ∙ c.if-is_outside.false)) (rw c.is_weighted.ensures b.is)
