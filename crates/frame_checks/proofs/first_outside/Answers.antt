-- `first_outside` meets its contract. The loop's invariant: the checks of the symbols passed are kept. Assumes nothing.
use mathlib.Core.Path.{◌≡◌, refl, sym, ◌∙◌}
use mathlib.Core.Bool.{Bool, true, false, ◌||◌}
use native.Mathlib.Numerals.{add-one}
use native.Mathlib.Omega.{arith}
use borrow.Author.Tests.{lt-ltb, le-ltb}
use lib.IntN.{ℤ, pos}
use lib.ListN.{get_or}
use Rattle.arithmetic.specs.Lists.{joined}
use Rattle.frame.specs.FrameCall.{sample_outside}
use Rattle.frame_checks.proofs.SymbolChecks.{symbol_verdict, sample_told}
use Rattle.frame.proofs.Checks.{verdict_nil, accepted_append, joined_refused}
use Rattle.frame_checks.proofs.first_outside.Goals as goal
use Rattle.frame_checks.proofs.first_outside.Goals.{then-sample_outside-via-then-sample_outside, then-sample_outside-via-else-sample_outside+then-sample_outside-2}

pub loop-n-init : goal.loop-n-init
unfolding joined
loop-n-init c = verdict_nil

pub returns-then-gains-n-gt-MAX_GAIN : goal.returns-then-gains-n-gt-MAX_GAIN
returns-then-gains-n-gt-MAX_GAIN c = sym (joined_refused _ _ _ (omega arith) c.loop-n.invariant (symbol_verdict _ _ _ _ c.loop-n.n true _ _ (lt-ltb _ _ c.if-gains-n-gt-MAX_GAIN.true) refl refl))

pub returns-then-weight_outside : goal.returns-then-weight_outside
returns-then-weight_outside c =
    sym (joined_refused _ _ _ (omega arith) c.loop-n.invariant
    (symbol_verdict _ _ _ _ c.loop-n.n false true _ (le-ltb _ _ c.if-gains-n-gt-MAX_GAIN.false) (sym c.weight_outside.ensures ∙ c.if-weight_outside.true) refl))

-- whether one of the samples is outside
outside : (y z : ℤ) {r : Bool} → sample_outside y ≡ r → r ≡ true → sample_outside y || sample_outside z ≡ true
outside y z e h = rw (e ∙ h)

other_outside : (y z : ℤ) {r q : Bool} → sample_outside y ≡ r → r ≡ false → sample_outside z ≡ q → sample_outside y || sample_outside z ≡ q
other_outside y z e h f = rw (e ∙ h) f

pub returns-then-sample_outside : goal.returns-then-sample_outside
returns-then-sample_outside c =
    let y = get_or c.args.symbols.yi.now c.loop-n.n (pos 0) in
    let z = get_or c.args.symbols.yq.now c.loop-n.n (pos 0) in
    let told : sample_outside y ≡ c.sample_outside.result = sample_told y (omega arith) c.sample_outside.ensures in
    let some : sample_outside y || sample_outside z ≡ true =
    elim c.then-sample_outside.branch [
      | then-sample_outside-via-then-sample_outside w ↦ outside y z told w.if-sample_outside.true
      | then-sample_outside-via-else-sample_outside+then-sample_outside-2 w ↦
          other_outside y z told w.if-sample_outside.false (sample_told z (omega arith) w.sample_outside-else-sample_outside.ensures)
          ∙ w.if-sample_outside-2.true
    ] in
    sym (joined_refused _ _ _ (omega arith) c.loop-n.invariant (symbol_verdict _ _ _ _ c.loop-n.n false false true (le-ltb _ _ c.if-gains-n-gt-MAX_GAIN.false) (sym c.weight_outside.ensures ∙ c.if-weight_outside.false) some))

pub loop-n-preserved : goal.loop-n-preserved
unfolding joined
loop-n-preserved c =
    let y = get_or c.args.symbols.yi.now c.loop-n.n (pos 0) in
    let z = get_or c.args.symbols.yq.now c.loop-n.n (pos 0) in
    let inside : sample_outside y || sample_outside z ≡ false =
    other_outside y z (sample_told y (omega arith) c.sample_outside.ensures) c.if-sample_outside.false
    (sample_told z (omega arith) c.sample_outside-else-sample_outside.ensures)
    ∙ c.if-sample_outside-2.false in
    rw add-one ((accepted_append _ _).1 (c.loop-n.invariant, symbol_verdict _ _ _ _ c.loop-n.n false false false (le-ltb _ _ c.if-gains-n-gt-MAX_GAIN.false) (sym c.weight_outside.ensures ∙ c.if-weight_outside.false) inside))
