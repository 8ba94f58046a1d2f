-- `last_line` meets its contract: where nothing is held there is none, and else it is the line that is held. Assumes nothing.
use mathlib.Core.Path.{◌≡◌, refl, ap, ◌∙◌}
use mathlib.Core.List.{List, [], ◌∷◌}
use Prim.Native.Nat.{ℕ, ◌<◌, ◌≤◌}
use native.Mathlib.Omega.{arith}
use lib.ListN.{length, take, length-take}
use Rattle.line_cut.specs.declared.Held.TheVariants.{Within}
use Rattle.line_cut.specs.declared.Held.{Held}
use Rattle.line_cut.specs.Lines.{last_line}
use Rattle.line_cut.specs.Cut.{Overlong, HoldsIn}
use Rattle.line_cut.proofs.Pending.{last_some, held_nothing, whole_line, long_line}
use Rattle.line_cut.proofs.last_line.Goals as goal

module _ {held : Held} {buffer pending : List ℕ} (holds : HoldsIn held buffer pending) where
  last_whole : {n : ℕ} → held ≡ Within n → 0 < n → n ≤ length buffer → last_line pending ≡ take n buffer ∷ []
  last_whole {n} is some short =
      let e = whole_line holds is short in
      last_some pending (rw (e, length-take) (omega arith)) ∙ ap (λ l. l ∷ []) e

  last_long : Overlong held (length buffer) → (l : List ℕ) × (last_line pending ≡ l ∷ []) × (length buffer < length l)
  last_long long =
      let longer = long_line holds long in
      (pending, last_some pending (omega arith), longer)

pub returns-in-Within-eq0 : goal.returns-in-Within-eq0
unfolding last_line
returns-in-Within-eq0 c pending holds piece =
    let none : c.in-Within-eq0.length ≡ 0 = omega (arith, c.in-Within-eq0.length-is, c.in-Within-eq0.length-test) in
    rw (held_nothing holds (rw none at c.in-Within-eq0.is)) refl

pub returns-in-Within : goal.returns-in-Within
returns-in-Within c pending holds piece =
    let some = rw c.in-Within.is at c.in-Within.length-test.1 in
    let short : c.in-Within.length ≤ length c.args.buffer.now = omega (arith, c.if-length-buffer.true) in
    (short, last_whole holds c.in-Within.is (omega (arith, some)) short)

pub returns-in_default : goal.returns-in_default
returns-in_default c pending holds piece =
    last_long holds (rw c.in-Within.is (omega (arith, c.if-length-buffer.false)))

pub returns-in_default-2 : goal.returns-in_default-2
returns-in_default-2 c pending holds piece = last_long holds (rw c.in_default.is tt)
