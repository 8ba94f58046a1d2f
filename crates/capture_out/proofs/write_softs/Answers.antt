-- `write_softs` meets its contract. Assumes nothing.
use mathlib.Core.Path.{◌≡◌, refl}
use mathlib.Core.List.{List}
use Prim.Native.Nat.{ℕ, ◌<◌}
use native.Mathlib.Omega.{arith}
use borrow.Author.Rules.{rules}
use borrow.Author.Count.{below_none, below_more}
use lib.IntN.{ℤ, pos}
use lib.ListN.{length, get_or}
use lib.Ieee.{Float, nan}
use mir.Syntax.{w16}
use mir.Val.{SFits}
use mir.Facts.{to_z-of_z}
use Rattle.arithmetic.specs.Lists.{first, over}
use Rattle.arithmetic.proofs.Lists.{get_d_over, filled_none, filled_more}
use Rattle.binary32.proofs.SoftValues.{soft_size, soft_exact}
use Rattle.capture.specs.SoftOut.{converted_softs}
use Rattle.capture.specs.Converting.{SoftsWritten}
use Rattle.capture_out.proofs.write_softs.Invariants.{ExactAt, soft_at}
use Rattle.capture_out.proofs.write_softs.Goals as goal

all_written : {f : ℕ} {vs : List ℤ} {lent out : List Float} → out ≡ over lent 0 (first (soft_at f vs) (length vs))
    → ((i : ℕ) → i < length vs → ExactAt f vs i) → SoftsWritten f vs lent out
unfolding converted_softs
all_written {f} {vs} {lent} e exact =
    record { written = e; exact = λ i h. rw (e, get_d_over lent (soft_at f vs) (length vs) i nan h) (exact i h) }

pub loop-i-init : goal.loop-i-init
loop-i-init c = (filled_none, below_none _)

pub loop-i-preserved : goal.loop-i-preserved
loop-i-preserved c =
    let soft = c.args.soft.now in
    let fits : SFits w16 (get_or soft c.loop-i.i (pos 0)) = search rules in
    let value = rw (to_z-of_z fits) at (c.divided.ensures _ c.requires.0 c.power_of_two-power.ensures) in
    let (filled, exact) = c.loop-i.invariant in (
      filled_more filled c.loop-i.i (omega arith) refl (omega arith) value,
      below_more (ExactAt _ soft) c.loop-i.i exact (soft_exact _ _ c.requires.0 (soft_size _ fits)),
    )

pub returns : goal.returns
returns c =
    let end : c.loop-i.i ≡ length c.args.soft.now = omega arith in
    let (filled, exact) = c.loop-i.invariant in
    all_written (rw end at filled.contents) (rw end at exact)
