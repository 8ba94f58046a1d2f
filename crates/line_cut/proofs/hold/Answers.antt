-- `hold` meets its contract where all characters have room: they stand in the line buffer one behind the other. Assumes nothing.
use mathlib.Core.Path.{◌≡◌, refl, sym}
use mathlib.Core.List.{List, ◌++◌, append_assoc}
use Prim.Native.Nat.{ℕ, ◌+◌, ◌≤◌}
use native.Mathlib.Omega.{arith}
use lib.ListN.{length, take, length-append, length-take}
use lib.Seq.{take_at}
use Rattle.line_cut.specs.declared.Held.TheVariants.{Within}
use Rattle.line_cut.specs.declared.Held.{Held}
use Rattle.line_cut.specs.Cut.{HoldsIn, whole}
use Rattle.line_cut.proofs.Pending.{whole_line}
use Rattle.line_cut.proofs.hold.Goals as goal

module _ {held : Held} {buffer pending : List ℕ} (more : List ℕ) where
  -- what is held, and behind it what is written
  held_whole : {n : ℕ} {written : List ℕ} (behind : List ℕ) → held ≡ Within n → n ≤ length buffer → written ≡ more → HoldsIn held buffer pending
      → HoldsIn (Within (n + length more)) (take n buffer ++ (written ++ behind)) (pending ++ more)
  held_whole {n} behind is short same holds =
      let front : length (take n buffer ++ more) ≡ n + length more = simp (length-append, length-take) (omega arith) in
      let e = whole_line holds is short in
      rw (same, e, ← append_assoc (take n buffer) more behind)
      (whole refl (omega (arith, front, length-append (take n buffer ++ more) behind)) (sym (take_at (take n buffer ++ more) behind _ front)))

pub returns-in-Within : goal.returns-in-Within
returns-in-Within c pending holds =
    held_whole c.args.more.now _ c.in-Within.is (omega (arith, c.if-length-room.true)) c.copy_from_slice.ensures.after holds
