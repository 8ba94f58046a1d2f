-- `write_over` meets its contract: each turn writes the next entry of the list behind those before it. Assumes nothing.
use mathlib.Core.Path.{◌≡◌, refl, sym, ◌∙◌}
use mathlib.Core.List.{List}
use Prim.Native.Nat.{ℕ, ◌+◌, ◌<◌, ◌≤◌}
use native.Mathlib.Numerals.{add-one}
use native.Mathlib.Omega.{arith}
use lib.ListN.{length, take, get_or, set, length-set, length-take}
use lib.Seq.{take-suc, take-length}
use Rattle.arithmetic.specs.Lists.{over}
use Rattle.arithmetic.proofs.Lists.{over_nothing, over_step}
use Rattle.padded_symbol.proofs.write_over.Goals as goal

-- the entry behind those that are written
one_more : {A : Type 0} (d l : List A) (at i : ℕ) {b : List A} {x : A} → i < length l → at + length l ≤ length d → x ≡ get_or l i x
    → b ≡ over d at (take i l) → set b (at + i) x ≡ over d at (take (i + 1) l)
one_more d l at i {x = x} h room e written =
    let n : length (take i l) ≡ i = simp length-take (omega arith) in
    rw (add-one, take-suc l i x h, ← e, written) (sym (rw n at (over_step d at (take i l) x (rw n (omega arith)))))

pub loop-i-init : goal.loop-i-init
loop-i-init g c = (sym (over_nothing _ _), refl)

pub loop-i-preserved : goal.loop-i-preserved
loop-i-preserved g c =
    let (written, long) = c.loop-i.invariant in
    (one_more c.args.buffer.now c.args.list.now c.args.at c.loop-i.i c.loop-i-test.true c.requires c.index-list-i.is written, length-set _ _ _ ∙ long)

pub returns : goal.returns
returns g c =
    let (written, _) = c.loop-i.invariant in
    let end : c.loop-i.i ≡ length c.args.list.now = omega arith in
    rw (end, take-length) at written
