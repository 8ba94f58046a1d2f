-- `outside_count` meets its contract. The loop's invariant: what is found so far is what the definition counts.
-- Assumes nothing.
use mathlib.Core.Path.{refl}
use mathlib.Core.Bool.{Bool}
use Prim.Native.Nat.{◌+◌, ◌≤◌}
use native.Mathlib.Omega.{arith}
use lib.Dec.{ltb}
use lib.IntN.{pos}
use lib.ListN.{get_or}
use mir.Val.{bool_byte}
use Rattle.constellation.specs.Ranges.{max_gain}
use Rattle.frame_checks.specs.OutsideCount.{outside_count}
use Rattle.frame_checks.proofs.SymbolChecks.{sample_told, flag_small, one_counted}
use Rattle.frame_checks.proofs.outside_count.Goals as goal

pub loop-n-init : goal.loop-n-init
unfolding outside_count
loop-n-init c = (omega arith, refl)

-- at most three more
found_few : (g i q : Bool) → bool_byte g + bool_byte i + bool_byte q ≤ 3
found_few g i q = omega (arith, flag_small g, flag_small i, flag_small q)

pub loop-n-preserved : goal.loop-n-preserved
loop-n-preserved c =
    let y = get_or c.args.symbols.yi.now c.loop-n.n (pos 0) in
    let z = get_or c.args.symbols.yq.now c.loop-n.n (pos 0) in (
      omega (arith, found_few (ltb max_gain (get_or c.args.symbols.gains.now c.loop-n.n 0)) c.sample_outside.result c.sample_outside-in-loop-n.result),
      rw (c.from.ensures, c.from-in-loop-n.ensures, c.from-in-loop-n-2.ensures)
          (one_counted _ c.args.symbols.yi.now c.args.symbols.yq.now c.loop-n.n c.loop-n.invariant.1 refl
          (sample_told y (omega arith) c.sample_outside.ensures)
          (sample_told z (omega arith) c.sample_outside-in-loop-n.ensures)),
    )
