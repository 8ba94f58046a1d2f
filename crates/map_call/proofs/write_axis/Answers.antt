-- `write_axis` meets its contract. No level is beyond 63, so each sample fits. Assumes nothing.
use mathlib.Core.Path.{refl}
use mathlib.Core.List.{List}
use Prim.Native.Nat.{ℕ, ◌*◌, ◌≤◌}
use native.Mathlib.Omega.{arith}
use lib.IntN.{pos, ◌*ℤ◌}
use mir.Syntax.{w32, w64}
use Rattle.arithmetic.proofs.Lists.{filled_none, filled_more}
use Rattle.arithmetic.proofs.Signed.{Sized, held, sized, sized_fits, sized_held, sized_mul}
use Rattle.constellation.specs.Ranges.{max_axis_bits, max_gain}
use Rattle.constellation.specs.Gray.{Label, index_of_label}
use Rattle.constellation.specs.Levels.{level}
use Rattle.constellation.proofs.Labels.{label_index_below}
use Rattle.points.proofs.LabelWithin.{label_within_lem}
use Rattle.constellation.proofs.Schemes.{label_level-size}
use Rattle.map_call.specs.SamplesWritten.{axis_sample}
use Rattle.map_call.proofs.Filling.{filled_whole}
use Rattle.map_call.proofs.write_axis.Goals as goal
use Rattle.map_call.proofs.write_axis.Goals.{After-level}

-- the product that the code makes
sized_sample : {m : ℕ} {label : List ℕ} (g : ℕ) → Label m label → m ≤ max_axis_bits → g ≤ max_gain
    → Sized (held w64 (pos g) *ℤ held w64 (level m (index_of_label label))) (pos g *ℤ level m (index_of_label label)) (max_gain * 63)
sized_sample {m} {label} g l few h =
    sized_mul (sized_held w64 tt (sized (pos g) h)) (sized_held w64 tt (sized (level m (index_of_label label)) (label_level-size l few)))

-- what is written at n
sample : (c : After-level)
    → Sized (held w64 c.from-gain.result *ℤ held w64 c.level.result) (axis_sample c.args.message c.args.label c.loop-n.n) (max_gain * 63)
sample c =
    let l = c.args.label in
    rw (c.from-gain.ensures, c.level.ensures, c.index_at-k.ensures, c.bits_per_symbol-stride.ensures)
    (sized_sample _ (label_within_lem _ c.args.message.bits.bits _ l.apart l.turned l.bits) l.few c.args.message.gain_in)

pub loop-n-init : goal.loop-n-init
loop-n-init c = filled_none

pub loop-n-preserved : goal.loop-n-preserved
loop-n-preserved c =
    filled_more c.loop-n.invariant c.loop-n.n (omega arith) refl (omega arith) (sized_held w32 tt (sized_held w64 tt (sample c))).value

pub returns : goal.returns
returns c = filled_whole c.loop-n.invariant (omega arith)

pub level-requires : goal.level-requires
level-requires c =
    let l = c.args.label in
    record { few = l.few; below = rw c.index_at-k.ensures (label_index_below (label_within_lem _ c.args.message.bits.bits _ l.apart l.turned l.bits)) }

pub overflow_mul-sample : goal.overflow_mul-sample
overflow_mul-sample c = sized_fits w64 tt (sample c)

pub overflow_cast-sample : goal.overflow_cast-sample
overflow_cast-sample c = sized_fits w32 tt (sized_held w64 tt (sample c))
