-- `write_phase` meets its contract. No coordinate is beyond 16384, so each fits. Assumes nothing.
use mathlib.Core.Path.{◌≡◌, refl}
use mathlib.Core.Bool.{false}
use mathlib.Core.List.{List}
use Prim.Native.Nat.{ℕ, ◌+◌, ◌*◌, ◌^◌, ◌≤◌, ◌<◌}
use native.Mathlib.Nat.{add-zero}
use native.Mathlib.Omega.{arith}
use lib.IntN.{ℤ, nat_abs}
use mir.Syntax.{w32, w64}
use Rattle.arithmetic.proofs.Lists.{filled_none, filled_more}
use Rattle.arithmetic.proofs.Signed.{Sized, held, sized, sized_fits, sized_held}
use Rattle.constellation.specs.Gray.{AllBits, index_of_label}
use Rattle.constellation.specs.Ranges.{max_phase_bits}
use Rattle.constellation.specs.Psk.{psk_point}
use Rattle.constellation.proofs.Labels.{label_index_below}
use Rattle.constellation.proofs.PskTables.{psk_size}
use Rattle.points.specs.declared.label.LabelLayout.{LabelLayout}
use Rattle.points.specs.LabelWithin.{label_within}
use Rattle.points.proofs.LabelWithin.{label_within_lem}
use Rattle.map_call.specs.SamplesWritten.{phase_point}
use Rattle.map_call.proofs.Filling.{filled_whole}
use Rattle.map_call.proofs.write_phase.Goals as goal

-- what the code takes for the label of symbol n, and the point of that label
abbrev InRow : LabelLayout → ℕ → Type 0
InRow l m = (l.bits ≡ m) × (l.skip ≡ 0) × (l.apart ≡ 1) × (l.turned ≡ false)

module _ (bits : List ℕ) (m n : ℕ) (all : AllBits bits) (some : 1 ≤ m) (few : m ≤ max_phase_bits) (l : LabelLayout) (row : InRow l m) {k : ℕ}
    (e : k ≡ index_of_label (label_within bits (n * l.bits + l.skip) l.apart l.turned l.bits)) where
  index : k ≡ index_of_label (label_within bits (n * m) 1 false m)
  index = rw (row.0, row.1, row.2, row.3, add-zero) at e

  below : k < 2 ^ m
  below = rw index (label_index_below (label_within_lem _ all _ 1 false _))

  sizes : (let p = psk_point m k in (nat_abs p.u ≤ 16384) × (nat_abs p.v ≤ 16384))
  sizes = psk_size m k some (omega arith) below

  in_phase : {z : ℤ} → z ≡ (psk_point l.bits k).u → Sized (held w64 z) (phase_point bits m n).u 16384
  in_phase u = rw (← index, u, row.0) (sized_held w64 tt (sized _ sizes.0))

  quadrature : {z : ℤ} → z ≡ (psk_point l.bits k).v → Sized (held w64 z) (phase_point bits m n).v 16384
  quadrature v = rw (← index, v, row.0) (sized_held w64 tt (sized _ sizes.1))

pub loop-n-init : goal.loop-n-init
loop-n-init c = (filled_none, filled_none)

pub loop-n-preserved : goal.loop-n-preserved
loop-n-preserved c =
    let (b, d, _, _) = c.requires in
    let i = in_phase c.args.bits.bytes.now c.args.m c.loop-n.n c.args.bits.bits b d c.in_row-label.result c.in_row-label.ensures c.index_at.ensures c.psk_point-point.ensures.u in
    let q = quadrature c.args.bits.bytes.now c.args.m c.loop-n.n c.args.bits.bits b d c.in_row-label.result c.in_row-label.ensures c.index_at.ensures c.psk_point-point.ensures.v in (
      filled_more c.loop-n.invariant.0 c.loop-n.n (omega arith) refl (omega arith) (sized_held w32 tt i).value,
      filled_more c.loop-n.invariant.1 c.loop-n.n (omega arith) refl (omega arith) (sized_held w32 tt q).value,
    )

pub returns-clause-in_phase : goal.returns-clause-in_phase
returns-clause-in_phase c = filled_whole c.loop-n.invariant.0 (omega arith)

pub returns-clause-quadrature : goal.returns-clause-quadrature
returns-clause-quadrature c = filled_whole c.loop-n.invariant.1 (omega (arith, c.requires.3))

pub psk_point-point-requires : goal.psk_point-point-requires
psk_point-point-requires c =
    let (b, d, _, _) = c.requires in
    rw c.in_row-label.ensures.0 (b, d, below c.args.bits.bytes.now c.args.m c.loop-n.n c.args.bits.bits b d c.in_row-label.result c.in_row-label.ensures c.index_at.ensures)

pub overflow_cast-yi : goal.overflow_cast-yi
overflow_cast-yi c =
    let (b, d, _, _) = c.requires in
    sized_fits w32 tt (in_phase c.args.bits.bytes.now c.args.m c.loop-n.n c.args.bits.bits b d c.in_row-label.result c.in_row-label.ensures c.index_at.ensures c.psk_point-point.ensures.u)

pub overflow_cast-yq : goal.overflow_cast-yq
overflow_cast-yq c =
    let (b, d, _, _) = c.requires in
    sized_fits w32 tt (quadrature c.args.bits.bytes.now c.args.m c.loop-n.n c.args.bits.bits b d c.in_row-label.result c.in_row-label.ensures c.index_at.ensures c.psk_point-point.ensures.v)
