-- `nearest_phase` meets its contract: gain 0 by proofs/GainZero, and else the sixteenth's share. Assumes nothing.
use mathlib.Core.Path.{sym}
use native.Mathlib.Omega.{arith}
use mir.Facts.{to_z-of_z}
use Rattle.demapper.proofs.GainZero.{phase_at_gain_zero}
use Rattle.phase_nearest.proofs.PhaseNearest.{phase-nearest, phase_of_sixteenth, quadrant_sum}
use Rattle.phase_nearest.proofs.nearest_phase.Goals as goal

pub returns-then-gain-eq0 : goal.returns-then-gain-eq0
returns-then-gain-eq0 c = rw c.if-gain-eq0.true (sym (phase_at_gain_zero _ _ _))

pub returns-in-1 : goal.returns-in-1
returns-in-1 c =
    let x = c.args in
    rw (c.from.ensures, to_z-of_z c.ranges.yq, c.in-1.is, phase-nearest 1 x.gain x.yi x.yq (omega arith) (omega arith))
    (omega (arith, quadrant_sum x.yi x.yq))

pub returns-in-2 : goal.returns-in-2
returns-in-2 c =
    let x = c.args in
    rw (
      c.quarter.ensures,
      to_z-of_z c.ranges.yi,
      to_z-of_z c.ranges.yq,
      c.in-2.is,
      phase-nearest 2 x.gain x.yi x.yq (omega arith) (omega arith),
    )
    (phase-nearest 2 1 x.yi x.yq (omega arith) (omega arith))

pub returns-in_default : goal.returns-in_default
returns-in_default c =
    let x = c.args in
    rw (rw (to_z-of_z c.ranges.yi, to_z-of_z c.ranges.yq) at c.sixteenth.ensures)
    (phase_of_sixteenth x.bits x.gain x.yi x.yq (omega arith) (omega arith))
