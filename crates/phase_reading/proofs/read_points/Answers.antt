-- `read_points` meets its contract: what it hands over are the probes of the phase. Assumes nothing.
use mir.Facts.{to_z-of_z}
use Rattle.phase_reading.specs.PhaseProbes.{PhaseProbes}
use Rattle.phase_reading.proofs.PhaseReading.{index_ready, probes_ready}
use Rattle.phase_reading.proofs.read_points.Given.{Over}
use Rattle.phase_reading.proofs.read_points.Goals as goal
use Rattle.phase_reading.proofs.read_points.Goals.{After-phase_costs-cost}

probes : (g : Over) (c : After-phase_costs-cost g) → let a = c.args in PhaseProbes g.row.BITS a.gain a.yi a.yq c.phase_probed-probed.result c.phase_costs-cost.result
probes g c =
    let i = to_z-of_z c.ranges.yi in
    let q = to_z-of_z c.ranges.yq in
    probes_ready c.requires.0 (rw i at c.unsigned_abs.ensures.value) (rw q at c.unsigned_abs-2.ensures.value) (rw (i, q) at c.nearest_phase.ensures)
    c.phase_probed-probed.ensures c.phase_costs-cost.ensures

pub returns-clause-read : goal.returns-clause-read
returns-clause-read g c = c.write_points.ensures.read _ _ _ (probes g (goal.at.returns-clause-read g c).After-phase_costs-cost)

pub phase_probed-probed-requires : goal.phase_probed-probed-requires
phase_probed-probed-requires g c =
    index_ready c.requires.0 (rw (to_z-of_z c.ranges.yi, to_z-of_z c.ranges.yq) at c.nearest_phase.ensures)

pub write_points-requires : goal.write_points-requires
write_points-requires g c = ((_, _, _, probes g (goal.at.write_points-requires g c).After-phase_costs-cost), c.requires.1)
