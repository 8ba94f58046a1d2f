-- `circle::psk_point` meets its contract: the table in the code is the list of the requirements, computed, where by proofs/PskLayout of the crate constellation
-- the point stands. Assumes nothing.
use mathlib.Core.Path.{refl}
use Prim.Native.Nat.{ℕ, ◌^◌, ◌≤◌, ◌<◌}
use native.Mathlib.Omega.{arith}
use mir.Syntax.{w64}
use Rattle.arithmetic.specs.Lists.{joined}
use Rattle.arithmetic.proofs.Signed.{sized_held}
use Rattle.constellation.specs.Ranges.{max_phase_bits}
use Rattle.constellation.specs.Psk.{psk_halves, psk_quarters, turned, psk_point, psk_coordinates, TableWith}
use Rattle.constellation.proofs.PskLayout.{psk_layout, psk_points}
use Rattle.points.proofs.circle.psk_point.Goals as goal

in_list : {m k : ℕ} → (1 ≤ m) × (m ≤ max_phase_bits) × (k < 2 ^ m) → TableWith psk_coordinates m k
in_list r = record { contents = refl; some = r.0; few = r.1; below = r.2 }

pub returns-clause-u : goal.returns-clause-u
unfolding psk_coordinates joined psk_point psk_halves psk_quarters turned
returns-clause-u c = rw c.power.ensures (sized_held w64 tt (psk_layout (in_list c.requires)).0).value

pub returns-clause-v : goal.returns-clause-v
unfolding psk_coordinates joined psk_point psk_halves psk_quarters turned
returns-clause-v c = rw c.power.ensures (sized_held w64 tt (psk_layout (in_list c.requires)).1).value

pub overflow_sub-at : goal.overflow_sub-at
overflow_sub-at c = omega (arith, psk_points (in_list c.requires))

pub bounds-at : goal.bounds-at
bounds-at c = omega (arith, psk_points (in_list c.requires))

pub bounds-at-2 : goal.bounds-at-2
bounds-at-2 c = omega (arith, psk_points (in_list c.requires))
