-- `counter::phase_counter` meets its contract: past bit 0 the counter-hypothesis is that of an axis. Assumes nothing.
use mathlib.Core.Path.{◌≡◌, refl}
use mathlib.Core.Logic.{◌≢◌}
use Prim.Native.Nat.{ℕ, zero, suc}
use Rattle.constellation.specs.Counter.{axis_counter, phase_counter}
use Rattle.points.proofs.counter.phase_counter.Goals as goal

phase_counter_later : (m k i : ℕ) → i ≢ 0 → phase_counter m k i ≡ axis_counter m k i
unfolding phase_counter
phase_counter_later m k zero h = absurd (h refl)
phase_counter_later m k (suc i) h = refl

pub returns-else-i-eq0 : goal.returns-else-i-eq0
returns-else-i-eq0 c = rw (phase_counter_later _ _ _ c.if-i-eq0.false) c.axis_counter.ensures
