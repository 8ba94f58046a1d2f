-- What the loop of `write_softs` keeps: the soft values passed stand at the start of the buffer, and are exact, for each of them is an i16.
use mathlib.Core.List.{List}
use Prim.Native.Nat.{ℕ, ◌<◌}
use lib.IntN.{ℤ, pos}
use lib.ListN.{get_or}
use lib.Ieee.{Float}
use Rattle.arithmetic.proofs.Lists.{Filled}
use Rattle.binary32.specs.SoftFloat.{soft_float, Exactly}
use Rattle.capture_out.proofs.write_softs.Given as goal

-- what soft value i is handed out as
abbrev pub soft_at : ℕ → List ℤ → ℕ → Float
soft_at scale soft i = soft_float scale (get_or soft i (pos 0))

abbrev pub ExactAt : ℕ → List ℤ → ℕ → Type 0
ExactAt scale soft i = Exactly scale (get_or soft i (pos 0)) (soft_at scale soft i)

abbrev pub invariant-loop-i : goal.invariant-loop-i
invariant-loop-i l = Filled l.initial.out 0 (soft_at l.scale l.soft) l.i l.out × ((k : ℕ) → k < l.i → ExactAt l.scale l.soft k)
