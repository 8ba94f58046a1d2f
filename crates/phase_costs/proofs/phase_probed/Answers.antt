-- `phase_probed` meets its contract. Assumes nothing.
use mathlib.Core.Path.{◌≡◌, refl, ap}
use mathlib.Core.List.{List, ◌∷◌, ◌++◌}
use Prim.Native.Nat.{ℕ, suc, ◌+◌}
use native.Mathlib.Omega.{arith}
use lib.ListN.{take}
use lib.Seq.{take-append_seam}
use Rattle.arithmetic.specs.Lists.{first, over}
use Rattle.arithmetic.proofs.Lists.{Filled, filled_none, filled_more, length_first}
use Rattle.phase_costs.proofs.phase_probed.Goals as goal

first_taken : (f : ℕ → ℕ) (n : ℕ) (rest : List ℕ) → take n (first f n ++ rest) ≡ first f n
first_taken f n rest = rw length_first at (take-append_seam (first f n) rest)

-- k with n entries behind it, where they are written
listed : {k n : ℕ} {f : ℕ → ℕ} {d l : List ℕ} → Filled (k ∷ d) 1 f n l → take (suc n) l ≡ k ∷ first f n
unfolding over
listed {k} {n} {f} filled = rw filled.contents (ap (λ (l : List ℕ). k ∷ l) (first_taken f n _))

pub loop-i-init : goal.loop-i-init
loop-i-init c = filled_none

pub loop-i-preserved : goal.loop-i-preserved
loop-i-preserved c = filled_more c.loop-i.invariant (c.loop-i.i + 1) (omega arith) refl (omega arith) c.phase_counter.ensures

pub returns : goal.returns
returns c = let all : c.loop-i.i ≡ c.args.bits = omega arith in listed (rw all at c.loop-i.invariant)
