-- One whole number more in a buffer that is filled from its start. Assumes nothing.
use mathlib.Core.Path.{◌≡◌, refl, ◌∙◌}
use mathlib.Core.List.{List}
use Prim.Native.Nat.{ℕ, ◌+◌, ◌<◌}
use native.Mathlib.Omega.{arith}
use lib.IntN.{ℤ}
use lib.ListN.{length, set}
use mir.Facts.{to_z-of_z}
use mir.Syntax.{w32}
use mir.Val.{SFits, to_z, of_z}
use Rattle.arithmetic.proofs.Lists.{Filled, filled_more}

pub number_more : {lent out : List ℤ} {f : ℕ → ℤ} {n : ℕ} {y : ℤ} → Filled lent 0 f n out → n < length lent → SFits w32 y → y ≡ f n
    → Filled lent 0 f (n + 1) (set out n (to_z w32 (of_z w32 y)))
number_more {n} filled inside fits e = filled_more filled n (omega arith) refl inside (to_z-of_z {w = w32} fits ∙ e)
