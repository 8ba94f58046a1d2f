-- `digit_of` meets its contract: each entry of its table is the definition's digit. Assumes nothing.
use mathlib.Core.Bool.{Bool}
use mathlib.Core.List.{◌∷◌, []}
use Prim.Native.Nat.{ℕ}
use lib.Dec.{T, eqb}
use lib.ListN.{get_or}
use Rattle.arithmetic.specs.Tests.{all_below}
use Rattle.arithmetic.proofs.Tests.{all_below_at, passed}
use Rattle.hexadecimal.specs.Digits.{digit_of}
use Rattle.digit_writing.proofs.digit_of.Goals as goal

test : ℕ → Bool
test v = eqb (get_or (48 ∷ 49 ∷ 50 ∷ 51 ∷ 52 ∷ 53 ∷ 54 ∷ 55 ∷ 56 ∷ 57 ∷ 65 ∷ 66 ∷ 67 ∷ 68 ∷ 69 ∷ 70 ∷ []) v 0) (digit_of v)

passes : T (all_below 16 test)
unfolding all_below test digit_of
passes = tt

pub returns : goal.returns
unfolding test
returns c = let e = simp passed at (all_below_at 16 test passes c.args.v c.requires) in rw c.from.ensures e
