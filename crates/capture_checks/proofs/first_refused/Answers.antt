-- `first_refused` meets its contract: where all numbers are convertible, there is none. Assumes nothing.
use mathlib.Core.Path.{◌≡◌, refl, sym, ◌∙◌}
use mathlib.Core.Bool.{Bool, true, false, ◌&&◌, false≢true}
use mathlib.Core.List.{List, [], ◌∷◌}
use Prim.Native.Nat.{ℕ, zero, suc}
use native.Mathlib.Omega.{arith}
use lib.Ieee.{Float}
use Rattle.std.specs.Prelude.{fold}
use Rattle.binary32.specs.Conversion.{converts}
use Rattle.capture.specs.Converting.{AllConvert}
use Rattle.capture_checks.proofs.first_refused.Goals as goal

both : (a b : Bool) → a && b ≡ true → (a ≡ true) × (b ≡ true)
both true b e = (refl, e)
both false b e = absurd (false≢true e)

one_more : (F : ℕ) (x : Float) (xs : List Float) → converts F x ≡ true → AllConvert F xs → AllConvert F (x ∷ xs)
one_more F x xs first rest zero h = first
one_more F x xs first rest (suc i) h = rest i (omega (arith, h))

all_pass : (F : ℕ) (xs : List Float) (before : Bool) → fold (λ all x. all && converts F x) before xs ≡ true → (before ≡ true) × AllConvert F xs
all_pass F [] before e = (e, λ i h. absurd (omega (arith, h)))
all_pass F (x ∷ xs) before e =
    let (now, rest) = all_pass F xs (before && converts F x) e in
    let (earlier, first) = both before (converts F x) now in
    (earlier, one_more F x xs first rest)

pub returns-then-all_convertible : goal.returns-then-all_convertible
returns-then-all_convertible c = (all_pass _ _ true (sym c.all_convertible.ensures ∙ c.if-all_convertible.true)).1
