-- What is handed out number by number, of a converted sample and of sizes, is the answer's list of numbers written over what was lent. Assumes nothing.
use Rattle.std.specs.Prelude.{Result, Ok, Err}
use mathlib.Core.Path.{◌≡◌, ap}
use mathlib.Core.List.{[], ◌∷◌}
use Prim.Native.Nat.{ℕ}
use lib.IntN.{ℤ}
use lib.ListN.{get_or}
use lib.Ieee.{Float}
use Rattle.arithmetic.specs.Lists.{over}
use Rattle.frame.specs.Verdicts.{Verdict, Passed}
use Rattle.frame.specs.declared.Refusal.{Refusal}
use Rattle.capture.specs.declared.QuadratureSample.{QuadratureSample}
use Rattle.capture.specs.declared.Sample.{Sample}
use Rattle.capture.specs.declared.Sample.TheVariants.{Single, Pair}
use Rattle.sizes.specs.declared.Sizes.{Sizes}
use Rattle.sizes.specs.Sizes.{sizes_values}
use Rattle.capture.specs.Samples.{sample_verdict, sample_answer_for, sample_answer, sample_values}

pub single_handed : (F : ℕ) (x : Float) (answer : Result (Sample ℤ) Refusal) (lent out : ℤ) → answer ≡ sample_answer F (Single x)
    → out ≡ get_or (sample_values answer) 0 lent → out ∷ [] ≡ over (lent ∷ []) 0 (sample_values answer)
unfolding sample_answer sample_answer_for sample_values over
single_handed F x answer lent out is = rw is (go (sample_verdict F (Single x)))
  where
    go : (v : Verdict) → out ≡ get_or (sample_values (sample_answer_for v F (Single x))) 0 lent
        → out ∷ [] ≡ over (lent ∷ []) 0 (sample_values (sample_answer_for v F (Single x)))
    go Passed e = ap (λ (y : ℤ). y ∷ []) e
    go (Err fault) e = ap (λ (y : ℤ). y ∷ []) e

pub pair_handed : (F : ℕ) (p : QuadratureSample Float) (answer : Result (Sample ℤ) Refusal) (lent_i lent_q out_i out_q : ℤ) → answer ≡ sample_answer F (Pair p)
    → out_i ≡ get_or (sample_values answer) 0 lent_i → out_q ≡ get_or (sample_values answer) 1 lent_q
    → out_i ∷ out_q ∷ [] ≡ over (lent_i ∷ lent_q ∷ []) 0 (sample_values answer)
unfolding sample_answer sample_answer_for sample_values over
pair_handed F p answer lent_i lent_q out_i out_q is = rw is (go (sample_verdict F (Pair p)))
  where
    go : (v : Verdict) → out_i ≡ get_or (sample_values (sample_answer_for v F (Pair p))) 0 lent_i
        → out_q ≡ get_or (sample_values (sample_answer_for v F (Pair p))) 1 lent_q
        → out_i ∷ out_q ∷ [] ≡ over (lent_i ∷ lent_q ∷ []) 0 (sample_values (sample_answer_for v F (Pair p)))
    go Passed e f = rw (e, f)
    go (Err fault) e f = rw (e, f)

-- the same of the five sizes that a header calls for
pub sizes_handed : (answer : Result Sizes Refusal) (n q p l a n' q' p' l' a' : ℕ) → n' ≡ get_or (sizes_values answer) 0 n → q' ≡ get_or (sizes_values answer) 1 q
    → p' ≡ get_or (sizes_values answer) 2 p → l' ≡ get_or (sizes_values answer) 3 l → a' ≡ get_or (sizes_values answer) 4 a
    → n' ∷ q' ∷ p' ∷ l' ∷ a' ∷ [] ≡ over (n ∷ q ∷ p ∷ l ∷ a ∷ []) 0 (sizes_values answer)
unfolding sizes_values over
sizes_handed (Err r) n q p l a n' q' p' l' a' en eq ep el ea = rw (en, eq, ep, el, ea)
sizes_handed (Ok sizes) n q p l a n' q' p' l' a' en eq ep el ea = rw (en, eq, ep, el, ea)
