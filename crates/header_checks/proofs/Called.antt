-- What checks hand back, by their verdict. Assumes nothing.
use mathlib.Core.Path.{◌≡◌, refl, ap}
use Rattle.std.specs.Prelude.{Ok, Err}
use Rattle.frame.specs.declared.Fault.{Fault}
use Rattle.frame.specs.Verdicts.{Verdict, Passed}
use Rattle.header_checks.specs.Called.{checked}

module _ {A : Type 0} where
  pub passed_by : {v : Verdict} {x y : A} → Passed ≡ v → x ≡ y → Ok x ≡ checked v y
  unfolding checked
  passed_by h e = rw (← h) (ap Ok e)

  pub refused_by : {v : Verdict} {fault : Fault} (y : A) → Err fault ≡ v → Err fault ≡ checked v y
  unfolding checked
  refused_by y h = rw (← h) refl

  pub is_passed : (v : Verdict) {x y : A} → Ok x ≡ checked v y → (v ≡ Passed) × (x ≡ y)
  unfolding checked
  is_passed Passed e = (refl, cc)
  is_passed (Err fault) e = absurd cc

  pub is_refused : (v : Verdict) {fault : Fault} (y : A) → Err fault ≡ checked v y → Err fault ≡ v
  unfolding checked
  is_refused Passed y e = absurd cc
  is_refused (Err other) y e = let same : ◌≡◌ {A = Fault} _ other = cc in ap Err same
