-- What the checks of an input come to (REQUIREMENTS, "Refusals"): it passes them all, or the first that it fails gives the refusal and the symbol's number,
-- which is 0 unless a symbol's gain, weight or sample is refused. Assumes nothing.
use Rattle.std.specs.Prelude.{ℕ, Result, Ok, Err}
use Rattle.frame.specs.declared.Fault.{Fault}
use Rattle.frame.specs.declared.Refusal.{Refusal}

abbrev pub Verdict : Type 0
Verdict = Result (Unit {0}) Fault

pattern abbrev pub Passed : Verdict
Passed = Ok tt

abbrev pub Failed : Refusal → ℕ → Verdict
Failed r n = Err (record { refusal = r; symbol = n })
