-- A stream answered from its start to its end: calls of `feed`, each with what the one before it left, and then `finish`. The promises of the calls are the
-- steps. That what is printed is the answers to the whole input is proofs/Printed. Assumes nothing.
use Rattle.std.specs.Prelude.{List, [], ◌++◌, ℕ, take}
use Rattle.line_stream.specs.declared.Progress.{Progress}
use Rattle.line_cut.specs.declared.HeldLine.{HeldLine}
use Rattle.line_cut.specs.Cut.{Holds}
use Rattle.line_stream.specs.Feeding.{Fed, Finished}

-- from what is held on, the input that is taken, however it is cut, and what is printed for it
pub data Run {size : ℕ} : HeldLine size → List ℕ → List ℕ → Type 0 where
  finished : {line : HeldLine size} {lent out : List ℕ} {written : ℕ} → ((pending : List ℕ) → Holds line pending → Finished pending lent out written)
      → Run line [] (take written out)
  fed : {line next : HeldLine size} {piece lent out input printed : List ℕ} {r : Progress}
      → ((pending : List ℕ) → Holds line pending → Fed pending piece lent out next r)
      → Run next input printed
      → Run line (take r.taken piece ++ input) (take r.written out ++ printed)
