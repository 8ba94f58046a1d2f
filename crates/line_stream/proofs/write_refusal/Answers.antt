-- `write_refusal` meets its contract: the number of the refusal, and a newline behind it. Assumes nothing.
use mathlib.Core.Path.{◌≡◌, sym}
use mathlib.Core.List.{List, [], ◌∷◌, ◌++◌}
use Prim.Native.Nat.{ℕ, ◌≤◌}
use native.Mathlib.Omega.{arith}
use lib.ListN.{length, set}
use Rattle.arithmetic.specs.Lists.{over}
use Rattle.arithmetic.proofs.Lists.{over_step}
use Rattle.frame.specs.declared.Refusal.{Refusal}
use Rattle.line_text.specs.Answer.{refused_text}
use Rattle.line_cut.specs.Lines.{newline}
use Rattle.line_stream.proofs.AnswerLines.{refused_short}
use Rattle.line_stream.proofs.write_refusal.Goals as goal

-- a newline behind the two digits
behind : (d : List ℕ) (r : Refusal) → 3 ≤ length d → set (over d 0 (refused_text r)) 2 newline ≡ over d 0 (refused_text r ++ (newline ∷ []))
behind d r h =
    let e : length (refused_text r) ≡ 2 = refused_short r in
    sym (rw e at (over_step d 0 (refused_text r) newline (rw e (omega arith))))

pub returns-clause-text : goal.returns-clause-text
unfolding refused_text
returns-clause-text c =
    rw (c.write_number.ensures, c.from-2.ensures, c.from.ensures) (behind c.args.out.now c.args.refusal c.requires)
