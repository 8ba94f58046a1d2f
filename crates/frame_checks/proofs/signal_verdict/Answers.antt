-- `signal_verdict` meets its contract: with no quadrature samples, judging the one coordinate twice is judging it once. Assumes nothing.
use mathlib.Core.Path.{◌≡◌, sym}
use mathlib.Core.Bool.{or_self, or-false}
use mathlib.Core.List.{List, [], ◌∷◌}
use Prim.Native.Nat.{ℕ}
use native.Mathlib.Omega.{arith}
use borrow.Author.Tests.{eqb-true}
use lib.IntN.{ℤ}
use lib.ListN.{length}
use Rattle.arithmetic.specs.Lists.{joined}
use Rattle.arithmetic.proofs.Lists.{joined_cong}
use Rattle.frame.specs.FrameCall.{symbol_checks}
use Rattle.frame_checks.proofs.signal_verdict.Goals as goal

one_coordinate : (gains weights : List ℕ) (y_i y_q : List ℤ) (n : ℕ) → length y_q ≡ 0
    → joined (symbol_checks gains weights y_i y_i) n ≡ joined (symbol_checks gains weights y_i y_q) n
unfolding symbol_checks
one_coordinate gains weights y_i [] n e = joined_cong _ _ n (λ i l. rw (or_self, or-false))
one_coordinate gains weights y_i (y ∷ y_q) n e = absurd (omega arith)

pub returns-then-is_empty : goal.returns-then-is_empty
returns-then-is_empty c =
    let a = c.args in
    rw (one_coordinate a.signal.gains.now a.signal.weights.now a.signal.yi.now a.signal.yq.now _ (eqb-true _ _ (sym c.if-is_empty.ensures))) at c.symbols_verdict.ensures
