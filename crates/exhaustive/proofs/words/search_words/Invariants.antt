-- What the loop of `search_words` keeps: there are words, and a table has room for them.
use Prim.Native.Nat.{◌≤◌}
use Rattle.exhaustive.proofs.words.search_words.Given as goal

abbrev pub invariant-loop-n : goal.invariant-loop-n
invariant-loop-n l = (1 ≤ l.total) × (l.total ≤ 4096)
