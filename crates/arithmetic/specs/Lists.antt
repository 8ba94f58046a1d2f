-- Lists as loops make them, and a list written into a lent buffer.
-- Laws: proofs/Lists. Assumes nothing.
use Rattle.std.specs.Prelude.{Bool, cond, List, [], ◌∷◌, ◌++◌, ℕ, zero, suc, ◌+◌, ◌*◌, length, take, drop, set}

module _ {A : Type 0} where
  -- f 0, f 1, .. f (n − 1)
  unfoldable pub first : (ℕ → A) → ℕ → List A
  first f zero = []
  first f (suc n) = first f n ++ (f n ∷ [])

  -- f 0, then f 1, .. then f (n − 1), each a list
  unfoldable pub joined : (ℕ → List A) → ℕ → List A
  joined f zero = []
  joined f (suc n) = joined f n ++ f n

  -- the buffer d with the list s written over it from the position `at` on; the entries before and behind keep what they held
  unfoldable pub over : List A → ℕ → List A → List A
  over d at s = take at d ++ s ++ drop (at + length s) d

  -- the buffer d with f 0, f 1, .. f (n − 1) written at the positions `at`, `at` + `apart`, `at` + 2·`apart` and so on
  unfoldable pub spread : List A → ℕ → ℕ → (ℕ → A) → ℕ → List A
  spread d at apart f zero = d
  spread d at apart f (suc n) = set (spread d at apart f n) (at + n * apart) (f n)

  -- the entries of a list that pass a test, in order
  unfoldable pub keep : (A → Bool) → List A → List A
  keep test [] = []
  keep test (x ∷ xs) = cond (test x) (x ∷ keep test xs) (keep test xs)
