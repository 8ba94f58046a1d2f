-- Tests that are computed: a rule of a table is proved by one test at each number below a bound (proofs/Tests).
-- Assumes nothing.
use Rattle.std.specs.Prelude.{Bool, true, ◌&&◌, ℕ, zero, suc, ℤ}
use Rattle.std.specs.Int.Signed.{le_z}

-- the test passes at 0, 1, .. n − 1
unfoldable pub all_below : ℕ → (ℕ → Bool) → Bool
all_below zero test = true
all_below (suc n) test = all_below n test && test n

unfoldable pub same_ℤ : ℤ → ℤ → Bool
same_ℤ x y = le_z x y && le_z y x
