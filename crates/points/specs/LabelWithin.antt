-- The bits of a list that the functions about labels take for a label. Nobody has to believe this file to read what the mapping call promises (crate frame,
-- specs/Promise). Assumes nothing.
use Rattle.std.specs.Prelude.{Bool, true, false, List, ℕ, ◌+◌, ◌*◌, ◌-◌, get_or}
use Rattle.arithmetic.specs.Lists.{first}

-- a bit as it stands, and turned round
unfoldable pub turned_bit : Bool → ℕ → ℕ
turned_bit false b = b
turned_bit true b = 1 - b

-- the m bits at the positions `at`, `at` + `apart` and so on of a list, with 0 behind its end, each as it stands or turned round
abbrev pub label_within : List ℕ → (at apart : ℕ) → Bool → (m : ℕ) → List ℕ
label_within bits at apart turned m = first (λ i. turned_bit turned (get_or bits (at + i * apart) 0)) m
