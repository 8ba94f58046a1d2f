-- The nearest index of a noise-free sample is the index that it was made from (demand 2).
-- Assumes nothing.
use mathlib.Core.Path.{◌≡◌, refl, sym}
use mathlib.Core.Logic.{◌≢◌}
use Prim.Native.Nat.{ℕ, zero, suc, ◌*◌, ◌^◌, ◌<◌}
use native.Mathlib.Nat.{eq_of_mul-eq-mul_left, mul-lt-mul_of_pos_left}
use native.Mathlib.Decide.{ℕ_discrete}
use native.Mathlib.Omega.{arith}
use lib.Dec.{lt→ltb}
use lib.IntN.{ℤ, pos, negsuc, neg_ℤ, ◌-ℤ◌, ◌*ℤ◌, +ℤ_invr}
use lib.Signed.{◌≤ℤ◌, ◌<ℤ◌, ≤ℤ_refl}
use Rattle.arithmetic.proofs.Integers.{diffs, as_diff, <ℤ→≤ℤ}
use Rattle.arithmetic.specs.Least.{first_least}
use Rattle.arithmetic.proofs.Least.{first_least_unique}
use Rattle.constellation.specs.Levels.{level, squared, axis_cost}
use Rattle.constellation.specs.Psk.{psk_point, phase_cost}
use Rattle.constellation.proofs.PskTables.{dot, psk_own_best}
use Rattle.constellation.specs.Parts.{gray_part, axis, phase}

-- an index that costs less than every other is the nearest
cheapest_first : (cost : ℕ → ℤ) (n k : ℕ) → k < n → ((j : ℕ) → j < n → j ≢ k → cost k <ℤ cost j) → first_least cost n ≡ k
cheapest_first cost n k h cheapest =
    sym (first_least_unique cost n k h (λ j l. go j l (ℕ_discrete j k)) (λ j l. cheapest j (omega arith) (omega arith)))
  where
    go : (j : ℕ) → j < n → Dec (j ≡ k) → cost k ≤ℤ cost j
    go j l (yes e) = rw e (≤ℤ_refl (cost k))
    go j l (no n) = <ℤ→≤ℤ (cheapest j l n)

-- ---- an axis

squared_above_zero : (z : ℤ) → z ≢ pos 0 → pos 0 <ℤ squared z
unfolding squared
squared_above_zero (pos zero) n = absurd (n refl)
squared_above_zero (pos (suc a)) n = record { lt = lt→ltb 0 (suc a * suc a) (omega arith) }
squared_above_zero (negsuc a) n = record { lt = lt→ltb 0 (suc a * suc a) (omega arith) }

levels_apart : (m g k j : ℕ) → 0 < g → j ≢ k → pos g *ℤ level m k -ℤ pos g *ℤ level m j ≢ pos 0
unfolding level
levels_apart m g k j h n = simp diffs (λ e. n (eq_of_mul-eq-mul_left g h j k (omega arith)))

pub axis_own_nearest : (m g k : ℕ) → 0 < g → k < 2 ^ m → (axis m g (pos g *ℤ level m k)).nearest ≡ k
unfolding axis gray_part axis_cost squared
axis_own_nearest m g k h l =
    cheapest_first (axis_cost m g (pos g *ℤ level m k)) (2 ^ m) k l
    (λ j b n. rw (+ℤ_invr (pos g *ℤ level m k)) (squared_above_zero (pos g *ℤ level m k -ℤ pos g *ℤ level m j) (levels_apart m g k j h n)))

-- ---- a phase

scaled_< : (g : ℕ) (x y : ℤ) → 0 < g → x <ℤ y → neg_ℤ (pos (2 * g) *ℤ y) <ℤ neg_ℤ (pos (2 * g) *ℤ x)
scaled_< g x y = rw (as_diff x, as_diff y) (simp diffs (λ h l. omega (arith, mul-lt-mul_of_pos_left l h)))

pub phase_own_nearest : (m g k : ℕ) → 0 < g → 0 < m → m < 5 → k < 2 ^ m → (phase m g (psk_point m k).u (psk_point m k).v).nearest ≡ k
unfolding phase gray_part phase_cost dot
phase_own_nearest m g k h p q l =
    cheapest_first (phase_cost m g (psk_point m k).u (psk_point m k).v) (2 ^ m) k l
    (λ j b n. scaled_< g (dot (psk_point m k) (psk_point m j)) (dot (psk_point m k) (psk_point m k)) h (psk_own_best m k j p q l b n))
