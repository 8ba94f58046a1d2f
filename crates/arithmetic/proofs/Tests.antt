-- What a passed test says: one at each number below a bound passes at any of them, and the rulesets `passed`
-- and `tests-false` turn tests into statements.
-- Assumes nothing.
use mathlib.Core.Path.{◌≡◌, refl}
use mathlib.Core.Logic.{◌↔◌, ◌≢◌, ◌⊎◌, inl, inr}
use mathlib.Core.Bool.{Bool, true, false, cond, not, ◌&&◌, ◌||◌, true≢false}
use Prim.Native.Nat.{ℕ, zero, suc, ◌≤◌, ◌<◌}
use native.Mathlib.Nat.{eq-or-lt_of_le, le_of_suc-le-suc}
use native.Mathlib.Omega.{arith}
use borrow.Author.Tests.{ltb-false, le-ltb, eqb-false, ne_eqb, eqb-true, eq-eqb, not-false}
use lib.Dec.{T, leb, ltb, eqb, leb→le, le→leb, eqb→eq}
use lib.IntN.{ℤ}
use lib.Signed.{le_z, lt_z, ◌≤ℤ◌, ◌<ℤ◌, le_z_yes, lt_z_yes}
use mir.Facts.{and_yes, yes_and, yes_eqb}
use Rattle.arithmetic.specs.Tests.{all_below, same_ℤ}
use Rattle.arithmetic.proofs.Integers.{diffs, as_diff}

pub all_below_at : (n : ℕ) (test : ℕ → Bool) → T (all_below n test) → (k : ℕ) → k < n → T (test k)
unfolding all_below
all_below_at zero test t k h = absurd (omega arith)
all_below_at (suc n) test t k h =
    let (before, last) = and_yes (all_below n test) (test n) t in
    go last (eq-or-lt_of_le (le_of_suc-le-suc h)) (all_below_at n test before k)
  where
    go : T (test n) → (k ≡ n) ⊎ (k < n) → (k < n → T (test k)) → T (test k)
    go last (inl e) below = rw e last
    go last (inr l) below = below l

pub all_below_lem : (n : ℕ) (test : ℕ → Bool) → ((k : ℕ) → k < n → T (test k)) → T (all_below n test)
unfolding all_below
all_below_lem zero test each = tt
all_below_lem (suc n) test each = yes_and (all_below n test) (test n) (all_below_lem n test (λ k h. each k (omega arith))) (each n (omega arith))

pub and_iff : (a b : Bool) → T (a && b) ↔ (T a × T b)
and_iff a b = (and_yes a b, λ t. yes_and a b t.0 t.1)

pub or_iff : (a b : Bool) → T (a || b) ↔ (¬ T a → T b)
or_iff true b = ((λ t n. absurd (n t)), λ h. tt)
or_iff false b = ((λ t n. t), λ h. h (λ t. t))

pub leb_iff : (a b : ℕ) → T (leb a b) ↔ (a ≤ b)
leb_iff a b = (leb→le a b, le→leb a b)

pub eqb_iff : (a b : ℕ) → T (eqb a b) ↔ (a ≡ b)
eqb_iff a b = (eqb→eq a b, yes_eqb)

pub le_z_iff : (x y : ℤ) → T (le_z x y) ↔ (x ≤ℤ y)
le_z_iff x y = (le_z_yes, λ h. h.le)

pub lt_z_iff : (x y : ℤ) → T (lt_z x y) ↔ (x <ℤ y)
lt_z_iff x y = (lt_z_yes, λ h. h.lt)

pub same_ℤ_iff : (x y : ℤ) → T (same_ℤ x y) ↔ (x ≡ y)
unfolding same_ℤ
same_ℤ_iff x y = rw (as_diff x, as_diff y) (simp (and_iff, le_z_iff, diffs) (omega arith))

pub ruleset passed = (and_iff, or_iff, leb_iff, eqb_iff, le_z_iff, lt_z_iff, same_ℤ_iff)

-- ---- tests as equations

pub or_false_iff : (a b : Bool) → (a || b ≡ false) ↔ ((a ≡ false) × (b ≡ false))
or_false_iff true b = ((λ e. absurd (true≢false e)), λ p. p.0)
or_false_iff false b = ((λ e. (refl, e)), λ p. p.1)

pub ltb-false_iff : (a b : ℕ) → (ltb a b ≡ false) ↔ (b ≤ a)
ltb-false_iff a b = (ltb-false a b, le-ltb a b)

pub eqb-false_iff : (a b : ℕ) → (eqb a b ≡ false) ↔ (a ≢ b)
eqb-false_iff a b = (eqb-false a b, ne_eqb a b)

pub eqb-true_iff : (a b : ℕ) → (eqb a b ≡ true) ↔ (a ≡ b)
eqb-true_iff a b = (eqb-true a b, eq-eqb a b)

pub not-false_iff : (a : Bool) → (not a ≡ false) ↔ (a ≡ true)
not-false_iff a = (not-false a, (λ e. rw e))

pub ruleset tests-false = (or_false_iff, ltb-false_iff, eqb-false_iff, eqb-true_iff, not-false_iff)

pub or_true : (a b : Bool) → a || b ≡ true → (a ≡ true) ⊎ (b ≡ true)
or_true true b e = inl refl
or_true false b e = inr e

-- what a test chooses is within the bound of both
pub cond-≤ : (b : Bool) {x y n : ℕ} → x ≤ n → y ≤ n → cond b x y ≤ n
cond-≤ true h k = h
cond-≤ false h k = k
