-- What is held of a pending line. Assumes nothing.
use mathlib.Core.Path.{◌≡◌, refl}
use mathlib.Core.List.{List, [], ◌∷◌}
use Prim.Native.Nat.{ℕ, zero, suc, ◌+◌, ◌<◌, ◌≤◌}
use native.Mathlib.Decide.{dec_le}
use native.Mathlib.Omega.{arith}
use lib.ListN.{length, take, replicate, length-take, length-replicate}
use Rattle.line_cut.specs.declared.Held.{Held}
use Rattle.line_cut.specs.declared.Held.TheVariants.{Within, Beyond}
use Rattle.line_cut.specs.declared.HeldLine.{HeldLine}
use Rattle.line_cut.specs.Lines.{last_line}
use Rattle.line_cut.specs.Cut.{Overlong, HoldsIn, Holds, whole, too_long}

-- a number of characters that there is no room for
over_room : {n room : ℕ} {held : Held} → held ≡ Within n → Overlong held room → room < n
over_room is long = rw is at long

-- a last line that has a character
pub last_some : (pending : List ℕ) → 0 < length pending → last_line pending ≡ pending ∷ []
unfolding last_line
last_some [] some = absurd (omega arith)
last_some (c ∷ cs) some = refl

module _ {held : Held} {buffer : List ℕ} where
  -- where nothing is held, nothing is pending
  pub nothing_held : held ≡ Within 0 → HoldsIn held buffer []
  nothing_held is = whole is (omega arith) refl

  module _ {pending : List ℕ} (holds : HoldsIn held buffer pending) where
    pub held_nothing : held ≡ Within 0 → pending ≡ []
    held_nothing is = elim holds [
      | whole {n} same short e ↦ let none : n ≡ 0 = cc in rw none at e
      | too_long long more ↦ absurd (let over = over_room is long in omega arith)
    ]

    -- and where something is, something
    pub held_some : ¬ (held ≡ Within 0) → 0 < length pending
    held_some some = elim holds [
      | whole {n} same short e ↦ rw (e, length-take) (omega (arith, above n same))
      | too_long long more ↦ omega arith
    ]
      where
        above : (n : ℕ) → held ≡ Within n → 0 < n
        above zero is = absurd (some is)
        above (suc n) is = omega arith

    -- which of the two it is
    pub whole_line : {n : ℕ} → held ≡ Within n → n ≤ length buffer → pending ≡ take n buffer
    whole_line {n = k} is short = elim holds [
      | whole {n} other h e ↦ let same : n ≡ k = cc in rw same at e
      | too_long long more ↦ absurd (let over = over_room is long in omega arith)
    ]

    pub long_line : Overlong held (length buffer) → length buffer < length pending
    long_line long = elim holds [
      | whole same short e ↦ absurd (let over = over_room same long in omega arith)
      | too_long _ more ↦ more
    ]

-- every value holds some characters
pub some_held_in : (held : Held) (buffer : List ℕ) → (pending : List ℕ) × HoldsIn held buffer pending
some_held_in held buffer = go held refl
  where
    more : List ℕ
    more = replicate (length buffer + 1) 0

    beyond : Overlong held (length buffer) → (pending : List ℕ) × HoldsIn held buffer pending
    beyond long = (more, too_long long (rw length-replicate (omega arith)))

    within : {n : ℕ} → held ≡ Within n → Dec (n ≤ length buffer) → (pending : List ℕ) × HoldsIn held buffer pending
    within {n} is (yes short) = (take n buffer, whole is short refl)
    within is (no long) = beyond (rw is (omega arith))

    go : (h : Held) → held ≡ h → (pending : List ℕ) × HoldsIn held buffer pending
    go (Within n) is = within is (dec_le n (length buffer))
    go Beyond is = beyond (rw is tt)

pub some_held : {room : ℕ} (line : HeldLine room) → (pending : List ℕ) × Holds line pending
some_held line = some_held_in line.held line.characters
