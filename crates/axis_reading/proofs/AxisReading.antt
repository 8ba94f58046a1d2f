-- What reading an axis goes by besides: its costs, by the height of its sample, are in range, and so it is with its labels complemented. Assumes nothing.
use mathlib.Core.Path.{◌≡◌, refl, ◌∙◌}
use mathlib.Core.Bool.{Bool, true, false, not}
use Prim.Native.Nat.{ℕ, ◌*◌, ◌^◌, ◌<◌, ◌≤◌}
use native.Mathlib.Omega.{arith}
use lib.Dec.{eqb}
use lib.IntN.{ℤ, pos, nat_abs}
use Rattle.std.proofs.lemmas.Bool.{ne_eqb}
use lib.Pow.{pow_mono}
use Rattle.arithmetic.proofs.Signed.{sized, sized_sub, sized_mul}
use Rattle.constellation.specs.Ranges.{AxisInRange}
use Rattle.constellation.specs.Levels.{level, squared, axis_cost}
use Rattle.constellation.specs.Counter.{axis_counter}
use Rattle.constellation.specs.Parts.{Part, complemented, axis}
use Rattle.constellation.specs.Heights.{axis_height, cost_by_height, HeightInRange}
use Rattle.constellation.proofs.Levels.{level-size, cost_by_height_lem, height_in_range}
use Rattle.constellation.proofs.Countered.{axis_countered}
use Rattle.constellation.proofs.Shown.{first_nearest}
use Rattle.part_reading.proofs.PartReading.{InRange, gray_in_range, complemented_in_range}
use Rattle.points.specs.LabelWithin.{turned_bit}
use Rattle.axis_reading.specs.Turned.{labelled, apart, turned, turned_label}

axis_cost_size : (m g : ℕ) (y : ℤ) (k : ℕ) → AxisInRange m g y → k < 2 ^ m → nat_abs (axis_cost m g y k) ≤ 2 ^ 48
unfolding axis_cost squared
axis_cost_size m g y k h l =
    let far : nat_abs (level m k) ≤ 63 = omega (arith, level-size m k l, pow_mono {j = 6} h.few) in
    let error = sized_sub (sized y h.sample) (sized_mul (sized (pos g) h.gain) (sized (level m k) far)) in
    omega (arith, (sized_mul error error).size)

pub axis_in_range : {m g : ℕ} {y : ℤ} → AxisInRange m g y → InRange (axis m g y) (axis_counter m)
unfolding axis
axis_in_range {m} {g} {y} h = gray_in_range h.few (λ k l. axis_cost_size m g y k h l) (axis_countered m g y) (first_nearest m _)

-- ---- labels as they stand, or complemented

-- a const argument of the type bool, as the logic has it: 0 or 1
abbrev pub is_set : ℕ → Bool
is_set n = not (eqb n 0)

pub set_apart : (n : ℕ) → ¬ (n ≡ 0) → apart (is_set n) ≡ 2
set_apart n h = rw (ne_eqb n 0 h) refl

pub unset_apart : (n : ℕ) → n ≡ 0 → apart (is_set n) ≡ 1
unset_apart n h = rw h refl

-- which is the part itself, or the part with complemented labels
pub turned_lem : (t : Bool) (p : Part) → turned t p ≡ labelled t p
unfolding turned turned_bit turned_label complemented
turned_lem false p = refl
turned_lem true p = refl

pub turned_in_range : (t : Bool) {p : Part} {counter : ℕ → ℕ → ℕ} → InRange p counter → InRange (turned t p) counter
unfolding turned turned_bit turned_label complemented
turned_in_range false r = r
turned_in_range true r = complemented_in_range r

-- ---- heights

-- the height and the distance of two levels, as the machine holds them
pub record HeightFound (m g : ℕ) (y height step : ℤ) : Type 0 where
  pub in_range : AxisInRange m g y
  pub high : height ≡ axis_height m g y
  pub wide : step ≡ pos (2 * g)

module _ {m g : ℕ} {y height step : ℤ} (h : HeightFound m g y height step) where
  pub height_ready : {k : ℕ} → k < 2 ^ m → HeightInRange height step k
  height_ready l = rw (h.high, h.wide) (height_in_range h.in_range l)

  pub height_cost : (k : ℕ) {z : ℤ} → z ≡ cost_by_height height step k → z ≡ axis_cost m g y k
  height_cost k e = e ∙ rw (h.high, h.wide) (cost_by_height_lem m g y k)
