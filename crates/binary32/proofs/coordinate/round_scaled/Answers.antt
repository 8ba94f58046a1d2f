-- `coordinate::round_scaled` meets its contract: the sum is a whole number of at most 24 bits, so the cast is exact, and so is the difference.
-- Assumes nothing.
use mathlib.Core.Path.{◌≡◌, refl, sym, ◌∙◌, subst}
use mathlib.Core.Bool.{true, false, not, false≢true}
use Prim.Native.Nat.{ℕ, ◌+◌, ◌*◌, ◌^◌, ◌≤◌}
use native.Mathlib.Nat.{le_refl}
use native.Mathlib.Omega.{arith}
use lib.Dec.{T, ltb, le→leb, nltb→le}
use lib.IntN.{ℤ, pos, nat_abs, ◌+ℤ◌, ◌-ℤ◌}
use lib.Ieee.{Float, nan, inf, fin, binary32, up, down, add, mul, of_int, of_bits, to_signed, in_signed, in_float, fits}
use lib.Ieee.Exact.{HasValue}
use lib.Ieee.Back.{positive_back}
use mir.Syntax.{w32}
use Rattle.arithmetic.proofs.Integers.{diffs, as_diff}
use Rattle.arithmetic.proofs.Ranges.{abs-add}
use Rattle.arithmetic.proofs.Signed.{Sized, held, sized, sized_fits, sized_held, sized_sub}
use Rattle.constellation.specs.Ranges.{max_sample}
use Rattle.frame.specs.FrameCall.{sample_outside}
use Rattle.binary32.specs.Conversion.{rounded, converts}
use Rattle.binary32.specs.declared.coordinate.Scaling.{Scaling}
use Rattle.binary32.proofs.Range.{outside_by_size}
use Rattle.binary32.proofs.Summing.{middle, rounding_sum}
use Rattle.binary32.proofs.coordinate.round_scaled.Goals as goal

-- MIDDLE, by its bits
abbrev centre : Float
centre = of_bits binary32 1262485504

centre_value : HasValue centre false middle 1
unfolding of_bits
centre_value = (refl, refl)

-- the float z is cast exactly, to y plus the middle
record Cast (z : Float) (y : ℤ) : Type 0 where
  pub exact : T (in_signed binary32 31 z)
  pub value : Sized (to_signed 31 z) (y +ℤ pos middle) (max_sample + middle)

whole_cast : (z : Float) (y : ℤ) (q : ℕ) → z ≡ of_int binary32 (pos q) → pos q ≡ y +ℤ pos middle → nat_abs y ≤ max_sample → Cast z y
unfolding in_float
whole_cast z y q is_whole is-moved size =
    let bound : nat_abs (y +ℤ pos middle) ≤ max_sample + middle = omega (arith, abs-add y (pos middle)) in
    let small : q ≤ max_sample + middle = subst (λ w. nat_abs w ≤ max_sample + middle) (sym is-moved) bound in
    let back = positive_back binary32 31 q (le→leb q (2 ^ 24) (omega arith)) (omega arith) in
    rw is_whole (record { exact = back.0; value = record { value = back.1 ∙ is-moved; size = bound } })

-- the sum, for a number that converts
sum_cast : (F : ℕ) (x factor : Float) → T (fits binary32 x) → HasValue factor false (2 ^ F) 1 → converts F x ≡ true
    → Cast (add binary32 (mul binary32 x factor) centre) (rounded F x)
unfolding converts
sum_cast F nan factor fit v ok = absurd (false≢true ok)
sum_cast F (inf s) factor fit v ok = absurd (false≢true ok)
sum_cast F (fin s m e) factor fit v ok =
    let inside : T (not (sample_outside (rounded F (fin s m e)))) = subst T (sym ok) tt in
    let near : T (not (ltb ((2 * max_sample + 1) * down e) (2 * (m * up e * 2 ^ F)))) = rw (outside_by_size F s m e) at inside in
    let sum = rounding_sum F s m e factor centre fit v centre_value (nltb→le _ _ near) in
    whole_cast _ _ sum.0 sum.1 sum.2 (nltb→le max_sample _ inside)

add_sub : (y m : ℤ) → (y +ℤ m) -ℤ m ≡ y
add_sub y m = rw (as_diff y, as_diff m) (simp diffs (omega arith))

moved_back : {z : Float} {y : ℤ} → Cast z y → Sized (held w32 (to_signed 31 z) -ℤ pos middle) y (max_sample + middle + middle)
moved_back {y = y} cast =
    let moved = sized_sub (sized_held w32 tt cast.value) (sized (pos middle) (le_refl middle)) in
    rw (add_sub y (pos middle)) at moved

casts : (x : Float) (s : Scaling) → fits binary32 x ≡ true → converts s.scale x ≡ true
    → Cast (add binary32 (mul binary32 x s.factor) centre) (rounded s.scale x)
casts x s fit known = sum_cast _ _ _ (subst T (sym fit) tt) s.in_range.factor known

pub returns : goal.returns
returns c = (sized_held w32 tt (moved_back (casts c.args.x c.args.scaling c.well_formed.0.1 c.requires))).value

pub float_to_int-result : goal.float_to_int-result
float_to_int-result c = (casts c.args.x c.args.scaling c.well_formed.0.1 c.requires).exact

pub overflow_sub-result : goal.overflow_sub-result
overflow_sub-result c = sized_fits w32 tt (moved_back (casts c.args.x c.args.scaling c.well_formed.0.1 c.requires))
