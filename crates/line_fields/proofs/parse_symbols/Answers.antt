-- `parse_symbols` meets its contract: each field lies inside the line, and the calls give the definitions' lists. Assumes nothing.
use mathlib.Core.Path.{◌≡◌, refl, ◌∙◌}
use mathlib.Core.Bool.{Bool, true}
use Prim.Native.Nat.{ℕ, ◌+◌, ◌≤◌, ◌<◌}
use native.Mathlib.Nat.{add-zero, suc-mul, mul-le-mul_right}
use native.Mathlib.Omega.{arith}
use lib.ListN.{length}
use Rattle.arithmetic.proofs.Lists.{first_cong}
use Rattle.constellation.specs.Schemes.{has_quadrature, quadrature_length}
use Rattle.line_text.specs.Line.{digits_before, digits_by, symbol_at, gain_at, weight_at, in_phase_at, quadrature_at}
use Rattle.line_text.proofs.LineChecks.{digits_before_few, is_there}
use Rattle.line_fields.proofs.parse_symbols.Goals as goal

-- where the fields of symbol n of k end: the symbol is inside of what has room for all k
module _ (weighted quadrature : Bool) (k n : ℕ) {d b long : ℕ} (digits : d ≡ digits_by weighted quadrature) (before : b ≡ digits_before weighted)
    (room : symbol_at (digits_by weighted quadrature) k ≤ long) (l : n < k) where
  symbol_inside : symbol_at d n + d ≤ long
  symbol_inside = rw digits (omega (arith, mul-le-mul_right (digits_by weighted quadrature) l, suc-mul n (digits_by weighted quadrature)))

  in_phase_inside : symbol_at d n + b + 8 ≤ long
  unfolding digits_by
  in_phase_inside = omega (arith, before, digits, symbol_inside)

  quadrature_inside : quadrature ≡ true → symbol_at d n + (b + 8) + 8 ≤ long
  unfolding digits_by
  quadrature_inside t = omega (arith, before, rw t at digits, symbol_inside)

  numbers_inside : symbol_at d n + 12 ≤ long
  unfolding digits_before
  numbers_inside = omega (arith, before, in_phase_inside)

pub parse_numbers-requires : goal.parse_numbers-requires
parse_numbers-requires c n l =
    omega (arith, numbers_inside c.args.weighted _ _ n c.symbol_digits-digits.ensures c.digits_before-sample.ensures c.requires.0 l)

pub parse_numbers-requires-2 : goal.parse_numbers-requires-2
parse_numbers-requires-2 c n l =
    let (t, k) = is_there c.args.weighted (length c.args.gains.now) n (rw c.requires.1 at l) in
    omega (arith, numbers_inside c.args.weighted _ _ n c.symbol_digits-digits.ensures c.digits_before-sample.ensures c.requires.0 k)

pub parse_samples-requires : goal.parse_samples-requires
parse_samples-requires c n l =
    omega (arith, in_phase_inside c.args.weighted _ _ n c.symbol_digits-digits.ensures c.digits_before-sample.ensures c.requires.0 (rw c.requires.2 at l))

pub overflow_add-sample : goal.overflow_add-sample
overflow_add-sample c = omega (arith, c.digits_before-sample.ensures, digits_before_few c.args.weighted)

pub parse_samples-requires-2 : goal.parse_samples-requires-2
unfolding quadrature_length
parse_samples-requires-2 c n l =
    let (t, k) = is_there (has_quadrature c.args.modulation) (length c.args.gains.now) n (rw c.requires.3 at l) in
    omega (arith, quadrature_inside c.args.weighted _ _ n c.symbol_digits-digits.ensures c.digits_before-sample.ensures c.requires.0 k t)

pub returns-clause-gain : goal.returns-clause-gain
unfolding gain_at
returns-clause-gain c = rw c.symbol_digits-digits.ensures at c.parse_numbers.ensures ∙ first_cong _ _ _ (λ n l. rw add-zero refl)

pub returns-clause-weight : goal.returns-clause-weight
unfolding weight_at
returns-clause-weight c = rw c.symbol_digits-digits.ensures at c.parse_numbers-2.ensures

pub returns-clause-in_phase : goal.returns-clause-in_phase
unfolding in_phase_at
returns-clause-in_phase c = rw (c.symbol_digits-digits.ensures, c.digits_before-sample.ensures, c.requires.2) at c.parse_samples.ensures

pub returns-clause-quadrature : goal.returns-clause-quadrature
unfolding quadrature_at
returns-clause-quadrature c = rw (c.symbol_digits-digits.ensures, c.digits_before-sample.ensures, c.requires.3) at c.parse_samples-2.ensures
