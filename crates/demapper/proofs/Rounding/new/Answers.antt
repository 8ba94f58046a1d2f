-- `Rounding::new` meets its contract: shift and e are at most 54. Assumes nothing.
use mathlib.Core.Path.{refl, ap}
use native.Mathlib.Omega.{arith}
use Rattle.constellation.proofs.Schemes.{fraction_few}
use Rattle.demapper.specs.declared.SoftScale.{SoftScale}
use Rattle.demapper.proofs.Rounding.new.Goals as goal

pub invariant_of-result : goal.invariant_of-result
invariant_of-result c =
    let weight = ap (λ (n : SoftScale). n.weight) c.new.ensures in
    let shift = ap (λ (n : SoftScale). n.shift) c.new.ensures in
    let limit = ap (λ (n : SoftScale). n.limit) c.new.ensures in
    record {
      weight_in = omega (arith, weight, c.requires.0);
      shift_in = omega (arith, shift, fraction_few c.args.modulation, c.requires.1);
      limit_in = omega (arith, limit, c.requires.2);
      half_is = rw c.new.ensures refl;
    }
