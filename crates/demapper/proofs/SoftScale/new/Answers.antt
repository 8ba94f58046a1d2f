-- `SoftScale::new` meets its contract: shift and e are at most 54. Assumes nothing.
use mathlib.Core.Path.{◌≡◌, refl, ap, ◌∙◌}
use Prim.Native.Nat.{ℕ, ◌+◌, ◌*◌, ◌%◌, ◌/◌, ◌^◌, ◌≤◌}
use native.Mathlib.Nat.{mod-eq_of_lt, one-mul}
use native.Mathlib.Omega.{arith}
use lib.Pow.{pow_mono}
use Rattle.constellation.specs.Schemes.{fraction_bits}
use Rattle.constellation.proofs.Schemes.{fraction_few}
use Rattle.demapper.proofs.SoftScale.new.Goals as goal

half_whole : (n : ℕ) → n ≤ 54 → 1 * 2 ^ n % 2 ^ 64 / 2 ≡ 2 ^ n / 2
half_whole n h = ap (λ k. k / 2) (mod-eq_of_lt (omega (arith, pow_mono {j = 54} h)) ∙ one-mul (2 ^ n))

pub overflow_add-shift : goal.overflow_add-shift
overflow_add-shift c = omega (arith, fraction_few c.args.modulation, c.requires, c.fraction_bits.ensures)

pub overflow_shl-result : goal.overflow_shl-result
overflow_shl-result c = omega (arith, fraction_few c.args.modulation, c.requires, c.fraction_bits.ensures)

pub returns : goal.returns
returns c =
    let shift : ℕ = c.args.shift + fraction_bits c.args.modulation in
    let below : shift ≤ 54 = omega (arith, fraction_few c.args.modulation, c.requires) in
    rw (c.fraction_bits.ensures, c.from.ensures, c.from-2.ensures, c.from-3.ensures, half_whole shift below) refl
