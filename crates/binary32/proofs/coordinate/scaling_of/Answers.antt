-- `scaling_of` meets its contract: 2^F is exact, and so is the limit, a whole number over a power of two. Assumes nothing.
use mathlib.Core.Path.{refl}
use mathlib.Core.Bool.{false}
use Prim.Native.Nat.{ℕ, suc, ◌+◌, ◌*◌, ◌^◌, ◌≤◌}
use native.Mathlib.Nat.{pow-suc}
use native.Mathlib.Omega.{arith}
use lib.Dec.{lit<}
use lib.IntN.{pos}
use lib.Pow.{pow_pos, pow_mono}
use lib.Ieee.{Float, binary32, of_int, of_bits, div}
use lib.Ieee.Exact.{HasValue}
use lib.Ieee.Back.{round_whole}
use Rattle.constellation.specs.Ranges.{max_sample}
use Rattle.binary32.specs.Conversion.{max_scale}
use Rattle.binary32.proofs.Dividing.{quotient_at, power_quotient}
use Rattle.binary32.proofs.coordinate.scaling_of.Goals as goal

factor_value : (F : ℕ) → F ≤ max_scale → HasValue (of_int binary32 (pos (2 ^ F))) false (2 ^ F) 1
unfolding of_int
factor_value F h = round_whole binary32 false (2 ^ F) (pow_mono {i = F} {j = 24} (omega arith))

-- `largest` is a half above the range of samples
limit_value : (F : ℕ) (largest factor : Float) → F ≤ max_scale → HasValue largest false (2 * max_sample + 1) 2 → HasValue factor false (2 ^ F) 1
    → HasValue (div binary32 largest factor) false (2 * max_sample + 1) (2 ^ suc F)
limit_value F largest factor h u v =
    rw (quotient_at binary32 largest factor false (2 * max_sample + 1) 2 (2 ^ F) 1 (lit< tt) (pow_pos F) u v, ← pow-suc 2 F)
    (power_quotient binary32 false (2 * max_sample + 1) (suc F) (lit< tt) (omega arith))

-- LARGEST of the code is computed
pub invariant_of-result : goal.invariant_of-result
unfolding of_bits
invariant_of-result c =
    let v = rw (← c.power_of_two-factor.ensures) at (factor_value c.args.scale c.requires) in
    record { in_range = record { scale = c.requires; factor = v; limit = limit_value _ _ _ c.requires (refl, refl) v } }
