-- What the list of PSK coordinates has of a point: u at 2·(2^m − 2 + k), v behind it, and their sizes. One test computes the places of all.
-- Assumes nothing.
use mathlib.Core.Bool.{Bool, ◌&&◌}
use mathlib.Core.List.{List}
use Prim.Native.Nat.{ℕ, zero, suc, ◌+◌, ◌*◌, ◌-◌, ◌^◌, ◌≤◌}
use native.Mathlib.Omega.{arith}
use lib.Dec.{T}
use lib.IntN.{ℤ, pos}
use lib.ListN.{get_or}
use lib.Pow.{pow_mono}
use Rattle.arithmetic.specs.Lists.{joined}
use Rattle.arithmetic.specs.Tests.{all_below, same_ℤ}
use Rattle.arithmetic.proofs.Tests.{all_below_at, passed}
use Rattle.arithmetic.proofs.Signed.{Sized}
use Rattle.constellation.specs.Psk.{psk_halves, psk_quarters, turned, psk_point, psk_coordinates, TableWith}
use Rattle.constellation.proofs.PskTables.{psk_size}

-- where point k of m bits starts
abbrev pub psk_start : ℕ → ℕ → ℕ
psk_start m k = 2 * (2 ^ m - 2 + k)

layout_test : ℕ → ℕ → Bool
layout_test m k =
    same_ℤ (get_or psk_coordinates (psk_start m k) (pos 0)) (psk_point m k).u
    && same_ℤ (get_or psk_coordinates (psk_start m k + 1) (pos 0)) (psk_point m k).v

-- m = 1, 2, 3 and 4
layout_passes : T (all_below 4 (λ n. all_below (2 ^ suc n) (layout_test (suc n))))
unfolding all_below layout_test same_ℤ psk_coordinates joined psk_point psk_halves psk_quarters turned
layout_passes = tt

pub psk_layout :
    {table : List ℤ} {m k : ℕ}
    → TableWith table m k
    → Sized (get_or table (psk_start m k) (pos 0)) (psk_point m k).u 16384
    × Sized (get_or table (psk_start m k + 1) (pos 0)) (psk_point m k).v 16384
unfolding layout_test
psk_layout {m = zero} t = absurd (omega arith)
psk_layout {m = suc n} {k} t =
    let m = suc n in
    let row = all_below_at 4 (λ n. all_below (2 ^ suc n) (layout_test (suc n))) layout_passes n (omega arith) in
    let (eu, ev) = simp passed at (all_below_at (2 ^ m) (layout_test m) row k t.below) in
    let (su, sv) = psk_size m k t.some (omega arith) t.below in
    rw t.contents (record { value = eu; size = su }, record { value = ev; size = sv })

-- 2 to 16 points
pub psk_points : {table : List ℤ} {m k : ℕ} → TableWith table m k → (2 ≤ 2 ^ m) × (2 ^ m ≤ 16)
psk_points t = (pow_mono {i = 1} t.some, pow_mono {j = 4} t.few)
