-- `sixteenth` meets its contract: in each quadrant its sum is the one of `sixteenth_of`. Assumes nothing.
use mathlib.Core.Path.{◌≡◌, refl}
use mathlib.Core.Bool.{cond}
use mathlib.Core.Logic.{◌≢◌}
use Prim.Native.Nat.{ℕ, zero, suc, ◌+◌, ◌*◌, ◌/◌, ◌%◌, ◌^◌, ◌<◌}
use native.Mathlib.Omega.{arith}
use lib.Dec.{eqb}
use lib.IntN.{ℤ, pos, negsuc, nat_abs}
use mir.Facts.{to_z-of_z}
use Rattle.constellation.specs.Parts.{gray_part, phase}
use Rattle.constellation.proofs.Shown.{first_nearest}
use Rattle.phase_nearest.proofs.PhaseNearest.{sixteenth_of, phase-nearest, sixteenth_nearest, quadrant_of}
use Rattle.phase_nearest.proofs.sixteenth.Goals as goal
use Rattle.phase_nearest.proofs.sixteenth.Goals.{then-quadrant-eq0, else-quadrant-eq0}

sixteenth_sum :
    (yi yq : ℤ)
    → let n = sixteenth_of yi yq / 4 in
    let a = nat_abs yi in
    let b = nat_abs yq in
    let p : ℕ × ℕ = cond (eqb (n % 2) 0) (a, b) (b, a) in
    4 * n + sixteenth_of (pos p.0) (pos p.1) ≡ sixteenth_of yi yq
unfolding sixteenth_of
sixteenth_sum (pos x) (pos y) = rw (quadrant_of 0 x y) (omega arith)
sixteenth_sum (negsuc x) (pos y) = rw (quadrant_of 1 y (suc x)) (omega arith)
sixteenth_sum (pos zero) (negsuc y) = rw (quadrant_of 2 0 (suc y)) (omega arith)
sixteenth_sum (negsuc x) (negsuc y) = rw (quadrant_of 2 (suc x) (suc y)) (omega arith)
sixteenth_sum (pos (suc x)) (negsuc y) = rw (quadrant_of 3 (suc y) (suc x)) (omega arith)

-- the coordinates that the code takes: exchanged in the odd quadrants
even_taken : (q : ℕ) (a b : ℕ × ℕ) → q % 2 ≡ 0 → a ≡ cond (eqb (q % 2) 0) a b
even_taken q a b e = rw e refl

odd_taken : (q : ℕ) (a b : ℕ × ℕ) → q % 2 ≢ 0 → b ≡ cond (eqb (q % 2) 0) a b
odd_taken q a b h = let one : q % 2 ≡ 1 = omega arith in rw one refl

nearest_small : (m : ℕ) (yi yq : ℤ) {k : ℕ} → k ≡ (phase m 1 yi yq).nearest → k < 2 ^ m
unfolding phase gray_part
nearest_small m yi yq e = rw e (first_nearest m _).below

pub returns : goal.returns
returns c =
    let z = c.args in
    let q = c.quarter-quadrant.result in
    let a = c.unsigned_abs-across.result in
    let b = c.unsigned_abs-up.result in
    let taken : c.if-quadrant-eq0.x ≡ cond (eqb (q % 2) 0) (a, b) (b, a) =
    elim c.if-quadrant-eq0.branch [
      | then-quadrant-eq0 w ↦ rw w.x-is (even_taken q (a, b) (b, a) w.if-quadrant-eq0.true)
      | else-quadrant-eq0 w ↦ rw w.x-is (odd_taken q (a, b) (b, a) w.if-quadrant-eq0.false)
    ] in
    rw (
      c.of_first_quadrant.ensures,
      sixteenth_nearest (pos c.if-quadrant-eq0.x.0) (pos c.if-quadrant-eq0.x.1),
      taken,
      c.unsigned_abs-across.ensures.value,
      c.unsigned_abs-up.ensures.value,
      c.quarter-quadrant.ensures,
      to_z-of_z c.ranges.yi,
      to_z-of_z c.ranges.yq,
      phase-nearest 2 1 z.yi z.yq (omega arith) (omega arith),
      sixteenth_nearest z.yi z.yq,
    )
    (sixteenth_sum z.yi z.yq)

pub overflow_mul-result : goal.overflow_mul-result
overflow_mul-result c = omega (arith, nearest_small 2 _ _ c.quarter-quadrant.ensures)

pub overflow_add-result : goal.overflow_add-result
overflow_add-result c =
    omega (
      arith,
      nearest_small 2 _ _ c.quarter-quadrant.ensures,
      nearest_small 4 _ _ c.of_first_quadrant.ensures,
    )
