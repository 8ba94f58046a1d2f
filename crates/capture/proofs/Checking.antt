-- The checks of a sample, by what its coordinates convert to. Assumes nothing.
use mathlib.Core.Path.{◌≡◌, refl}
use mathlib.Core.Bool.{Bool, true, false, cond, not, ◌&&◌}
use mathlib.Core.List.{List, [], ◌++◌, flat_map, append-nil}
use Prim.Native.Nat.{ℕ}
use lib.IntN.{ℤ}
use lib.Ieee.{Float}
use lib.Ieee.Scale.{finite}
use Rattle.std.specs.Prelude.{Result, Ok, Err}
use Rattle.frame.specs.Verdicts.{Passed, Failed}
use Rattle.frame.specs.declared.Refusal.{Refusal}
use Rattle.frame.specs.declared.Refusal.TheVariants as Refusals
use Rattle.frame.specs.Checks.{Check, verdict_of}
use Rattle.frame.specs.FrameCall.{sample_outside}
use Rattle.binary32.specs.Conversion.{rounded, converts}
use Rattle.binary32.specs.Scaling.{refusal_for, converted_number}
use Rattle.capture.specs.declared.QuadratureSample.{QuadratureSample}
use Rattle.capture.specs.declared.Sample.{Sample}
use Rattle.capture.specs.declared.Sample.TheVariants.{Single, Pair}
use Rattle.capture.specs.Samples.{coordinate_checks, coordinates, sample_checks, sample_answer_for}

-- the checks of a coordinate, and then others
pub coordinate_decides : (F n : ℕ) (x : Float) (rest : List Check)
    → verdict_of (coordinate_checks F n x ++ rest) ≡ cond (converts F x) (verdict_of rest) (Failed (refusal_for x) n)
unfolding verdict_of coordinate_checks converts refusal_for
coordinate_decides F n x rest = go (finite x) (sample_outside (rounded F x))
  where
    go : (f o : Bool)
        → cond (not f) (Failed Refusals.NotFinite n) (cond o (Failed Refusals.RoundsOutOfRange n) (verdict_of rest))
        ≡ cond (f && not o) (verdict_of rest) (Failed (cond f Refusals.RoundsOutOfRange Refusals.NotFinite) n)
    go true true = refl
    go true false = refl
    go false o = refl

pub coordinate_verdict : (F n : ℕ) (x : Float) → verdict_of (coordinate_checks F n x) ≡ cond (converts F x) Passed (Failed (refusal_for x) n)
unfolding verdict_of
coordinate_verdict F n x = rw append-nil at (coordinate_decides F n x [])

-- ---- a sample's answer, from what its coordinates convert to

abbrev pub single_answer : Result ℤ Refusal → Result (Sample ℤ) Refusal
single_answer (Err r) = Err r
single_answer (Ok y) = Ok (Single y)

abbrev pub pair_answer : Result ℤ Refusal → Result ℤ Refusal → Result (Sample ℤ) Refusal
pair_answer (Err r) w = Err r
pair_answer (Ok y_i) (Err r) = Err r
pair_answer (Ok y_i) (Ok y_q) = Ok (Pair (record { in_phase = y_i; quadrature = y_q }))

pub single_answer_lem : (F : ℕ) (x : Float) {w : Result ℤ Refusal} → w ≡ converted_number F x
    → single_answer w ≡ sample_answer_for (verdict_of (sample_checks F 0 (Single x))) F (Single x)
unfolding sample_checks coordinates flat_map converted_number verdict_of
single_answer_lem F x is = rw (is, coordinate_decides F 0 x []) (go (converts F x))
  where
    go : (b : Bool)
        → single_answer (cond b (Ok (rounded F x)) (Err (refusal_for x)))
        ≡ sample_answer_for (cond b Passed (Failed (refusal_for x) 0)) F (Single x)
    go true = unfold sample_answer_for in refl
    go false = unfold sample_answer_for in refl

pub pair_answer_lem : (F : ℕ) (p : QuadratureSample Float) {v w : Result ℤ Refusal} → v ≡ converted_number F p.in_phase → w ≡ converted_number F p.quadrature
    → pair_answer v w ≡ sample_answer_for (verdict_of (sample_checks F 0 (Pair p))) F (Pair p)
unfolding sample_checks coordinates flat_map converted_number verdict_of
pair_answer_lem F p is_i is_q =
    rw (is_i, is_q, coordinate_decides F 0 p.in_phase (coordinate_checks F 0 p.quadrature ++ []), coordinate_decides F 0 p.quadrature [])
    (go (converts F p.in_phase) (converts F p.quadrature))
  where
    go : (a b : Bool)
        → pair_answer (cond a (Ok (rounded F p.in_phase)) (Err (refusal_for p.in_phase))) (cond b (Ok (rounded F p.quadrature)) (Err (refusal_for p.quadrature)))
        ≡ sample_answer_for (cond a (cond b Passed (Failed (refusal_for p.quadrature) 0)) (Failed (refusal_for p.in_phase) 0)) F (Pair p)
    go true true = unfold sample_answer_for in refl
    go true false = unfold sample_answer_for in refl
    go false b = unfold sample_answer_for in refl
