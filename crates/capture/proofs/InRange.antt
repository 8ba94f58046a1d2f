-- What a capture is converted to lies in the range of samples, which the frame call's check 11 is about. Assumes nothing.
use mathlib.Core.Path.{◌≡◌, refl}
use mathlib.Core.Bool.{Bool, true, false, not, ◌&&◌, false≢true}
use mathlib.Core.List.{List}
use Prim.Native.Nat.{ℕ, zero, suc, ◌+◌, ◌*◌, ◌/◌, ◌<◌}
use native.Mathlib.Omega.{arith}
use lib.IntN.{pos}
use lib.ListN.{length, get_or}
use lib.Ieee.{Float}
use lib.Ieee.Scale.{finite}
use Rattle.arithmetic.proofs.Lists.{get_or_first}
use Rattle.std.specs.Prelude.{Ok}
use Rattle.frame.specs.FrameCall.{sample_outside}
use Rattle.binary32.specs.Conversion.{rounded, converts}
use Rattle.capture.specs.Capture.{Recording, numbers_per_sample, samples_in, converted_i, converted_q, capture_answer}
use Rattle.capture.proofs.CaptureChecks.{plain_recording}
use Rattle.capture.proofs.Accepted.{converted_accepted, numbers_convert, singles_in_phase, pairs_in_phase, pairs_quadrature, singles_no_quadrature}

-- a number that converts does not round out of the range
inside : (F : ℕ) (x : Float) → converts F x ≡ true → sample_outside (rounded F x) ≡ false
unfolding converts
inside F x = go (finite x) (sample_outside (rounded F x))
  where
    go : (f o : Bool) → f && not o ≡ true → o ≡ false
    go true true e = absurd (false≢true e)
    go true false e = refl
    go false o e = absurd (false≢true e)

in_range : (kind F : ℕ) (xs : List Float) (room_i room_q : ℕ) {count : ℕ}
    → capture_answer (plain_recording kind F xs) room_i room_q ≡ Ok count → (n : ℕ) → n < count
    → (sample_outside (get_or (converted_i (plain_recording kind F xs)) n (pos 0)) ≡ false)
    × (sample_outside (get_or (converted_q (plain_recording kind F xs)) n (pos 0)) ≡ false)
unfolding samples_in numbers_per_sample
in_range zero F xs room_i room_q e n h =
    let (all, a) = converted_accepted e in
    let below : n < length xs = omega arith in (
      rw (singles_in_phase a, get_or_first _ _ n (pos 0) below) (inside F _ (numbers_convert zero F xs a n below)),
      rw (singles_no_quadrature F xs),
    )
in_range (suc k) F xs room_i room_q e n h =
    let (all, a) = converted_accepted e in
    let below : n < length xs / 2 = omega arith in (
      rw (pairs_in_phase a, get_or_first _ _ n (pos 0) below) (inside F _ (numbers_convert (suc k) F xs a (n * 2) (omega arith))),
      rw (pairs_quadrature a, get_or_first _ _ n (pos 0) below) (inside F _ (numbers_convert (suc k) F xs a (n * 2 + 1) (omega arith))),
    )

pub converted_in_range : (c : Recording) (room_i room_q : ℕ) {count : ℕ} → capture_answer c room_i room_q ≡ Ok count → (n : ℕ) → n < count
    → (sample_outside (get_or (converted_i c) n (pos 0)) ≡ false) × (sample_outside (get_or (converted_q c) n (pos 0)) ≡ false)
converted_in_range c = in_range c.kind c.scale c.numbers
