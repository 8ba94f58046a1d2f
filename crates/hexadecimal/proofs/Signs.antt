-- Two's complement and its inverse, and signed fields printed and parsed. Assumes nothing.
use mathlib.Core.Path.{◌≡◌, refl, ap, ◌∙◌}
use mathlib.Core.Logic.{◌⊎◌, inl, inr}
use mathlib.Core.Bool.{true}
use mathlib.Core.List.{List, ◌++◌}
use Prim.Native.Nat.{ℕ, suc, ◌+◌, ◌*◌, ◌-◌, ◌/◌, ◌%◌, ◌^◌, ◌<◌, ◌≤◌}
use native.Mathlib.Decide.{dec_lt}
use native.Mathlib.Omega.{arith}
use borrow.Author.Tests.{lt-ltb, le-ltb}
use mir.Syntax.{w16, w32}
use mir.Facts.{to_z_pos, to_z-neg}
use lib.IntN.{ℤ, pos, negsuc, ◌-ℤ◌}
use lib.ListN.{length, take, drop}
use Rattle.std.specs.Int.{cast_signed, cast_unsigned}
use Rattle.arithmetic.proofs.Integers.{diffs, as_diff, neg-pos}
use Rattle.hexadecimal.specs.Digits.{all_digits, number_at, digits_of}
use Rattle.hexadecimal.specs.TwosComplement.{signed_of, unsigned_of, signed_at, signed_digits, last_digits, Representable}
use Rattle.hexadecimal.proofs.Fields.{number_below, printed_number, parsed_number}

-- the numbers below half of 16^n, and the others
signed_low : (n v : ℕ) → 2 * v < 16 ^ n → signed_of n v ≡ pos v
unfolding signed_of
signed_low n v h = rw (lt-ltb (2 * v) (16 ^ n) h)

below-zero : (v p : ℕ) → v < p → pos v -ℤ pos p ≡ negsuc (p - suc v)
below-zero v p h = rw (as_diff (negsuc (p - suc v)), neg-pos p) (simp diffs (omega arith))

signed_high : (n v : ℕ) → 16 ^ n ≤ 2 * v → v < 16 ^ n → signed_of n v ≡ negsuc (16 ^ n - suc v)
unfolding signed_of
signed_high n v h l = rw (le-ltb (2 * v) (16 ^ n) h) (below-zero v (16 ^ n) l)

unsigned_below : (n : ℕ) (z : ℤ) → Representable n z → unsigned_of n z < 16 ^ n
unfolding unsigned_of Representable
unsigned_below n (pos v) h = omega arith
unsigned_below n (negsuc v) h = omega arith

pub signed_unsigned : (n : ℕ) (z : ℤ) → Representable n z → signed_of n (unsigned_of n z) ≡ z
unfolding unsigned_of Representable
signed_unsigned n (pos v) h = signed_low n v h
signed_unsigned n (negsuc v) h = signed_high n (16 ^ n - suc v) (omega arith) (omega arith) ∙ ap negsuc (omega arith)

pub unsigned_signed : (n v : ℕ) → v < 16 ^ n → unsigned_of n (signed_of n v) ≡ v
unfolding unsigned_of
unsigned_signed n v h = go (dec_lt (2 * v) (16 ^ n))
  where
    go : Dec (2 * v < 16 ^ n) → unsigned_of n (signed_of n v) ≡ v
    go (yes l) = rw (signed_low n v l)
    go (no l) = rw (signed_high n v (omega arith) h) (omega arith)

-- they are the machine's
pub signed_machine : (v : ℕ) → v < 2 ^ 32 → cast_signed w32 v ≡ signed_of 8 v
signed_machine v h = go (dec_lt (2 * v) (16 ^ 8))
  where
    go : Dec (2 * v < 16 ^ 8) → cast_signed w32 v ≡ signed_of 8 v
    go (yes l) = rw (signed_low 8 v l) (to_z_pos w32 (omega arith))
    go (no l) =
        let place : 2 ^ 32 - suc (2 ^ 32 - suc v) ≡ v = omega arith in
        rw (signed_high 8 v (omega arith) h) (rw place at (to_z-neg w32 (2 ^ 32 - suc v) (omega arith)))

pub unsigned_machine : (z : ℤ) → cast_unsigned w16 z ≡ unsigned_of 4 z
unfolding unsigned_of
unsigned_machine (pos v) = refl
unsigned_machine (negsuc v) = refl

-- printed, then parsed, and parsed, then printed, as for unsigned fields
pub printed_signed : (before after : List ℕ) (n : ℕ) (z : ℤ) → Representable n z
    → signed_at (before ++ signed_digits n z ++ after) (length before) n ≡ z
unfolding signed_at signed_digits
printed_signed before after n z h =
    rw (printed_number before after n (unsigned_of n z) (unsigned_below n z h)) (signed_unsigned n z h)

pub parsed_signed : (text : List ℕ) (at n : ℕ) → all_digits text ≡ true → at + n ≤ length text
    → signed_digits n (signed_at text at n) ≡ take n (drop at text)
unfolding signed_at signed_digits
parsed_signed text at n h l =
    rw (unsigned_signed n (number_at text at n) (number_below text at n h l)) (parsed_number text at n h l)

pub at_most_four : {n : ℕ} → (n ≡ 2) ⊎ (n ≡ 4) → n ≤ 4
at_most_four (inl two) = omega arith
at_most_four (inr four) = omega arith

-- where 2 or 4 digits have room for a number, they are the last digits of it
pub last_digits_lem : {n : ℕ} (z : ℤ) → (n ≡ 2) ⊎ (n ≡ 4) → Representable n z → last_digits n z ≡ signed_digits n z
unfolding last_digits signed_digits unsigned_of Representable digits_of
last_digits_lem (pos v) known fits = refl
last_digits_lem (negsuc v) (inl two) fits =
    let small : 2 * suc v ≤ 256 = rw two at fits in
    let low : (65536 - suc v) % 16 ≡ (256 - suc v) % 16 = omega arith in
    let sixteenth : (65536 - suc v) / 16 ≡ 255 * 16 + (256 - suc v) / 16 = omega arith in
    let high : (65536 - suc v) / 16 % 16 ≡ (256 - suc v) / 16 % 16 = rw sixteenth (omega arith) in
    rw (two, low, high)
last_digits_lem (negsuc v) (inr four) fits = rw four
