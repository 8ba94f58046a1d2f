-- `write_number` meets its contract: each digit is written behind those before it. Assumes nothing.
use mathlib.Core.Path.{◌≡◌, refl, sym}
use mathlib.Core.List.{List, ◌∷◌, [], ◌++◌}
use Prim.Native.Nat.{ℕ, zero, suc, ◌+◌, ◌*◌, ◌-◌, ◌/◌, ◌%◌, ◌^◌, ◌<◌, ◌≤◌}
use native.Mathlib.Nat.{pow-suc, div-div-eq-div-mul}
use native.Mathlib.Numerals.{add-one}
use native.Mathlib.Omega.{arith}
use lib.ListN.{length, set}
use lib.Pow.{pow-add}
use Rattle.arithmetic.specs.Lists.{over}
use Rattle.arithmetic.proofs.Lists.{over_nothing, over_step}
use Rattle.hexadecimal.specs.Digits.{digit_of, digits_of}
use Rattle.hexadecimal.proofs.Fields.{length_digits}
use Rattle.digit_writing.proofs.write_number.Goals as goal

power : (k : ℕ) → 2 ^ (4 * k) ≡ 16 ^ k
power zero = refl
power (suc k) =
    let step : 4 * suc k ≡ 4 + 4 * k = omega arith in
    rw (step, pow-add 2 4 (4 * k), power k) (omega (arith, pow-suc 16 k))

digits_more : (i w : ℕ) → digits_of (i + 1) w ≡ digits_of i (w / 16) ++ (digit_of (w % 16) ∷ [])
unfolding digits_of
digits_more i w = rw add-one

-- one digit more, of n
one_more : (lent : List ℕ) (at v n i : ℕ) {out : List ℕ} {x : ℕ} → i < n → at + n ≤ length lent → out ≡ over lent at (digits_of i (v / 16 ^ (n - i)))
    → x ≡ digit_of (v / 2 ^ (4 * (n - 1 - i)) % 16) → set out (at + i) x ≡ over lent at (digits_of (i + 1) (v / 16 ^ (n - (i + 1))))
one_more lent at v n i few h written digit =
    let left : ℕ = n - (i + 1) in
    let same : n - 1 - i ≡ left = omega arith in
    let before : n - i ≡ suc left = omega arith in
    let above : v / 16 ^ left / 16 ≡ v / 16 ^ (n - i) = rw (before, pow-suc) (div-div-eq-div-mul v (16 ^ left) 16) in
    let long = length_digits i (v / 16 ^ (n - i)) in
    rw (written, digit, same, power left, digits_more i (v / 16 ^ left), above) (sym (rw long at (over_step lent at (digits_of i (v / 16 ^ (n - i))) (digit_of (v / 16 ^ left % 16)) (rw long (omega arith)))))

pub loop-i-init : goal.loop-i-init
unfolding digits_of
loop-i-init g c = sym (over_nothing _ _)

pub loop-i-preserved : goal.loop-i-preserved
loop-i-preserved g c = one_more c.args.text.now c.args.at c.args.v g.row.N c.loop-i.i c.loop-i-test.true c.requires.1 c.loop-i.invariant c.digit_of.ensures
