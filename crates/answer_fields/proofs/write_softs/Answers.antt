-- `write_softs` meets its contract. Assumes nothing.
use mathlib.Core.Path.{◌≡◌, sym, ◌∙◌}
use mathlib.Core.List.{List, flat_map}
use Prim.Native.Nat.{ℕ, ◌+◌, ◌*◌, ◌≤◌, ◌<◌}
use native.Mathlib.Nat.{suc-mul, mul-le-mul_right}
use native.Mathlib.Numerals.{add-one}
use native.Mathlib.Omega.{arith}
use borrow.Author.Rules.{rules}
use lib.IntN.{ℤ, pos}
use mir.Syntax.{w16}
use mir.Val.{SFits}
use mir.Facts.{to_z-of_z}
use lib.ListN.{length, get_or}
use Rattle.arithmetic.specs.Lists.{joined, over}
use Rattle.arithmetic.proofs.Lists.{over_nothing, over_more, length_joined, flat_map_entries}
use Rattle.hexadecimal.specs.TwosComplement.{unsigned_of, last_digits}
use Rattle.hexadecimal.proofs.Fields.{length_digits}
use Rattle.digit_writing.specs.Width.{digits_in}
use Rattle.answer_fields.proofs.write_softs.Invariants.{soft_at}
use Rattle.answer_fields.proofs.write_softs.Goals as goal

module _ (d : ℕ) (soft : List ℤ) where
  softs_joined : joined (soft_at d soft) (length soft) ≡ flat_map (last_digits d) soft
  unfolding soft_at
  softs_joined = sym (flat_map_entries (last_digits d) soft (pos 0))

  length_softs : (i : ℕ) → length (joined (soft_at d soft) i) ≡ i * d
  unfolding soft_at last_digits
  length_softs i = length_joined (soft_at d soft) d i (λ j h. length_digits d (unsigned_of 4 (get_or soft j (pos 0))))

  -- one soft value more
  softs_more : (lent : List ℕ) (at i : ℕ) → at + i * d ≤ length lent
      → over (over lent at (joined (soft_at d soft) i)) (at + i * d) (soft_at d soft i) ≡ over lent at (joined (soft_at d soft) (i + 1))
  unfolding joined
  softs_more lent at i h =
      let long = length_softs i in
      rw add-one (rw long at (over_more lent at (joined (soft_at d soft) i) (soft_at d soft i) (rw long h)))

-- the next one has room
next_fits : (d at : ℕ) {i n room : ℕ} → i < n → at + n * d ≤ room → at + i * d + d ≤ room
next_fits d at {i} h fits = omega (arith, mul-le-mul_right d h, suc-mul i d)

pub returns : goal.returns
returns c =
    let e : c.loop-i.i ≡ length c.args.soft.now = omega arith in
    rw (c.loop-i.invariant, e, softs_joined)

pub loop-i-init : goal.loop-i-init
unfolding joined
loop-i-init c = sym (over_nothing _ _)

pub loop-i-preserved : goal.loop-i-preserved
unfolding soft_at
loop-i-preserved c =
    let l = c.loop-i in
    let d = digits_in c.args.width in
    let fits : SFits w16 (get_or c.args.soft.now l.i (pos 0)) = search rules in
    rw (to_z-of_z fits) at c.write_signed.ensures
    ∙ rw (c.digits_in-digits.ensures, l.invariant) (softs_more d c.args.soft.now c.args.text.now c.args.at l.i (omega (arith, next_fits d c.args.at c.loop-i-test.true c.requires)))
