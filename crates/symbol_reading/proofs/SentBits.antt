-- Entries of one or two parts, written one by one into a buffer for bits, are the parts' entries in the order sent: for modulations that send label by label, and
-- for cellular labels, which are sent by turns. Assumes nothing.
use mathlib.Core.Path.{◌≡◌, sym, ap, ◌∙◌}
use mathlib.Core.List.{List, [], ◌++◌, append-nil}
use Prim.Native.Nat.{ℕ, ◌+◌, ◌*◌, ◌≤◌, ◌<◌}
use native.Mathlib.Nat.{zero-mul, one-mul, zero-add, add-zero, mul_comm}
use native.Mathlib.Omega.{arith}
use lib.ListN.{length, get_or, take, length-append, get_or-append}
use lib.Seq.{take_all, get_or-append-add}
use Rattle.arithmetic.specs.Lists.{first, over, spread}
use Rattle.arithmetic.proofs.Lists.{length_first, get_or_first, first_cong, over_more}
use Rattle.arithmetic.proofs.Spread.{length_spread, spread_cong, spread_over, spread_by_turns}
use Rattle.constellation.specs.declared.Modulation.{Modulation}
use Rattle.constellation.specs.declared.Modulation.TheVariants.{Cellular}
use Rattle.constellation.specs.Schemes.{bits_per_symbol, sent_place, by_columns}
use Rattle.constellation.proofs.Schemes.{by_columns_at}
use Rattle.frame.specs.Sent.{rearranged, as_sent}
use Rattle.frame.proofs.Sent.{in_symbol_at, as_sent_in_order}

module _ {B : Type 0} (d : List B) (none : B) (at : ℕ) where
  -- label by label
  module _ (q : Modulation) (order : (j : ℕ) → sent_place q j ≡ j) where
    pub sent_one : (f : ℕ → B) (m : ℕ) {out : List B} → at + m ≤ length d → out ≡ spread d at 1 f m → out ≡ over d at (take m (as_sent q none (first f m ++ [])))
    sent_one f m room e = e ∙ spread_over d at f m room ∙ ap (over d at) (sym (rw (append-nil, as_sent_in_order q none (first f m) order) (take_all m (first f m) (rw length_first (omega arith)))))

    pub sent_two : (f g : ℕ → B) (m k : ℕ) {l out : List B} → at + (m + k) ≤ length d → l ≡ spread d at 1 f m → out ≡ spread l (at + m) 1 g k
        → out ≡ over d at (take (m + k) (as_sent q none (first f m ++ (first g k ++ []))))
    sent_two f g m k {l} room e s =
        let long : length l ≡ length d = rw e (length_spread d at 1 f m) in
        let both : length (first f m ++ first g k) ≡ m + k = rw (length-append, length_first, length_first) in
        s ∙ spread_over l (at + m) g k (omega arith)
        ∙ rw (append-nil, as_sent_in_order q none (first f m ++ first g k) order, take_all (m + k) (first f m ++ first g k) (omega (arith, both)), e ∙ spread_over d at f m (omega arith))
        (rw length_first at (over_more d at (first f m) (first g k) (rw length_first (omega arith))))

  -- by turns
  module _ (f g : ℕ → B) (m : ℕ) where
    abbrev labels : List B
    labels = first f m ++ first g m

    abbrev turn : ℕ → B
    turn j = get_or labels (by_columns 2 m j) none

    length_labels : length labels ≡ 2 * m
    length_labels = rw (length-append, length_first, length_first) (omega arith)

    turns : as_sent (Cellular m) none labels ≡ first turn (2 * m)
    unfolding rearranged bits_per_symbol sent_place
    turns = rw length_labels (first_cong _ _ (2 * m) (λ i h. ap (λ j. get_or labels j none) (rw (zero-mul, zero-add i, zero-add (by_columns 2 m i)) at (in_symbol_at (2 * m) (λ j. by_columns 2 m j) 0 i h))))

    even : (i : ℕ) → i < m → f i ≡ turn (2 * i)
    even i h =
        let place : by_columns 2 m (2 * i) ≡ i = rw (mul_comm 2 i) (rw (add-zero, zero-mul, zero-add) at (by_columns_at 2 m i 0 (omega arith))) in
        sym (rw (place, get_or-append (first f m) (first g m) none i (rw length_first h)) (get_or_first f m i none h))

    odd : (i : ℕ) → i < m → g i ≡ turn (2 * i + 1)
    odd i h =
        let place : by_columns 2 m (2 * i + 1) ≡ length (first f m) + i = rw (mul_comm 2 i, length_first) (rw one-mul at (by_columns_at 2 m i 1 (omega arith))) in
        sym (rw (place, get_or-append-add) (get_or_first g m i none h))

    pub sent_by_turns : {l out : List B} → at + 2 * m ≤ length d → l ≡ spread d at 2 f m → out ≡ spread l (at + 1) 2 g m
        → out ≡ over d at (take (2 * m) (as_sent (Cellular m) none (first f m ++ (first g m ++ []))))
    sent_by_turns room e s =
        s ∙ rw (e, append-nil, turns, take_all (2 * m) (first turn (2 * m)) (rw length_first (omega arith)), ← spread_over d at turn (2 * m) room, ← spread_by_turns d at turn m, spread_cong d at 2 f (λ i. turn (2 * i)) m even)
        (spread_cong _ (at + 1) 2 g (λ i. turn (2 * i + 1)) m odd)
