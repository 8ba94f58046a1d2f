-- The checks of a symbol, by what the code finds of its gain and its samples. Assumes nothing.
use mathlib.Core.Path.{◌≡◌, refl, sym, ◌∙◌}
use mathlib.Core.Bool.{Bool, true, false, cond, not, ◌||◌, true≢false}
use mathlib.Core.List.{List}
use Prim.Native.Nat.{ℕ, zero, suc, ◌+◌, ◌^◌, ◌<◌}
use native.Mathlib.Numerals.{add-one}
use native.Mathlib.Decide.{dec_lt}
use native.Mathlib.Omega.{arith}
use Rattle.std.specs.List.{list_all}
use Rattle.std.proofs.lemmas.List.Folds.{list_all_at}
use borrow.Author.Rules.{sfits_of}
use lib.Dec.{ltb, lit<}
use lib.IntN.{ℤ, pos}
use lib.ListN.{length, get_or, get_or-eq_default}
use lib.Signed.{mag}
use mir.Syntax.{w32}
use mir.Val.{SFits, hbits, to_z, of_z, bool_byte}
use mir.Facts.{to_z-of_z}
use Rattle.arithmetic.specs.Lists.{joined}
use Rattle.constellation.specs.Ranges.{max_gain}
use Rattle.frame.specs.declared.Refusal.TheVariants.{Weight, Gain, Sample}
use Rattle.frame.specs.Verdicts.{Passed, Failed}
use Rattle.demapper.specs.Soft.{max_weight}
use Rattle.frame.specs.Checks.{outside, verdict_of}
use Rattle.frame.specs.FrameCall.{sample_outside, symbol_checks}
use Rattle.frame_checks.specs.OutsideCount.{one_if, outside_count}
use Rattle.frame.proofs.Checks.{verdict_nil, accepted_append}

pub symbol_verdict : (gains weights : List ℕ) (y_i y_q : List ℤ) (n : ℕ) (g w y : Bool) → ltb max_gain (get_or gains n 0) ≡ g
    → outside 1 max_weight (get_or weights n 1) ≡ w
    → sample_outside (get_or y_i n (pos 0)) || sample_outside (get_or y_q n (pos 0)) ≡ y
    → verdict_of (symbol_checks gains weights y_i y_q n) ≡ cond g (Failed Gain n) (cond w (Failed Weight n) (cond y (Failed Sample n) Passed))
unfolding symbol_checks verdict_of
symbol_verdict gains weights y_i y_q n g w y gain weight sample = rw (gain, weight, sample)

-- what is told of a sample as the machine holds it
pub sample_told : (y : ℤ) {r : Bool} → mag y < 2 ^ hbits w32 → r ≡ sample_outside (to_z w32 (of_z w32 y)) → sample_outside y ≡ r
sample_told y fits e = let s : SFits w32 y = sfits_of fits in cc (to_z-of_z s)

-- ---- counting what is outside

-- where each weight is in its range, so is that of each symbol
pub weight_inside : (weights : List ℕ) → list_all (λ w. not (outside 1 max_weight w)) weights ≡ true → (n : ℕ) → outside 1 max_weight (get_or weights n 1) ≡ false
weight_inside weights all n = go (dec_lt n (length weights)) (outside 1 max_weight (get_or weights n 1)) refl
  where
    go : Dec (n < length weights) → (b : Bool) → outside 1 max_weight (get_or weights n 1) ≡ b → outside 1 max_weight (get_or weights n 1) ≡ false
    go d false e = e
    go (yes l) true e = absurd (true≢false (sym all ∙ list_all_at (λ w. not (outside 1 max_weight w)) weights n 1 l (rw e)))
    go (no l) true e = rw (get_or-eq_default weights 1 {n = n} (omega arith)) refl

-- where nothing is outside, the checks of the symbols are kept
pub none_outside : (gains weights : List ℕ) (y_i y_q : List ℤ) (n : ℕ) → ((j : ℕ) → outside 1 max_weight (get_or weights j 1) ≡ false)
    → outside_count gains y_i y_q n ≡ 0 → verdict_of (joined (symbol_checks gains weights y_i y_q) n) ≡ Passed
unfolding outside_count joined
none_outside gains weights y_i y_q zero inside none = verdict_nil
none_outside gains weights y_i y_q (suc n) inside none =
    (accepted_append _ _).1
    (none_outside gains weights y_i y_q n inside (omega arith), one (ltb max_gain (get_or gains n 0)) (sample_outside (get_or y_i n (pos 0))) (sample_outside (get_or y_q n (pos 0))) refl refl refl (omega arith))
  where
    one : (g i q : Bool) → ltb max_gain (get_or gains n 0) ≡ g → sample_outside (get_or y_i n (pos 0)) ≡ i → sample_outside (get_or y_q n (pos 0)) ≡ q
        → one_if g + one_if i + one_if q ≡ 0 → verdict_of (symbol_checks gains weights y_i y_q n) ≡ Passed
    one true i q gain a b e = absurd (omega arith)
    one false true q gain a b e = absurd (omega arith)
    one false false true gain a b e = absurd (omega arith)
    one false false false gain a b e = symbol_verdict gains weights y_i y_q n false false false gain (inside n) (rw (a, b))

-- the count as the code makes it
pub flag_small : (b : Bool) → bool_byte b < 2
flag_small true = lit< tt
flag_small false = lit< tt

flag_is : (b : Bool) → bool_byte b ≡ one_if b
flag_is true = refl
flag_is false = refl

pub one_counted : (gains : List ℕ) (y_i y_q : List ℤ) (n : ℕ) {found : ℕ} {g i q : Bool} → found ≡ outside_count gains y_i y_q n
    → ltb max_gain (get_or gains n 0) ≡ g → sample_outside (get_or y_i n (pos 0)) ≡ i → sample_outside (get_or y_q n (pos 0)) ≡ q
    → found + (bool_byte g + bool_byte i + bool_byte q) ≡ outside_count gains y_i y_q (n + 1)
unfolding outside_count
one_counted gains y_i y_q n {g = g} {i = i} {q = q} before gain a b = rw (add-one, before, gain, a, b, flag_is g, flag_is i, flag_is q)
