-- `map_verdict` meets its contract: the checks that frames have too come first, and then three tests decide. Assumes nothing.
use Rattle.std.proofs.lemmas.Result.{err_from_is_err_and}
use Rattle.std.specs.Prelude.{◌↔◌, IsErrAnd, Option, Some, None, IsSome, IfSome, Result, Ok, Err}
use Rattle.std.specs.Option.{ok_or}
use mathlib.Core.Path.{◌≡◌, refl, sym, ap, ◌∙◌}
use mathlib.Core.Bool.{Bool, true, false, cond, not, ◌||◌, or-true, not-eq-not, true≢false}
use mathlib.Core.List.{List, [], ◌∷◌}
use Prim.Native.Nat.{ℕ, zero, suc, ◌≤◌, ◌<◌}
use native.Mathlib.Numerals.{add-one}
use native.Mathlib.Omega.{arith}
use borrow.Author.Tests.{lt-ltb, le-ltb}
use lib.Dec.{ltb}
use lib.ListN.{length, get_or, take}
use lib.Seq.{take-length}
use Rattle.std.specs.List.{list_all}
use Rattle.std.proofs.lemmas.List.Folds.{list_all_more}
use Rattle.arithmetic.specs.Tests.{all_below}
use Rattle.constellation.specs.Ranges.{max_gain}
use Rattle.constellation.specs.declared.Bits.{Bits}
use Rattle.frame.specs.declared.Fault.{Fault}
use Rattle.frame.specs.declared.Refusal.{Refusal}
use Rattle.frame.specs.declared.Refusal.TheVariants.{Gain, BitByte, OutputTooShort}
use Rattle.frame.specs.Verdicts.{Passed, Failed}
use Rattle.frame.specs.declared.Limits.{Limits}
use Rattle.frame.specs.Limits.{full_limits}
use Rattle.frame.specs.Checks.{check, verdict_of, modulation_checks}
use Rattle.constellation.specs.Schemes.{quadrature_length}
use Rattle.frame.specs.Mapping.{Message, message_of, message_modulation, message_symbols, map_checks}
use Rattle.frame.proofs.Checks.{verdict_append, verdict_front}
use Rattle.frame.proofs.Writing.{length-mapped_i, length-mapped_q}
use Rattle.header_checks.specs.declared.Setup.{Setup}
use Rattle.header_checks.specs.Called.{checked, setup_for}
use Rattle.header_checks.proofs.Called.{is_passed, is_refused}
use Rattle.map_checks.specs.declared.message.CheckedMessage.{CheckedMessage}
use Rattle.map_checks.specs.Checked.{Judged}
use Rattle.map_checks.proofs.map_verdict.Goals as goal
use Rattle.map_checks.proofs.map_verdict.Goals.{then-roomi-setup-via-then-roomi-setup, then-roomi-setup-via-else-roomi-setup+then-roomq-quadrature_length}

-- the test of each byte of a list, and of each place in it
tested_below : (p : ℕ → Bool) (xs : List ℕ) (n : ℕ) → n ≤ length xs → list_all p (take n xs) ≡ all_below n (λ i. p (get_or xs i 0))
unfolding all_below
tested_below p xs zero h = refl
tested_below p xs (suc n) h = rw (← add-one, list_all_more p xs n 0 h, tested_below p xs n (omega arith))

tested_each : (p : ℕ → Bool) (xs : List ℕ) → list_all p xs ≡ all_below (length xs) (λ i. p (get_or xs i 0))
tested_each p xs = rw take-length at (tested_below p xs (length xs) (omega arith))

-- a `?` hands on what is refused
handed_out : (m : Message) (room_i room_q : ℕ) {fault : Fault} (r : Result CheckedMessage Fault) → IsErrAnd r (λ e. e ≡ fault)
    → verdict_of (map_checks full_limits m room_i room_q) ≡ Err fault → Judged m room_i room_q r
handed_out m room_i room_q r h e = let handed = err_from_is_err_and r h in rw (handed.1, handed.2) e

-- the checks that frames have too are passed
abbrev Shared : Message → Type 0
Shared m = verdict_of (modulation_checks full_limits m.kind m.bits_i m.bits_q (length m.bits)) ≡ Passed

-- then the gain, the bits and the buffers decide
module _ (m : Message) (room_i room_q : ℕ) where
  abbrev bad_bit : Bool
  bad_bit = not (all_below (length m.bits) (λ i. ltb (get_or m.bits i 0) 2))

  abbrev short : Bool
  short = ltb room_i (message_symbols m) || ltb room_q (quadrature_length (message_modulation m) (message_symbols m))

  own_checks : Shared m
      → verdict_of (map_checks full_limits m room_i room_q)
      ≡ verdict_of (check (ltb max_gain m.gain) Gain ∷ check bad_bit BitByte ∷ check short OutputTooShort ∷ [])
  unfolding map_checks
  own_checks e = rw (length-mapped_i, length-mapped_q) (verdict_append _ _ e)

  decided : Shared m → (g b s : Bool) → ltb max_gain m.gain ≡ g → bad_bit ≡ b → short ≡ s
      → verdict_of (map_checks full_limits m room_i room_q) ≡ cond g (Failed Gain 0) (cond b (Failed BitByte 0) (cond s (Failed OutputTooShort 0) Passed))
  unfolding verdict_of
  decided e g b s hg hb hs = own_checks e ∙ rw (hg, hb, hs)

  -- the setup that the code makes is the message's
  shared : {limits : Limits} {s : Setup} → limits ≡ full_limits
      → Ok s ≡ checked (verdict_of (modulation_checks limits m.kind m.bits_i m.bits_q (length m.bits))) (setup_for m.kind m.bits_i m.bits_q (length m.bits))
      → Shared m × (s ≡ setup_for m.kind m.bits_i m.bits_q (length m.bits))
  shared e h = is_passed _ (rw e at h)

  -- the buffers, by the modulation and the symbols that the code makes
  module _ {s : Setup} (is : s ≡ setup_for m.kind m.bits_i m.bits_q (length m.bits)) where
    symbols_are : s.symbols ≡ message_symbols m
    unfolding message_symbols
    symbols_are = ap (λ (s : Setup). s.symbols) is

    first_short : room_i < s.symbols → short ≡ true
    first_short h = rw (← symbols_are, lt-ltb _ _ h) refl

    second_are : {q : ℕ} → q ≡ quadrature_length s.modulation s.symbols → q ≡ quadrature_length (message_modulation m) (message_symbols m)
    second_are second = second ∙ rw (symbols_are, ap (λ (s : Setup). s.modulation) is)

    second_short : {q : ℕ} → q ≡ quadrature_length s.modulation s.symbols → room_q < q → short ≡ true
    second_short second h = rw (← second_are second, lt-ltb _ _ h, or-true) refl

    both_long : {q : ℕ} → q ≡ quadrature_length s.modulation s.symbols → s.symbols ≤ room_i → q ≤ room_q → short ≡ false
    both_long second i j = rw (← second_are second, ← symbols_are, le-ltb _ _ i, le-ltb _ _ j) refl

-- the bits, as they are tested
bits_refused : (m : Message) (found : Option Bits) {r e : Refusal} → (IsSome found ↔ (list_all (λ bit. ltb bit 2) m.bits ≡ true)) → Err e ≡ ok_or found r
    → (all_below (length m.bits) (λ i. ltb (get_or m.bits i 0) 2) ≡ false) × (e ≡ r)
bits_refused m None some h = (rw tested_each at ((not-eq-not {b = false}).0 (λ all. absurd (true≢false (sym (some.1 all))))), cc)
bits_refused m (Some b) some h = absurd cc

bits_passed : (m : Message) (found : Option Bits) (r : Refusal) {b : Bits} → (IsSome found ↔ (list_all (λ bit. ltb bit 2) m.bits ≡ true))
    → IfSome found (λ list. list.bytes.now ≡ m.bits) → Ok b ≡ ok_or found r
    → (all_below (length m.bits) (λ i. ltb (get_or m.bits i 0) 2) ≡ true) × (b.bytes.now ≡ m.bits)
bits_passed m None r some same h = absurd cc
bits_passed m (Some list) r {b} some same h = (rw tested_each at (some.0 refl), let own : ◌≡◌ {A = Bits} list b = cc in rw own at same)

pub returns : goal.returns
returns c =
    let m = message_of c.args.message in
    let (front, is) = shared m c.args.roomi c.args.roomq c.full_limits.ensures c.in_ok-setup.ensures in
    let (good, own) = bits_passed m c.new.result BitByte c.new.ensures.bits c.new.ensures.list c.in_ok-bits.ensures.value in (
      decided m _ _ front false false false (le-ltb _ _ c.if-gain-gt-MAX_GAIN.false) (rw good refl)
          (both_long m _ _ is c.quadrature_length.ensures c.if-roomi-setup.false c.if-roomq-quadrature_length.false),
      record { setup = is; gain = refl; bits = own },
    )

pub returns-in_err-setup : goal.returns-in_err-setup
unfolding map_checks
returns-in_err-setup c =
    let m = message_of c.args.message in
    handed_out m _ _ c.from_residual.result c.from_residual.ensures.1 (verdict_front _ _ (sym (is_refused _ _ (rw c.full_limits.ensures at c.in_err-setup.ensures))))

pub returns-then-gain-gt-MAX_GAIN : goal.returns-then-gain-gt-MAX_GAIN
returns-then-gain-gt-MAX_GAIN c =
    let m = message_of c.args.message in
    let (front, is) = shared m c.args.roomi c.args.roomq c.full_limits.ensures c.in_ok-setup.ensures in
    decided m _ _ front true _ _ (lt-ltb _ _ c.if-gain-gt-MAX_GAIN.true) refl refl ∙ sym (ap Err c.into.ensures)

pub returns-in_err-bits : goal.returns-in_err-bits
returns-in_err-bits c =
    let m = message_of c.args.message in
    let (front, is) = shared m c.args.roomi c.args.roomq c.full_limits.ensures c.in_ok-setup.ensures in
    let (bad, same) = bits_refused m c.new.result c.new.ensures.bits c.in_err-bits.ensures.value in
    handed_out m _ _ c.from_residual-in_err-bits.result c.from_residual-in_err-bits.ensures.1
    (decided m _ _ front false true _ (le-ltb _ _ c.if-gain-gt-MAX_GAIN.false) (rw bad refl) refl ∙ rw same refl)

pub returns-then-roomi-setup : goal.returns-then-roomi-setup
returns-then-roomi-setup c =
    let m = message_of c.args.message in
    let (front, is) = shared m c.args.roomi c.args.roomq c.full_limits.ensures c.in_ok-setup.ensures in
    let (good, _) = bits_passed m c.new.result BitByte c.new.ensures.bits c.new.ensures.list c.in_ok-bits.ensures.value in
    let tested : short m c.args.roomi c.args.roomq ≡ true =
    elim c.then-roomi-setup.branch [
      | then-roomi-setup-via-then-roomi-setup w ↦ first_short m _ _ is w.if-roomi-setup.true
      | then-roomi-setup-via-else-roomi-setup+then-roomq-quadrature_length w ↦ second_short m _ _ is w.quadrature_length.ensures w.if-roomq-quadrature_length.true
    ] in
    decided m _ _ front false false true (le-ltb _ _ c.if-gain-gt-MAX_GAIN.false) (rw good refl) tested ∙ sym (ap Err c.into-then-roomi-setup.ensures)
