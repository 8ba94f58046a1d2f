-- `check_capture` meets its contract: scale, kind, the length and the buffers are tested in this order, and then the samples decide.
-- Assumes nothing.
use mathlib.Core.Path.{◌≡◌, refl, sym, ap, ◌∙◌}
use mathlib.Core.Bool.{Bool, true, false, cond, not, ◌||◌}
use mathlib.Core.List.{List}
use Prim.Native.Nat.{ℕ, ◌*◌, ◌-◌, ◌/◌, ◌%◌, ◌≤◌}
use borrow.Author.Rules.{rules}
use borrow.Author.Tests.{lt-ltb, le-ltb, eq-eqb, ne_eqb}
use lib.Dec.{ltb}
use lib.ListN.{length}
use lib.Ieee.{Float}
use native.Mathlib.Omega.{arith}
use Rattle.std.specs.Prelude.{Result, Ok, Err, MatchResult, IsOkAnd}
use Rattle.frame.specs.declared.Refusal.TheVariants.{OutputTooShort}
use Rattle.capture.specs.Answers.{fault_at}
use Rattle.frame.specs.Checks.{max_kind}
use Rattle.binary32.specs.Conversion.{max_scale}
use Rattle.capture.specs.Capture.{numbers_per_sample, capture_answer}
use Rattle.capture.specs.Converting.{samples_answer}
use Rattle.capture.proofs.CaptureChecks.{plain_recording, decided}
use Rattle.capture.specs.declared.CaptureFault.{CaptureFault}
use Rattle.capture_checks.specs.declared.Layout.{Layout}
use Rattle.capture_checks.specs.declared.Checked.{Checked}
use Rattle.capture_checks.specs.Layouts.{layout_of, numbers_in, with_layout}
use Rattle.capture_checks.proofs.Layouts.{numbers_by_kind}
use Rattle.capture_checks.proofs.check_capture.Goals as goal
use Rattle.capture_checks.proofs.check_capture.Goals.{then-roomi-count, else-roomi-count}

-- what is answered with the layout, from what the checks answer
refused : (kind : ℕ) {answer : Result ℕ CaptureFault} {fault : CaptureFault} → answer ≡ Err fault → Err fault ≡ with_layout kind answer
unfolding with_layout
refused kind e = rw e

counted : (kind : ℕ) (answer : Result ℕ CaptureFault) {layout : Layout} {found : Result Checked CaptureFault} (P : ℕ → Checked → Type 0)
    → layout ≡ layout_of kind → ((n : ℕ) (x : Checked) → P n x → x ≡ record { samples = n; layout = layout })
    → MatchResult answer (λ n. IsOkAnd found (P n)) (λ fault. found ≡ Err fault) → found ≡ with_layout kind answer
unfolding with_layout
counted kind (Err fault) P is gives e = e
counted kind (Ok n) {found = Ok x} P is gives e = ap Ok (rw is at (gives n x e))
counted kind (Ok n) {found = Err fault} P is gives e = elim e [ ]

laid : {kind plain : ℕ} {layout : Layout} → layout ≡ layout_of kind → kind ≡ plain → layout ≡ layout_of plain
laid is e = is ∙ ap layout_of e

each_is : (kind : ℕ) {each : ℕ} {layout : Layout} → each ≡ numbers_in layout → layout ≡ layout_of kind → each ≡ numbers_per_sample kind
each_is kind e is = e ∙ ap numbers_in is ∙ numbers_by_kind kind

pub returns-then-capture-gt-MAX_SCALE : goal.returns-then-capture-gt-MAX_SCALE
returns-then-capture-gt-MAX_SCALE c =
    rw c.into.ensures (refused _ (decided _ _ c.args.capture.numbers.now _ _ _ true _ _ _ refl (lt-ltb _ _ (omega arith)) refl refl refl))

pub returns-then-kind-gt-MAX_KIND : goal.returns-then-kind-gt-MAX_KIND
returns-then-kind-gt-MAX_KIND c =
    rw c.into-then-kind-gt-MAX_KIND.ensures
    (refused _ (decided _ _ c.args.capture.numbers.now _ _ _ false true _ _ refl (le-ltb _ _ (omega arith)) (lt-ltb _ _ (omega arith)) refl refl))

pub returns-then-capture-each-ne0 : goal.returns-then-capture-each-ne0
returns-then-capture-each-ne0 c =
    rw c.into-then-capture-each-ne0.ensures
    (refused _ (decided _ _ c.args.capture.numbers.now _ _ _ false false true _ (each_is _ c.numbers_per_sample-each.ensures (laid c.from-layout.ensures c.plain_kind-kind.ensures))
    (le-ltb _ _ (omega arith)) (le-ltb _ _ (omega arith)) (ap not (ne_eqb _ _ c.if-capture-each-ne0.true)) refl))

-- the tests of the two buffers come last
last_check : (kind F : ℕ) (xs : List Float) (roomi roomq each : ℕ) (o : Bool) → each ≡ numbers_per_sample kind → F ≤ max_scale → kind ≤ max_kind
    → length xs % each ≡ 0 → ltb roomi (length xs / each) || ltb roomq (length xs / each * (each - 1)) ≡ o
    → capture_answer (plain_recording kind F xs) roomi roomq ≡ cond o (Err (fault_at OutputTooShort 0)) (samples_answer (plain_recording kind F xs))
last_check kind F xs roomi roomq each o e scale known whole last =
    decided kind F xs roomi roomq each false false false o e (le-ltb _ _ scale) (le-ltb _ _ known) (ap not (eq-eqb _ _ whole)) last

first_short : {a flag : Bool} (b : Bool) → a ≡ true → flag ≡ a → a || b ≡ flag
first_short b e h = rw (h, e)

then_second : {a flag : Bool} (b : Bool) → a ≡ false → flag ≡ b → a || b ≡ flag
then_second b e h = rw (h, e)

pub returns-then-roomq-count : goal.returns-then-roomq-count
returns-then-roomq-count c =
    let too_short : ltb c.args.roomi (length c.args.capture.numbers.now / c.numbers_per_sample-each.result)
    || ltb c.args.roomq (length c.args.capture.numbers.now / c.numbers_per_sample-each.result * (c.numbers_per_sample-each.result - 1)) ≡ c.if-roomi-count.value =
    elim c.if-roomi-count.branch [
      | then-roomi-count w ↦ first_short _ (lt-ltb _ _ w.if-roomi-count.true) w.value-is
      | else-roomi-count w ↦ then_second _ (le-ltb _ _ w.if-roomi-count.false) w.value-is
    ] in
    let each = each_is _ c.numbers_per_sample-each.ensures (laid c.from-layout.ensures c.plain_kind-kind.ensures) in
    rw c.into-then-roomq-count.ensures
    (refused _ (last_check _ _ c.args.capture.numbers.now _ _ _ true each (omega arith) (omega arith) (omega arith) (too_short ∙ c.if-roomq-count.true)))

pub returns-else-roomq-count : goal.returns-else-roomq-count
returns-else-roomq-count c =
    let too_short : ltb c.args.roomi (length c.args.capture.numbers.now / c.numbers_per_sample-each.result)
    || ltb c.args.roomq (length c.args.capture.numbers.now / c.numbers_per_sample-each.result * (c.numbers_per_sample-each.result - 1)) ≡ c.if-roomi-count.value =
    elim c.if-roomi-count.branch [
      | then-roomi-count w ↦ first_short _ (lt-ltb _ _ w.if-roomi-count.true) w.value-is
      | else-roomi-count w ↦ then_second _ (le-ltb _ _ w.if-roomi-count.false) w.value-is
    ] in
    let each = each_is _ c.numbers_per_sample-each.ensures (laid c.from-layout.ensures c.plain_kind-kind.ensures) in
    counted _ _ _ (laid c.from-layout.ensures c.plain_kind-kind.ensures) (λ n x h. search rules) c.map.ensures.cases
    ∙ ap (with_layout _)
    (c.check_samples.ensures
    ∙ sym (last_check _ _ c.args.capture.numbers.now _ _ _ false each (omega arith) (omega arith) (omega arith) (too_short ∙ c.if-roomq-count.false)))
