-- What a layout says of the kind number, and an answer with its layout of the answer of the checks. Assumes nothing.
use mathlib.Core.Path.{◌≡◌, refl}
use mathlib.Core.Logic.{◌≢◌}
use Prim.Native.Nat.{ℕ, zero, suc, ◌<◌}
use native.Mathlib.Omega.{arith}
use Rattle.std.specs.Prelude.{Result, Ok, Err}
use Rattle.capture.specs.declared.CaptureFault.{CaptureFault}
use Rattle.capture.specs.Capture.{numbers_per_sample}
use Rattle.capture_checks.specs.declared.Layout.{Layout}
use Rattle.capture_checks.specs.declared.Layout.TheVariants.{Singles, Pairs}
use Rattle.capture_checks.specs.declared.Checked.{Checked}
use Rattle.capture_checks.specs.Layouts.{layout_of, numbers_in, with_layout}

pub numbers_by_kind : (kind : ℕ) → numbers_in (layout_of kind) ≡ numbers_per_sample kind
unfolding numbers_in layout_of numbers_per_sample
numbers_by_kind zero = refl
numbers_by_kind (suc k) = refl

pub some_in : (layout : Layout) → 0 < numbers_in layout
unfolding numbers_in
some_in Singles = omega arith
some_in Pairs = omega arith

pub singles_kind : (kind : ℕ) → Singles ≡ layout_of kind → kind ≡ 0
unfolding layout_of
singles_kind zero e = refl
singles_kind (suc k) e = cc

pub pairs_kind : (kind : ℕ) → Pairs ≡ layout_of kind → kind ≢ 0
unfolding layout_of
pairs_kind zero e h = cc
pairs_kind (suc k) e h = absurd (omega (arith, h))

pub fault_answered : (kind : ℕ) (answer : Result ℕ CaptureFault) {fault : CaptureFault} → Err fault ≡ with_layout kind answer → Err fault ≡ answer
unfolding with_layout
fault_answered kind (Err f) e = cc
fault_answered kind (Ok n) e = cc

pub found_answered : (kind : ℕ) (answer : Result ℕ CaptureFault) {found : Checked} → Ok found ≡ with_layout kind answer
    → (Ok found.samples ≡ answer) × (found.layout ≡ layout_of kind)
unfolding with_layout
found_answered kind (Err f) e = cc
found_answered kind (Ok n) e = (cc, cc)
