-- How the numbers of a capture stand, by its kind number, and what its checks answer. Assumes nothing.
use Rattle.std.specs.Prelude.{ℕ, zero, suc, Result, Ok, Err}
use Rattle.capture.specs.declared.CaptureFault.{CaptureFault}
use Rattle.capture_checks.specs.declared.Layout.{Layout}
use Rattle.capture_checks.specs.declared.Layout.TheVariants.{Singles, Pairs}
use Rattle.capture_checks.specs.declared.Checked.{Checked}

-- one number a sample for PAM, and two for every other kind, as `numbers_per_sample` of capture/specs/Capture says of the kind number
unfoldable pub layout_of : ℕ → Layout
layout_of zero = Singles
layout_of (suc k) = Pairs

unfoldable pub numbers_in : Layout → ℕ
numbers_in Singles = 1
numbers_in Pairs = 2

-- the number of samples of an answer, with the layout beside it
unfoldable pub with_layout : ℕ → Result ℕ CaptureFault → Result Checked CaptureFault
with_layout kind (Ok samples) = Ok (record { samples = samples; layout = layout_of kind })
with_layout kind (Err fault) = Err fault
