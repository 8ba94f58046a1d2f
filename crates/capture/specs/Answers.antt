-- What each case of the answer for a whole buffer stands for: the status, which is the requirements' number, or 0 for none; the number of the sample refused,
-- which is no symbol's number (docs/DECISIONS.md); and how many were converted.
-- Assumes nothing.
use Rattle.std.specs.Prelude.{ℕ, Result, Ok, Err}
use Rattle.frame.specs.declared.Refusal.{Refusal}
use Rattle.frame.specs.Refusals.{refusal_number}
use Rattle.capture.specs.declared.CaptureFault.{CaptureFault}

-- a refusal of sample n
abbrev pub fault_at : Refusal → ℕ → CaptureFault
fault_at r n = record { refusal = r; sample = n }

unfoldable pub conversion_status : Result ℕ CaptureFault → ℕ
conversion_status (Err fault) = refusal_number fault.refusal
conversion_status (Ok count) = 0

unfoldable pub conversion_sample : Result ℕ CaptureFault → ℕ
conversion_sample (Err fault) = fault.sample
conversion_sample (Ok count) = 0

unfoldable pub conversion_count : Result ℕ CaptureFault → ℕ
conversion_count (Err fault) = 0
conversion_count (Ok count) = count
