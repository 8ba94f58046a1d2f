-- The number that stands for an answer in C (REQUIREMENTS, "Lines" and "Refusals": the refusal plus 256 times the symbol's number, 0 for none).
-- Assumes nothing.
use Rattle.std.specs.Prelude.{◌≡◌, ℕ, ◌+◌, ◌*◌, ◌%◌, ◌^◌, Result, Ok, Err}
use Rattle.frame.specs.declared.Fault.{Fault}
use Rattle.frame.specs.declared.Refusal.{Refusal}
use Rattle.frame.specs.declared.Served.{Served}
use Rattle.frame.specs.Refusals.{refusal_number}
use Rattle.frame.specs.Answers.{frame_status, frame_symbol, frame_probes, map_status, map_symbol}
use Rattle.capture.specs.declared.CaptureFault.{CaptureFault}
use Rattle.capture.specs.Answers.{conversion_status, conversion_sample}

-- the frame call: a refusal with its symbol, or 0 with the number of probes in the upper 32 bits
unfoldable pub frame_number : Result Served Fault → ℕ
unfolding frame_status frame_symbol frame_probes
frame_number answer = frame_status answer + 256 * frame_symbol answer + frame_probes answer * 2 ^ 32

-- the mapping call: a refusal, whose symbol's number is 0, or 0
unfoldable pub map_number : Result ℕ Refusal → ℕ
unfolding map_status map_symbol
map_number answer = map_status answer + 256 * map_symbol answer

-- an answer of which C has no other number: 0, or that of the fault that the error becomes, its refusal plus 256 times the symbol's number
abbrev pub IsAnswerNumber : {T E : Type 0} → (E → Fault → Type 0) → Result T E → ℕ → Type 0
IsAnswerNumber becomes (Ok value) number = number ≡ 0
IsAnswerNumber becomes (Err error) number = (fault : Fault) × becomes error fault × (number ≡ refusal_number fault.refusal + 256 * fault.symbol)

-- converting a capture: a refusal with the sample's number, of which 64 bits hold the lower 56, or 0
unfoldable pub capture_number : Result ℕ CaptureFault → ℕ
capture_number answer = conversion_status answer + 256 * (conversion_sample answer % 2 ^ 56)
