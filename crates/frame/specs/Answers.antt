-- What each case of an answer stands for (REQUIREMENTS, "Frames" and "Refusals"): the status, which is the refusal's number, or 0 for none; the
-- symbol's number; and the count. What the calls promise is stated by these (specs/Promise). Assumes nothing.
use Rattle.std.specs.Prelude.{ℕ, Result, Ok, Err}
use Rattle.frame.specs.declared.Fault.{Fault}
use Rattle.frame.specs.declared.Refusal.{Refusal}
use Rattle.frame.specs.declared.Served.{Served}
use Rattle.frame.specs.Refusals.{refusal_number}

-- ---- the frame call

unfoldable pub frame_status : Result Served Fault → ℕ
frame_status (Err fault) = refusal_number fault.refusal
frame_status (Ok served) = 0

unfoldable pub frame_symbol : Result Served Fault → ℕ
frame_symbol (Err fault) = fault.symbol
frame_symbol (Ok served) = 0

-- the number of probes
unfoldable pub frame_probes : Result Served Fault → ℕ
frame_probes (Err fault) = 0
frame_probes (Ok served) = served.probes

-- ---- the mapping call

unfoldable pub map_status : Result ℕ Refusal → ℕ
map_status (Err r) = refusal_number r
map_status (Ok symbols) = 0

-- always 0
unfoldable pub map_symbol : Result ℕ Refusal → ℕ
map_symbol answer = 0

-- the number of symbols
unfoldable pub map_symbols : Result ℕ Refusal → ℕ
map_symbols (Err r) = 0
map_symbols (Ok symbols) = symbols
