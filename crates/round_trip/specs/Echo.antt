-- What mapping a message and reading it back promises. Assumes nothing.
use Rattle.std.specs.Prelude.{◌≡◌, ◌≢◌, List, [], ◌∷◌, ◌++◌, ℕ, ◌*◌, ◌<◌, ltb, length, Result, Ok, Err}
use Rattle.arithmetic.specs.Lists.{over}
use Rattle.frame.specs.declared.Refusal.TheVariants.{OutputTooShort}
use Rattle.frame.specs.declared.Fault.{Fault}
use Rattle.frame.specs.declared.Served.{Served}
use Rattle.frame.specs.Verdicts.{Verdict, Passed}
use Rattle.frame.specs.Answers.{frame_status}
use Rattle.frame.specs.Limits.{full_limits}
use Rattle.frame.specs.Frame.{hard_bits}
use Rattle.frame.specs.Checks.{check, verdict_of}
use Rattle.constellation.specs.Schemes.{probes_per_symbol}
use Rattle.frame.specs.Mapping.{Message, map_checks, message_modulation, message_symbols, read_back}

-- the order of checks: those of mapping, with room for the longest frame, and then 15 where the buffer is shorter than the message
unfoldable pub echo_verdict : Message → ℕ → Verdict
echo_verdict m room = verdict_of (map_checks full_limits m full_limits.symbols full_limits.symbols ++ (check (ltb room (length m.bits)) OutputTooShort ∷ []))

-- the answer: the refusal, with 0 for the symbol's number, or the number of probes
unfoldable pub echo_answer : Verdict → Message → Result Served Fault
echo_answer Passed m = Ok (record { probes = message_symbols m * probes_per_symbol (message_modulation m) })
echo_answer (Err fault) m = Err (record { refusal = fault.refusal; symbol = 0 })

-- mapping the message m and reading it back into a buffer, at weight 1, shift 0 and limit 1
pub record EchoPromise (m : Message) (lent out : List ℕ) (answer : Result Served Fault) : Type 0 where
  pub answered : answer ≡ echo_answer (echo_verdict m (length lent)) m
  pub refused_keeps : frame_status answer ≢ 0 → out ≡ lent
  -- the hard bits of the mapped message, at every gain
  pub served_writes : frame_status answer ≡ 0 → out ≡ over lent 0 (hard_bits (read_back m 1 0 1))
  -- demand 2: at any gain but 0 they are the message's bits
  pub served_returns : frame_status answer ≡ 0 → 0 < m.gain → out ≡ over lent 0 m.bits
