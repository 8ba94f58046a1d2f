-- What the checks of a message hand back: the message as it is mapped, or the fault of the first that fails. Assumes nothing.
use Rattle.std.specs.Prelude.{◌≡◌, ℕ, length, Result, Err, MatchResult}
use Rattle.frame.specs.declared.Fault.{Fault}
use Rattle.frame.specs.Verdicts.{Passed}
use Rattle.frame.specs.Limits.{full_limits}
use Rattle.frame.specs.Checks.{verdict_of}
use Rattle.frame.specs.Mapping.{Message, map_checks}
use Rattle.header_checks.specs.Called.{setup_for}
use Rattle.map_checks.specs.declared.message.CheckedMessage.{CheckedMessage}

-- the message m, with what its numbers call for
pub record IsMessage (m : Message) (checked : CheckedMessage) : Type 0 where
  pub setup : checked.setup ≡ setup_for m.kind m.bits_i m.bits_q (length m.bits)
  pub gain : checked.gain ≡ m.gain
  pub bits : checked.bits.bytes.now ≡ m.bits

abbrev pub Judged : Message → ℕ → ℕ → Result CheckedMessage Fault → Type 0
Judged m room_i room_q result =
    MatchResult result
    (λ checked. (verdict_of (map_checks full_limits m room_i room_q) ≡ Passed) × IsMessage m checked)
    (λ fault. verdict_of (map_checks full_limits m room_i room_q) ≡ Err fault)
