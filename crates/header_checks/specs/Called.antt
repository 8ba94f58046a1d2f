-- What a header or a message that passes its checks calls for, and what its checks hand back: that, or the fault of the first that fails. Assumes nothing.
use Rattle.std.specs.Prelude.{false, ℕ, Result, Ok, Err}
use Rattle.constellation.specs.Schemes.{bits_per_symbol}
use Rattle.frame.specs.declared.Fault.{Fault}
use Rattle.frame.specs.declared.Header.{Header}
use Rattle.frame.specs.Frame.{is_weighted, plain_kind, modulation_of, symbols_for}
use Rattle.frame.specs.Verdicts.{Verdict, Passed}
use Rattle.header_checks.specs.declared.Setup.{Setup}

-- of a plain kind
abbrev pub setup_for : ℕ → ℕ → ℕ → ℕ → Setup
setup_for kind m_i m_q payload =
    record {
      modulation = modulation_of kind m_i m_q;
      symbols = symbols_for (bits_per_symbol (modulation_of kind m_i m_q)) payload;
      weighted = false;
    }

abbrev pub header_setup : Header → Setup
header_setup h = let plain = setup_for (plain_kind h.kind) h.bits_i h.bits_q h.payload in
    record { modulation = plain.modulation; symbols = plain.symbols; weighted = is_weighted h.kind }

unfoldable pub checked : {A : Type 0} → Verdict → A → Result A Fault
checked Passed x = Ok x
checked (Err fault) x = Err fault
