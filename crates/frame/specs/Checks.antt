-- The order of checks (REQUIREMENTS, "Refusals"): a list of checks, the first of which that fails gives refusal and symbol.
-- The numbers of any input are tested, so each input has its verdict. Assumes nothing.
use Rattle.std.specs.Prelude.{Bool, cond, not, ◌||◌, List, [], ◌∷◌, ℕ, zero, suc, ltb, eqb}
use Rattle.constellation.specs.Ranges.{max_axis_bits, max_phase_bits, max_cellular_bits}
use Rattle.constellation.specs.Schemes.{bits_per_symbol}
use Rattle.frame.specs.declared.Refusal.{Refusal}
use Rattle.frame.specs.declared.Refusal.TheVariants.{Kind, BitsPerSymbol, Payload}
use Rattle.frame.specs.Verdicts.{Verdict, Passed, Failed}
use Rattle.frame.specs.declared.Limits.{Limits}
use Rattle.frame.specs.Frame.{modulation_of, symbols_for}

-- a check: whether the input breaks it, and the refusal and the symbol's number that it then gives
pub record Check : Type 0 where
  pub broken : Bool
  pub refusal : Refusal
  pub symbol : ℕ

-- a check of the whole input, whose symbol's number is 0
abbrev pub check : Bool → Refusal → Check
check b r = record { broken = b; refusal = r; symbol = 0 }

abbrev pub check_at : ℕ → Bool → Refusal → Check
check_at n b r = record { broken = b; refusal = r; symbol = n }

-- the first check that is broken decides
unfoldable pub verdict_of : List Check → Verdict
verdict_of [] = Passed
verdict_of (c ∷ cs) = let rest = verdict_of cs in cond c.broken (Failed c.refusal c.symbol) rest

abbrev pub outside : ℕ → ℕ → ℕ → Bool
outside low high n = ltb n low || ltb high n

-- the kind numbers are 0 to 3
abbrev pub max_kind : ℕ
max_kind = 3

-- 5: by the kind number, a bit count out of its range; PAM and PSK have no m_q, which must be 0, and with cellular labels both axes have as many bits
unfoldable pub bits_outside : ℕ → ℕ → ℕ → Bool
bits_outside zero m_i m_q = outside 1 max_axis_bits m_i || not (eqb m_q 0)
bits_outside (suc zero) m_i m_q = outside 1 max_axis_bits m_i || outside 1 max_axis_bits m_q
bits_outside (suc (suc zero)) m_i m_q = outside 1 max_phase_bits m_i || not (eqb m_q 0)
bits_outside (suc (suc (suc n))) m_i m_q = outside 1 max_cellular_bits m_i || not (eqb m_q m_i)

-- 4, 5 and 6, which frames and mapping share
unfoldable pub modulation_checks : Limits → ℕ → ℕ → ℕ → ℕ → List Check
modulation_checks limits kind m_i m_q payload =
    check (ltb max_kind kind) Kind
    ∷ check (bits_outside kind m_i m_q) BitsPerSymbol
    ∷ check (eqb payload 0 || ltb limits.symbols (symbols_for (bits_per_symbol (modulation_of kind m_i m_q)) payload)) Payload
    ∷ []
