-- What a header calls for (REQUIREMENTS, "Frames", "Probes" and "Lines"): symbols, quadrature samples, probes, and the characters of its line and of the
-- answer to it; or its refusal, 4 to 9 or 18. Assumes nothing.
use Rattle.std.specs.Prelude.{List, [], ◌∷◌, ℕ, ◌+◌, ◌*◌, Result, Ok, Err}
use Rattle.constellation.specs.Schemes.{probes_per_symbol, quadrature_length}
use Rattle.frame.specs.declared.Header.{Header}
use Rattle.frame.specs.declared.Limits.{Limits}
use Rattle.frame.specs.declared.Refusal.{Refusal}
use Rattle.frame.specs.Verdicts.{Verdict, Passed}
use Rattle.frame.specs.Refusals.{refusal_number}
use Rattle.frame.specs.Frame.{header_modulation, header_symbols}
use Rattle.frame.specs.Checks.{verdict_of}
use Rattle.frame.specs.FrameCall.{header_checks}
use Rattle.line_text.specs.Line.{line_length}
use Rattle.line_text.specs.Answer.{softs_at}
use Rattle.sizes.specs.declared.Sizes.{Sizes}

unfoldable pub header_probes : Header → ℕ
header_probes h = header_symbols h * probes_per_symbol (header_modulation h)

-- the characters of the answer: status and probe count, and each soft value of the payload
unfoldable pub answer_length : Limits → Header → ℕ
answer_length limits h = softs_at + h.payload * limits.digits

unfoldable pub sized : Limits → Header → Sizes
sized limits h =
    record {
      symbols = header_symbols h;
      quadrature = quadrature_length (header_modulation h) (header_symbols h);
      probes = header_probes h;
      line = line_length h;
      answer = answer_length limits h;
    }

unfoldable pub sizes_for : Verdict → Limits → Header → Result Sizes Refusal
sizes_for Passed limits h = Ok (sized limits h)
sizes_for (Err fault) limits h = Err fault.refusal

unfoldable pub sizes_answer : Limits → Header → Result Sizes Refusal
sizes_answer limits h = sizes_for (verdict_of (header_checks limits h)) limits h

-- what each case of an answer stands for: the status, which is the refusal's number, or 0 for none; and the sizes
unfoldable pub sizes_status : Result Sizes Refusal → ℕ
sizes_status (Err r) = refusal_number r
sizes_status (Ok sizes) = 0

unfoldable pub sizes_values : Result Sizes Refusal → List ℕ
sizes_values (Err r) = []
sizes_values (Ok sizes) = sizes.symbols ∷ sizes.quadrature ∷ sizes.probes ∷ sizes.line ∷ sizes.answer ∷ []
