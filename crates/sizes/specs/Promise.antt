-- What the call for sizes promises, for every header. Assumes nothing.
use Rattle.std.specs.Prelude.{◌≡◌, List, [], ◌∷◌, ℕ, length, Result}
use Rattle.constellation.specs.Schemes.{quadrature_length}
use Rattle.frame.specs.declared.Header.{Header}
use Rattle.frame.specs.declared.Limits.{Limits}
use Rattle.frame.specs.declared.Refusal.{Refusal}
use Rattle.frame.specs.Frame.{Frame, modulation, symbol_count, probe_list}
use Rattle.line_text.specs.Answer.{frame_text}
use Rattle.line_text.specs.Printed.{printed_line}
use Rattle.sizes.specs.declared.Sizes.{Sizes}
use Rattle.sizes.specs.Sizes.{sizes_answer, sizes_status, sizes_values}

-- the lengths by which the frame call and the line call judge a frame, and those of what they hand out for it: symbols, quadrature samples, probes, and the
-- characters of its line and of the answer
unfoldable pub lengths_of : Limits → Frame → List ℕ
lengths_of limits f =
    symbol_count f
    ∷ quadrature_length (modulation f) (symbol_count f)
    ∷ length (probe_list f)
    ∷ length (printed_line f)
    ∷ length (frame_text limits f)
    ∷ []

pub record SizesPromise (limits : Limits) (h : Header) (answer : Result Sizes Refusal) : Type 0 where
  -- demand 1: the refusal of the first check of the header that fails, or the sizes
  pub answered : answer ≡ sizes_answer limits h
  -- they are those of every frame with this header
  pub served_fits : sizes_status answer ≡ 0 → (f : Frame) → f.header ≡ h → sizes_values answer ≡ lengths_of limits f
