-- What the functions that answer a line need of the limits, and a part of a line's checks. Nobody has to believe this file to read the line call's promise
-- (crate line_call, specs/Promise). Assumes nothing.
use Rattle.std.specs.Prelude.{◌≡◌, ◌⊎◌, List, ◌++◌, ℕ, ◌*◌, ◌^◌, ◌<◌, ◌≤◌}
use Rattle.frame.specs.declared.Limits.{Limits}
use Rattle.frame.specs.Limits.{full_limits}
use Rattle.frame.specs.Checks.{Check}
use Rattle.frame.specs.FrameCall.{header_checks}
use Rattle.line_text.specs.Line.{line_header}
use Rattle.line_text.specs.LineCall.{size_checks}

-- limits that the line call can serve: a frame has room in the lists of the longest one, and a soft value in its digits, which are 2 or 4
pub record Servable (limits : Limits) : Type 0 where
  pub symbols : limits.symbols ≤ full_limits.symbols
  pub soft : limits.soft ≤ full_limits.soft
  pub digits : (limits.digits ≡ 2) ⊎ (limits.digits ≡ 4)
  pub fits : 2 * limits.soft < 16 ^ limits.digits

-- those of the header, 3 and 15: the checks of a line between those of its characters and those of its symbols
abbrev pub field_checks : Limits → List ℕ → ℕ → List Check
field_checks limits line room = header_checks limits (line_header line) ++ size_checks limits line room
