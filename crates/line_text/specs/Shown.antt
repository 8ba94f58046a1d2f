-- Demand 3 of the text that answers a line. Assumes nothing.
use Rattle.std.specs.Prelude.{◌≡◌, List, ℕ, ◌+◌, ◌*◌}
use Rattle.arithmetic.specs.Lists.{first}
use Rattle.hexadecimal.specs.Digits.{number_at}
use Rattle.hexadecimal.specs.TwosComplement.{signed_at}
use Rattle.demapper.specs.Reading.{Buffers}
use Rattle.frame.specs.declared.Limits.{Limits}
use Rattle.frame.specs.Frame.{Frame}
use Rattle.frame.specs.Demand3.{Demand3}
use Rattle.line_text.specs.Answer.{softs_at}

-- the count and the soft values that are read from the text are those of lists that meet demand 3, as the frame call hands them out
pub record TextShows (limits : Limits) (f : Frame) (text : List ℕ) : Type 0 where
  pub status : number_at text 0 2 ≡ 0
  pub lists : Buffers
  pub soft : lists.soft ≡ first (λ i. signed_at text (softs_at + i * limits.digits) limits.digits) f.header.payload
  pub shown : Demand3 f lists (number_at text 2 4)
