-- How many gains and coordinates of a frame are outside their ranges: none, where no symbol is refused. Nobody has to believe this file to read what the checks
-- answer (crate frame, specs/FrameCall). Assumes nothing.
use Rattle.std.specs.Prelude.{Bool, cond, List, ℕ, zero, suc, ◌+◌, ltb, ℤ, pos, get_or}
use Rattle.constellation.specs.Ranges.{max_gain}
use Rattle.frame.specs.FrameCall.{sample_outside}

-- a test as a number
abbrev pub one_if : Bool → ℕ
one_if b = cond b 1 0

-- how many gains and coordinates of the first n symbols are outside their ranges; PAM hands its one list of coordinates in twice
unfoldable pub outside_count : List ℕ → List ℤ → List ℤ → ℕ → ℕ
outside_count gains y_i y_q zero = 0
outside_count gains y_i y_q (suc n) =
    outside_count gains y_i y_q n
    + (one_if (ltb max_gain (get_or gains n 0)) + one_if (sample_outside (get_or y_i n (pos 0))) + one_if (sample_outside (get_or y_q n (pos 0))))
