-- What a call may bound more narrowly than another: the symbols of a frame, the limit T of a soft value, the digits of a line, and those of a soft value in the
-- answer to a line (REQUIREMENTS, "Frames", "Soft values" and "Lines"). The other ranges are those of crate constellation, specs/Ranges, and crate demapper,
-- specs/Soft. Assumes nothing.
use Rattle.demapper.specs.Soft.{max_limit}
use Rattle.frame.specs.declared.Limits.{Limits}

-- the longest line has a header of 20 digits and 256 symbols of 24
abbrev pub full_limits : Limits
full_limits = record { symbols = 256; soft = max_limit; line = 6164; digits = 4 }
