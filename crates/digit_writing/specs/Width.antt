-- The digits of each width. Assumes nothing.
use Rattle.std.specs.Prelude.{ℕ}
use Rattle.digit_writing.specs.declared.Width.{Width}
use Rattle.digit_writing.specs.declared.Width.TheVariants.{Two, Four}

abbrev pub digits_in : Width → ℕ
digits_in Two = 2
digits_in Four = 4
