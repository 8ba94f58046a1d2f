-- `signed` meets its contract. Assumes nothing.
use mathlib.Core.Path.{ap, ◌∙◌}
use mir.Syntax.{w32}
use mir.Facts.{to_z-of_z}
use Rattle.hexadecimal.specs.TwosComplement.{signed_of, signed_at}
use Rattle.hexadecimal.proofs.Signs.{signed_machine}
use Rattle.digit_reading.proofs.HexText.signed.Goals as goal

pub returns : goal.returns
unfolding signed_at
returns c =
    to_z-of_z {w = w32} (record { sfits = c.cast_signed.type_inv })
    ∙ c.cast_signed.ensures
    ∙ signed_machine c.number.result c.number.ensures.below
    ∙ ap (signed_of 8) c.number.ensures.value
