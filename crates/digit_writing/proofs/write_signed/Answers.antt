-- `write_signed` meets its contract. Assumes nothing.
use mir.Facts.{to_z-of_z}
use Rattle.hexadecimal.specs.TwosComplement.{last_digits}
use Rattle.hexadecimal.proofs.Signs.{unsigned_machine}
use Rattle.digit_writing.proofs.write_signed.Goals as goal

pub returns-in-Two : goal.returns-in-Two
unfolding last_digits
returns-in-Two c = rw (c.in-Two.is, c.write_number.ensures, c.cast_unsigned-v.ensures, to_z-of_z c.ranges.z, unsigned_machine c.args.z)

pub returns-in-Four : goal.returns-in-Four
unfolding last_digits
returns-in-Four c = rw (c.in-Four.is, c.write_number-in-Four.ensures, c.cast_unsigned-v.ensures, to_z-of_z c.ranges.z, unsigned_machine c.args.z)
