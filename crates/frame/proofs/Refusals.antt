-- The number 0 stands for no refusal: no refusal has it. Assumes nothing.
use mathlib.Core.Path.{◌≡◌}
use native.Mathlib.Omega.{arith}
use Rattle.frame.specs.declared.Refusal.{Refusal}
use Rattle.frame.specs.declared.Refusal.TheVariants.{LineLength, LineCharacter, LineLengthForHeader, Kind, BitsPerSymbol, Payload, Weight, Shift, Limit, Gain, Sample, NotFinite, RoundsOutOfRange, Scale, OutputTooShort, InputLength, BitByte, HeaderWeight}
use Rattle.frame.specs.Refusals.{refusal_number}

pub refusal_not-zero : (r : Refusal) → refusal_number r ≡ 0 → ⊥
unfolding refusal_number
refusal_not-zero LineLength e = omega arith
refusal_not-zero LineCharacter e = omega arith
refusal_not-zero LineLengthForHeader e = omega arith
refusal_not-zero Kind e = omega arith
refusal_not-zero BitsPerSymbol e = omega arith
refusal_not-zero Payload e = omega arith
refusal_not-zero Weight e = omega arith
refusal_not-zero Shift e = omega arith
refusal_not-zero Limit e = omega arith
refusal_not-zero Gain e = omega arith
refusal_not-zero Sample e = omega arith
refusal_not-zero NotFinite e = omega arith
refusal_not-zero RoundsOutOfRange e = omega arith
refusal_not-zero Scale e = omega arith
refusal_not-zero OutputTooShort e = omega arith
refusal_not-zero InputLength e = omega arith
refusal_not-zero BitByte e = omega arith
refusal_not-zero HeaderWeight e = omega arith
