-- The refusals' numbers (REQUIREMENTS, "Refusals"). Assumes nothing.
use Rattle.std.specs.Prelude.{ℕ}
use Rattle.frame.specs.declared.Refusal.{Refusal}
use Rattle.frame.specs.declared.Refusal.TheVariants.{LineLength, LineCharacter, LineLengthForHeader, Kind, BitsPerSymbol, Payload, Weight, Shift, Limit, Gain, Sample, NotFinite, RoundsOutOfRange, Scale, OutputTooShort, InputLength, BitByte, HeaderWeight}

unfoldable pub refusal_number : Refusal → ℕ
refusal_number LineLength = 1
refusal_number LineCharacter = 2
refusal_number LineLengthForHeader = 3
refusal_number Kind = 4
refusal_number BitsPerSymbol = 5
refusal_number Payload = 6
refusal_number Weight = 7
refusal_number Shift = 8
refusal_number Limit = 9
refusal_number Gain = 10
refusal_number Sample = 11
refusal_number NotFinite = 12
refusal_number RoundsOutOfRange = 13
refusal_number Scale = 14
refusal_number OutputTooShort = 15
refusal_number InputLength = 16
refusal_number BitByte = 17
refusal_number HeaderWeight = 18
