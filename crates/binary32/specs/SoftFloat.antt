-- A soft value times 2^(−f) in binary32 (REQUIREMENTS, "Captures in binary32"). Assumes nothing.
use Rattle.std.specs.Prelude.{Bool, true, false, ℕ, ◌^◌, ℤ, pos, negsuc, nat_abs, Float}
use Rattle.std.specs.Float.{binary32}
use Rattle.std.specs.Float.Ieee.{round}
use Rattle.std.specs.Float.Ieee.Exact.{HasValue}

-- the scale f is 0 to 14
abbrev pub max_soft_scale : ℕ
max_soft_scale = 14

-- zero is not negative
unfoldable pub negative : ℤ → Bool
negative (pos n) = false
negative (negsuc n) = true

-- the binary32 number nearest to v·2^(−f), with v's sign; zero is plus zero
unfoldable pub soft_float : ℕ → ℤ → Float
soft_float f v = round binary32 (negative v) (nat_abs v) (2 ^ f)

-- x is v·2^(−f) exactly, with v's sign. One binary32 number alone is (proofs/SoftValues, `exactly_unique`).
abbrev pub Exactly : ℕ → ℤ → Float → Type 0
Exactly f v x = HasValue x (negative v) (nat_abs v) (2 ^ f)
