-- The scale that the code carries: what reading a part goes by, and what its definitions speak of. Assumes nothing.
use Rattle.std.specs.Prelude.{ℕ, ◌+◌, ◌/◌, ◌^◌}
use Rattle.constellation.specs.declared.Modulation.{Modulation}
use Rattle.constellation.specs.Schemes.{fraction_bits}
use Rattle.demapper.specs.declared.SoftScale.{SoftScale}
use Rattle.demapper.specs.declared.Rounding.{Rounding}
use Rattle.demapper.specs.Soft.{Scale}

-- what the code carries of weight, shift and limit with the modulation's e
abbrev pub soft_scale : ℕ → ℕ → ℕ → Modulation → SoftScale
soft_scale w s t q =
    let shift = s + fraction_bits q in
    record { weight = w; half = 2 ^ shift / 2; shift = shift; limit = t }

abbrev pub scale_of : Rounding → Scale
scale_of r = record { weight = r.scale.weight; shift = r.scale.shift; limit = r.scale.limit }
