-- What stands in the four lent buffers, and that a reading hands back the buffers that it was lent. Assumes nothing.
use Rattle.std.specs.Prelude.{◌≡◌}
use Rattle.demapper.specs.declared.OutputBuffers.{OutputBuffers}
use Rattle.demapper.specs.Reading.{Buffers}

-- what the buffers hold
abbrev pub held_in : OutputBuffers → Buffers
held_in b = record { hard = b.hard.now; soft = b.soft.now; indices = b.indices.now; costs = b.costs.now }

-- the buffers after a reading are those before it, whatever they hold then
abbrev pub SameBuffers : OutputBuffers → OutputBuffers → Type 0
SameBuffers lent out =
    (out.hard.ghost_name ≡ lent.hard.ghost_name)
    × (out.soft.ghost_name ≡ lent.soft.ghost_name)
    × (out.indices.ghost_name ≡ lent.indices.ghost_name)
    × (out.costs.ghost_name ≡ lent.costs.ghost_name)
