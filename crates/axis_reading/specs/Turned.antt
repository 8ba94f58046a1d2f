-- How the bits of an axis are labelled and written: as they stand and side by side, or, with cellular labels, turned round and by turns with those of the other
-- axis. Nobody has to believe this file to read the frame call's promise (crate frame, specs/Promise). Assumes nothing.
use Rattle.std.specs.Prelude.{Bool, true, false, List, ℕ}
use Rattle.constellation.specs.Gray.{complement}
use Rattle.constellation.specs.Ranges.{max_axis_bits, max_cellular_bits}
use Rattle.constellation.specs.Parts.{Part, complemented}
use Rattle.points.specs.LabelWithin.{turned_bit}

-- the part itself, or with complemented labels
abbrev pub labelled : Bool → Part → Part
labelled false p = p
labelled true p = complemented p

-- from one of its bits to the next: they stand side by side, or at every second position
abbrev pub apart : Bool → ℕ
apart false = 1
apart true = 2

-- the most bits that it may have
abbrev pub most_bits : Bool → ℕ
most_bits false = max_axis_bits
most_bits true = max_cellular_bits

-- a label as it stands, and with each bit turned round
unfoldable pub turned_label : Bool → List ℕ → List ℕ
turned_label false label = label
turned_label true label = complement label

-- the part itself, or with complemented labels, each of whose bits is the part's own bit as it stands or turned round
unfoldable pub turned : Bool → Part → Part
turned t p =
    record {
      bits = p.bits;
      points = p.points;
      cost = p.cost;
      bit = λ i k. turned_bit t (p.bit i k);
      index = λ label. p.index (turned_label t label);
      nearest = p.nearest;
      probed = p.probed;
    }
