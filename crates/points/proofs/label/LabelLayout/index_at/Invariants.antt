-- What the loop of `index_at` keeps: k is the index of the bits passed.
use mathlib.Core.Path.{◌≡◌}
use Rattle.constellation.specs.Gray.{index_of_label}
use Rattle.points.specs.LabelWithin.{label_within}
use Rattle.points.proofs.label.LabelLayout.index_at.Given as goal

abbrev pub invariant-loop-i : goal.invariant-loop-i
invariant-loop-i l = l.k ≡ index_of_label (label_within l.bits.bytes.now l.first l.self.apart l.self.turned l.i)
