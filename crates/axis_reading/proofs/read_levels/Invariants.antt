-- What the loop of `read_levels` keeps.
use Rattle.constellation.specs.Parts.{axis}
use Rattle.constellation.specs.Counter.{axis_counter}
use Rattle.demapper.specs.Reading.{buffers}
use Rattle.demapper.specs.Rounding.{scale_of}
use Rattle.part_reading.proofs.PartReading.{ReadUpTo}
use Rattle.axis_reading.specs.Turned.{turned, apart}
use Rattle.axis_reading.proofs.AxisReading.{is_set}
use Rattle.axis_reading.proofs.read_levels.Given as goal

abbrev pub invariant-loop-i : goal.invariant-loop-i
invariant-loop-i g l =
    let cellular = is_set g.row.CELLULAR in
    let m = g.row.BITS in
    ReadUpTo (turned cellular (axis m l.gain l.y)) (axis_counter m) (scale_of l.rounding) l.place.bit (apart cellular) l.place.probe
    (buffers l.initial.hard l.initial.soft l.initial.indices l.initial.costs) (buffers l.hard l.soft l.indices l.costs) l.i
