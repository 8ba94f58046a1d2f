-- `read_levels` meets its contract: in each turn bit i is read, after which the bits before bit i + 1 are. Assumes nothing.
use Rattle.std.proofs.Common.{◌≡◌, sym, ap, ◌∙◌, Bool, ℕ, ◌+◌, ◌*◌, ◌^◌, ◌<◌, ℤ, FitsSigned, to_z, w64, arith}
use lib.Signed.{mag}
use mir.Facts.{to_z-of_z, to_z_pos}
use Rattle.arithmetic.proofs.Signed.{held}
use Rattle.constellation.specs.Ranges.{AxisInRange, BitInRange}
use Rattle.constellation.specs.Heights.{axis_height, cost_by_height}
use Rattle.constellation.specs.Parts.{Part, gray_part, axis}
use Rattle.constellation.specs.Counter.{axis_counter}
use Rattle.constellation.specs.Gray.{label_bit}
use Rattle.constellation.proofs.Gray.{label_bit-below}
use Rattle.part_reading.proofs.PartReading.{InRange, nearest-below, NearestFound, nearest-fits, counter_index_below, counter_fits, Turn, turn_bit_below, turn_difference, read_none, read_more, read_all}
use Rattle.points.specs.LabelWithin.{turned_bit}
use Rattle.axis_reading.specs.Turned.{turned, apart}
use Rattle.axis_reading.proofs.AxisReading.{is_set, set_apart, unset_apart, axis_in_range, turned_in_range, HeightFound, height_ready, height_cost}
use Rattle.axis_reading.proofs.read_levels.Given.{Over}
use Rattle.axis_reading.proofs.read_levels.Goals as goal
use Rattle.axis_reading.proofs.read_levels.Goals.{After-axis_cost-least, then-this-ne0, else-this-ne0}

-- the part, with the sample as the machine holds it
abbrev part : Bool → ℕ → ℕ → ℤ → Part
part t m g y = turned t (axis m g (held w64 y))

-- what is known before the loop: the sample and its height fit, k is the nearest index, and least its cost
record Known (t : Bool) (m g : ℕ) (y high : ℤ) (k : ℕ) (least : ℤ) : Type 0 where
  range : AxisInRange m g y
  sample_fits : FitsSigned w64 y
  height_fits : FitsSigned w64 high
  height_is : high ≡ axis_height m g (held w64 y)
  nearest_is : k ≡ (axis m g (held w64 y)).nearest
  least_is : least ≡ cost_by_height (held w64 high) (to_z w64 (2 * g)) k

in_range : (t : Bool) {m g : ℕ} {y : ℤ} → FitsSigned w64 y → AxisInRange m g y → InRange (part t m g y) (axis_counter m)
in_range t fits range = turned_in_range t (rw (to_z-of_z fits) (axis_in_range range))

height : {m g : ℕ} {y high : ℤ} → AxisInRange m g y → FitsSigned w64 y → FitsSigned w64 high → high ≡ axis_height m g (held w64 y)
    → HeightFound m g (held w64 y) (held w64 high) (to_z w64 (2 * g))
height {g} range fits long e =
    record {
      in_range = rw (to_z-of_z fits) range;
      high = to_z-of_z long ∙ e;
      wide = to_z_pos w64 {n = 2 * g} (omega (arith, range.gain));
    }

known : (t : Bool) {m g : ℕ} {y high : ℤ} {k : ℕ} {least : ℤ} → AxisInRange m g y → FitsSigned w64 y → mag high < 2 ^ 63 → high ≡ axis_height m g (held w64 y)
    → k ≡ (axis m g (held w64 y)).nearest → least ≡ cost_by_height (held w64 high) (to_z w64 (2 * g)) k → Known t m g y high k least
known t range fits long height_is nearest_is least_is =
    record {
      range = range;
      sample_fits = fits;
      height_fits = record { sfits = long };
      height_is = height_is;
      nearest_is = nearest_is;
      least_is = least_is;
    }

module _ {t : Bool} {m g : ℕ} {y high : ℤ} {k : ℕ} {least : ℤ} where
  known_height : Known t m g y high k least → HeightFound m g (held w64 y) (held w64 high) (to_z w64 (2 * g))
  known_height n = height n.range n.sample_fits n.height_fits n.height_is

  found : Known t m g y high k least → NearestFound (part t m g y) (axis_counter m) k least
  unfolding turned axis gray_part
  found n = record { in_range = in_range t n.sample_fits n.range; index = n.nearest_is; cost = height_cost (known_height n) _ n.least_is }

  bit_in_range : {i : ℕ} → Known t m g y high k least → i < m → BitInRange m k i
  unfolding turned axis gray_part
  bit_in_range n h = record { few = n.range.few; below = nearest-below (found n).in_range (found n).index; in_label = h }

  turn : {i other label bit : ℕ} {cost : ℤ} → Known t m g y high k least → i < m → other ≡ axis_counter m k i → label ≡ label_bit m i k
      → bit ≡ turned_bit t label → cost ≡ cost_by_height (held w64 high) (to_z w64 (2 * g)) other
      → Turn (part t m g y) (axis_counter m) i k other bit least cost
  unfolding turned axis gray_part
  turn n h other_is label_is bit_is cost_is =
      record {
        found = found n;
        in_label = h;
        other_is = other_is;
        bit_is = bit_is ∙ ap (turned_bit t) label_is;
        cost_is = height_cost (known_height n) _ cost_is;
      }

known_at : (g : Over) (c : After-axis_cost-least g) → let a = c.args in
    Known (is_set g.row.CELLULAR) g.row.BITS a.gain a.y c.axis_height-height.result c.nearest_level-nearest.result c.axis_cost-least.result
known_at g c =
    known (is_set g.row.CELLULAR) c.requires.0 c.ranges.y c.axis_height-height.type_inv c.axis_height-height.ensures c.nearest_level-nearest.ensures
    c.axis_cost-least.ensures

pub axis_cost-least-requires : goal.axis_cost-least-requires
unfolding turned axis gray_part
axis_cost-least-requires g c =
    height_ready (height c.requires.0 c.ranges.y (record { sfits = c.axis_height-height.type_inv }) c.axis_height-height.ensures)
    (nearest-below (in_range (is_set g.row.CELLULAR) c.ranges.y c.requires.0) c.nearest_level-nearest.ensures)

pub loop-i-init : goal.loop-i-init
loop-i-init g c = read_none

-- what a turn writes
pub loop-i-preserved : goal.loop-i-preserved
unfolding turned axis gray_part
loop-i-preserved g c =
    let n = known_at g (goal.at.loop-i-preserved g c).After-axis_cost-least in
    let t = turn n c.loop-i-test.true c.axis_counter-counter.ensures c.label_bit-label.ensures c.turned_bit-bit.ensures c.axis_cost-cost.ensures in
    let wide : c.if-this-ne0.apart ≡ apart (is_set g.row.CELLULAR) =
    elim c.if-this-ne0.branch [ then-this-ne0 w ↦ w.apart-is ∙ sym (set_apart _ w.if-this-ne0.true) | else-this-ne0 w ↦ w.apart-is ∙ sym (unset_apart _ w.if-this-ne0.false) ] in
    read_more c.requires.1 (ap (λ d. c.args.place.bit + c.loop-i.i * d) wide) t (record { sfits = c.soft_value-value.type_inv }) c.soft_value-value.ensures c.loop-i.invariant

pub returns-clause-read : goal.returns-clause-read
unfolding turned axis gray_part
returns-clause-read g c =
    let n = known_at g (goal.at.returns-clause-read g c).After-axis_cost-least in
    rw (to_z-of_z c.ranges.y) at (read_all c.requires.1 (found n) (omega arith) c.loop-i.invariant)

-- and no step on the way fails
pub axis_counter-counter-requires : goal.axis_counter-counter-requires
axis_counter-counter-requires g c =
    bit_in_range (known_at g (goal.at.axis_counter-counter-requires g c).After-axis_cost-least) c.loop-i-test.true

pub axis_cost-cost-requires : goal.axis_cost-cost-requires
unfolding turned axis gray_part
axis_cost-cost-requires g c =
    let n = known_at g (goal.at.axis_cost-cost-requires g c).After-axis_cost-least in
    height_ready (known_height n) (counter_index_below (found n) c.loop-i-test.true c.axis_counter-counter.ensures)

pub overflow_cast-indices : goal.overflow_cast-indices
unfolding turned axis gray_part
overflow_cast-indices g c =
    let n = known_at g (goal.at.overflow_cast-indices g c).After-axis_cost-least in
    counter_fits (found n) c.loop-i-test.true c.axis_counter-counter.ensures

pub label_bit-label-requires : goal.label_bit-label-requires
label_bit-label-requires g c =
    bit_in_range (known_at g (goal.at.label_bit-label-requires g c).After-axis_cost-least) c.loop-i-test.true

pub turned_bit-bit-requires : goal.turned_bit-bit-requires
turned_bit-bit-requires g c = rw c.label_bit-label.ensures (label_bit-below g.row.BITS _ _)

turn_of : (g : Over) (c : goal.After-struct_known-in-loop-i-1 g) → let a = c.args in
    Turn (part (is_set g.row.CELLULAR) g.row.BITS a.gain a.y) (axis_counter g.row.BITS) c.loop-i.i c.nearest_level-nearest.result c.axis_counter-counter.result
    c.turned_bit-bit.result c.axis_cost-least.result c.axis_cost-cost.result
turn_of g c =
    let n =
    known (is_set g.row.CELLULAR) c.requires.0 c.ranges.y c.axis_height-height.type_inv c.axis_height-height.ensures c.nearest_level-nearest.ensures
    c.axis_cost-least.ensures in
    turn n c.loop-i-test.true c.axis_counter-counter.ensures c.label_bit-label.ensures c.turned_bit-bit.ensures c.axis_cost-cost.ensures

pub overflow_cast-hard : goal.overflow_cast-hard
overflow_cast-hard g c = omega (arith, turn_bit_below (turn_of g c))

pub overflow_sub-cost : goal.overflow_sub-cost
overflow_sub-cost g c = (turn_difference (turn_of g c)).fits

pub overflow_cast-cost : goal.overflow_cast-cost
overflow_cast-cost g c = ((turn_difference (turn_of g c)).positive, omega (arith, (turn_difference (turn_of g c)).small))

pub soft_value-value-requires : goal.soft_value-value-requires
soft_value-value-requires g c = ((turn_difference (turn_of g c)).small, omega (arith, turn_bit_below (turn_of g c)))

pub overflow_cast-indices-2 : goal.overflow_cast-indices-2
overflow_cast-indices-2 g c =
    nearest-fits (found (known_at g (goal.at.overflow_cast-indices-2 g c).After-axis_cost-least))
