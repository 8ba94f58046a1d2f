-- `is_convertible` meets its contract: the limits of a scale are those of the numbers that convert. Assumes nothing.
use Rattle.binary32.proofs.Comparing.{within_converts, second_of, first_of}
use Rattle.binary32.proofs.coordinate.is_convertible.Goals as goal

pub returns-then-scaling-x : goal.returns-then-scaling-x
returns-then-scaling-x c = second_of _ c.if-scaling-x.true (within_converts _ _ _ c.args.scaling.in_range.limit)

pub returns-else-scaling-x : goal.returns-else-scaling-x
returns-else-scaling-x c = first_of _ c.if-scaling-x.false (within_converts _ _ _ c.args.scaling.in_range.limit)
