-- `read_one` meets its contract: a run of one symbol is read. Assumes nothing.
use native.Mathlib.Nat.{one-mul}
use borrow.Author.Rules.{rules}
use mir.Facts.{to_z-of_z}
use Rattle.std.proofs.Common.{w32, FitsSigned}
use Rattle.arithmetic.specs.Lists.{joined}
use Rattle.frame_symbols.proofs.read_one.Goals as goal

pub returns-clause-read : goal.returns-clause-read
unfolding joined
returns-clause-read c =
    let in_phase : FitsSigned w32 c.args.symbol.yi = search rules in
    let quadrature : FitsSigned w32 c.args.symbol.yq = search rules in
    rw (one-mul, to_z-of_z in_phase, to_z-of_z quadrature) at c.read_symbols.ensures.read
