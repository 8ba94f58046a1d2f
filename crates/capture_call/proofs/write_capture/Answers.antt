-- `write_capture` meets its contract: the numbers of an accepted capture all convert, and the lists that are written are its whole numbers.
-- Assumes nothing.
use mathlib.Core.Path.{sym, ◌∙◌}
use Rattle.capture.proofs.Accepted.{converted_accepted, numbers_convert, singles_room, pairs_room, singles_written, pairs_written}
use Rattle.capture_checks.proofs.Layouts.{singles_kind, pairs_kind}
use Rattle.capture_call.proofs.write_capture.Goals as goal

pub returns-in-Singles : goal.returns-in-Singles
returns-in-Singles c =
    let same = c.scaling_of-scaling.ensures in
    let kind = singles_kind _ (sym c.in-Singles.is ∙ c.requires.known) in
    singles_written _ (converted_accepted c.requires.passes).1 kind (rw same at c.write_singles.ensures)

pub returns-in-Pairs : goal.returns-in-Pairs
returns-in-Pairs c =
    let w = c.write_pairs.ensures in
    let same = c.scaling_of-scaling.ensures in
    let kind = pairs_kind _ (sym c.in-Pairs.is ∙ c.requires.known) in
    pairs_written _ (converted_accepted c.requires.passes).1 kind (rw same at w.in_phase) (rw same at w.quadrature)

pub scaling_of-scaling-requires : goal.scaling_of-scaling-requires
scaling_of-scaling-requires c = (converted_accepted c.requires.passes).1.scale_in

pub write_singles-requires : goal.write_singles-requires
write_singles-requires c =
    let a = (converted_accepted c.requires.passes).1 in
    let kind = singles_kind _ (sym c.in-Singles.is ∙ c.requires.known) in
    (rw c.scaling_of-scaling.ensures (numbers_convert _ _ _ a), singles_room _ a kind)

pub write_pairs-requires : goal.write_pairs-requires
write_pairs-requires c =
    let a = (converted_accepted c.requires.passes).1 in
    let room = pairs_room _ a (pairs_kind _ (sym c.in-Pairs.is ∙ c.requires.known)) in
    (rw c.scaling_of-scaling.ensures (numbers_convert _ _ _ a), room.0, room.1)
