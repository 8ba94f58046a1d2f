-- `number` meets its contract: its arithmetic gives the number. Assumes nothing.
use Rattle.std.proofs.lemmas.Slice.{take-put_mid}
use native.Mathlib.Omega.{arith}
use Prim.Native.Nat.{◌-◌}
use mathlib.Core.Path.{ap, ◌∙◌}
use mathlib.Core.List.{◌++◌}
use lib.ListN.{take}
use Rattle.hexadecimal.proofs.Fields.{number_below}
use Rattle.digit_reading.proofs.Packed.{packed, zeros, length_field, number_of_field}
use Rattle.digit_reading.proofs.HexText.number.Goals as goal

pub returns-clause-value : goal.returns-clause-value
unfolding packed
returns-clause-value g c =
    let text = c.args.self in
    let copied = c.copy_from_slice.ensures.after in
    let e = length_field text.characters.now c.args.at text.digits c.requires.0 c.requires.1 in
    let cut = take-put_mid (8 - g.row.N) (8 - (8 - g.row.N)) zeros c.copy_from_slice.new.self 8 (rw (copied, e) (omega arith)) (omega arith) in
    number_of_field text.characters.now c.args.at text.digits c.requires.0 c.requires.1 _ c.from_be_bytes-x.ensures
    (cut ∙ ap (λ l. take (8 - g.row.N) zeros ++ l) copied)

pub returns-clause-below : goal.returns-clause-below
returns-clause-below g c =
    let text = c.args.self in
    rw (returns-clause-value g c) (number_below text.characters.now c.args.at g.row.N text.digits c.requires.1)
