-- `whole_blocks` meets its contract: each block is judged, as are its characters. Assumes nothing.
use Rattle.std.proofs.lemmas.Iterator.Search.{all_from_yields_List}
use Rattle.std.proofs.lemmas.Iterator.{YieldsList-from_slice}
use Rattle.std.proofs.Common.{rules, ◌≡◌, length, ◌∙◌}
use native.Mathlib.Omega.{arith}
use Prim.Native.Nat.{◌/◌}
use Rattle.std.specs.List.{list_all}
use Rattle.hexadecimal.specs.Digits.{all_digits}
use Rattle.hexadecimal.proofs.Blocks.{blocks_digits}
use Rattle.hexadecimal.proofs.whole_blocks.Goals as goal

pub returns : goal.returns
returns c =
    let judged : c.all.result ≡ list_all all_digits c.as_chunks.result.0.now = all_from_yields_List all_digits _ _ _ c.all.ensures.ran (YieldsList-from_slice c.as_chunks.result.0.now cc) (λ x b q k. search rules) in
    judged ∙ rw c.as_chunks.ensures.front (blocks_digits (length c.args.text.now / 16) c.args.text.now (omega arith))
