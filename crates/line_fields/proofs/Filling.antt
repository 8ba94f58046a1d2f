-- A buffer that is filled from its start to its end. Assumes nothing.
use mathlib.Core.Path.{◌≡◌, refl, ◌∙◌}
use mathlib.Core.List.{List, append-nil}
use Prim.Native.Nat.{ℕ}
use lib.ListN.{length}
use lib.Seq.{drop-length}
use Rattle.arithmetic.specs.Lists.{first}
use Rattle.arithmetic.proofs.Lists.{Filled, length_first, over_start}

pub filled_whole : {A : Type 0} {d l : List A} {f : ℕ → A} {n : ℕ} → Filled d 0 f n l → n ≡ length d → l ≡ first f (length d)
filled_whole {d = d} {f = f} filled e =
    filled.contents ∙ over_start d (first f _) ∙ rw (e, length_first, drop-length, append-nil) refl
