-- `write_pairs` meets its contract: the numbers of pair n stand at 2·n and 2·n + 1. Assumes nothing.
use mathlib.Core.Path.{◌≡◌, refl, ap, ◌∙◌}
use mathlib.Core.List.{List, []}
use Prim.Native.Nat.{ℕ, zero, suc, ◌+◌, ◌*◌, ◌<◌}
use native.Mathlib.Omega.{arith}
use lib.Dec.{lit<}
use lib.ListN.{get_or, drop}
use lib.Seq.{get_or-take, get_or-drop}
use lib.Ieee.{Float, nan}
use Rattle.std.specs.Simd.{first_chunks}
use Rattle.arithmetic.proofs.Lists.{filled_none}
use Rattle.capture_call.proofs.Filling.{number_more}
use Rattle.capture_call.proofs.write_pairs.Goals as goal

-- entry j of chunk n, where a chunk has k entries
chunk_at : (k m : ℕ) (xs : List Float) (n j : ℕ) → n < m → j < k → get_or (get_or (first_chunks k m xs) n []) j nan ≡ get_or xs (n * k + j) nan
chunk_at k zero xs n j h l = absurd (omega arith)
chunk_at k (suc m) xs zero j h l = get_or-take k xs j nan l ∙ ap (λ i. get_or xs i nan) (omega arith)
chunk_at k (suc m) xs (suc n) j h l =
    chunk_at k m (drop k xs) n j (omega arith) l
    ∙ get_or-drop k xs (n * k + j) nan
    ∙ ap (λ i. get_or xs i nan) (omega arith)

-- so the number at i of the capture is entry j of pair n
pair_at : (m : ℕ) (xs : List Float) {pairs : List (List Float)} → pairs ≡ first_chunks 2 m xs → (n j i : ℕ) → n < m → j < 2 → n * 2 + j ≡ i
    → get_or (get_or pairs n []) j nan ≡ get_or xs i nan
pair_at m xs cut n j i h l e = rw (cut, ← e) (chunk_at 2 m xs n j h l)

pub loop-n-init : goal.loop-n-init
loop-n-init c = (filled_none, filled_none)

pub loop-n-preserved : goal.loop-n-preserved
loop-n-preserved c =
    let l = c.loop-n in
    let cut = c.as_chunks.ensures.front in
    let i = c.round_scaled in
    let q = c.round_scaled-in-loop-n in
    let first_is = pair_at _ c.args.numbers.now cut l.n 0 (l.n * 2) (omega arith) (lit< tt) (omega arith) in
    let second_is = pair_at _ c.args.numbers.now cut l.n 1 (l.n * 2 + 1) (omega arith) (lit< tt) refl in (
      number_more l.invariant.0 (omega arith) (record { sfits = i.type_inv }) (rw first_is at i.ensures),
      number_more l.invariant.1 (omega arith) (record { sfits = q.type_inv }) (rw second_is at q.ensures),
    )

pub round_scaled-requires : goal.round_scaled-requires
round_scaled-requires c =
    let n = c.loop-n.n in
    rw (pair_at _ c.args.numbers.now c.as_chunks.ensures.front n 0 (n * 2) (omega arith) (lit< tt) (omega arith)) (c.requires.0 (n * 2) (omega arith))

pub round_scaled-requires-in-loop-n : goal.round_scaled-requires-in-loop-n
round_scaled-requires-in-loop-n c =
    let n = c.loop-n.n in
    rw (pair_at _ c.args.numbers.now c.as_chunks.ensures.front n 1 (n * 2 + 1) (omega arith) (lit< tt) refl) (c.requires.0 (n * 2 + 1) (omega arith))
