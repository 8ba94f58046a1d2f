-- Where an input is cut into pieces does not matter: the answers are those to the whole. Assumes nothing.
use mathlib.Core.Path.{◌≡◌, ap}
use mathlib.Core.List.{List, [], flat_map}
use Prim.Native.Nat.{ℕ}
use Rattle.line_cut.proofs.Cutting.{pieces_free}
use Rattle.line_stream.specs.Stream.{answers_to, stream_answers, piecewise_answers}

pub cutting_free : (pieces : List (List ℕ)) → piecewise_answers [] pieces ≡ stream_answers (flat_map (λ p. p) pieces)
unfolding stream_answers piecewise_answers
cutting_free pieces = ap answers_to (pieces_free pieces)
