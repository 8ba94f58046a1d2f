-- What the functions that read a frame's symbols are given. Nobody has to believe this file to read the frame call's promise (crate frame, specs/Promise).
-- Assumes nothing.
use Rattle.std.specs.Prelude.{List, ℕ, ℤ, pos, get_or}
use Rattle.symbol_reading.specs.declared.Symbol.{Symbol}

-- symbol n of lists of gains and samples
abbrev pub symbol_at : List ℕ → List ℤ → List ℤ → ℕ → Symbol
symbol_at gains y_i y_q n = record { gain = get_or gains n 0; yi = get_or y_i n (pos 0); yq = get_or y_q n (pos 0) }
