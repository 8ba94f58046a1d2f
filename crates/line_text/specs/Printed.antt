-- A frame written as a line. That a line is read back as the frame that it was written of, and written as it was read, is proofs/PrintedLine.
-- Assumes nothing.
use Rattle.std.specs.Prelude.{◌≡◌, Bool, cond, List, [], ◌++◌, ℕ, ◌^◌, ◌<◌, ℤ, pos, length, get_or}
use Rattle.arithmetic.specs.Lists.{joined}
use Rattle.hexadecimal.specs.Digits.{digits_of}
use Rattle.hexadecimal.specs.TwosComplement.{signed_digits, Representable}
use Rattle.constellation.specs.declared.Modulation.{Modulation}
use Rattle.frame.specs.declared.Header.{Header}
use Rattle.frame.specs.Frame.{Frame, is_weighted, modulation, symbol_count, header_weights}
use Rattle.constellation.specs.Schemes.{has_quadrature, quadrature_length}

unfoldable pub header_text : Header → List ℕ
header_text h =
    digits_of 2 h.kind
    ++ digits_of 2 h.bits_i
    ++ digits_of 2 h.bits_q
    ++ digits_of 4 h.payload
    ++ digits_of 4 h.weight
    ++ digits_of 2 h.shift
    ++ digits_of 4 h.limit

-- g, the weight where each symbol has its own, y_i, and y_q where the modulation has one
unfoldable pub text_by : (weighted quadrature : Bool) → (g w : ℕ) → (y_i y_q : ℤ) → List ℕ
text_by weighted quadrature g w y_i y_q =
    digits_of 4 g ++ cond weighted (digits_of 4 w) [] ++ signed_digits 8 y_i ++ cond quadrature (signed_digits 8 y_q) []

abbrev pub symbol_text : Bool → Modulation → (g w : ℕ) → (y_i y_q : ℤ) → List ℕ
symbol_text weighted q g w y_i y_q = text_by weighted (has_quadrature q) g w y_i y_q

-- symbol n of a frame
unfoldable pub symbol_of : Frame → ℕ → List ℕ
symbol_of f n =
    symbol_text (is_weighted f.header.kind) (modulation f) (get_or f.gains n 0) (get_or f.weights n 0) (get_or f.y_i n (pos 0)) (get_or f.y_q n (pos 0))

unfoldable pub printed_line : Frame → List ℕ
printed_line f = header_text f.header ++ joined (symbol_of f) (symbol_count f)

-- the header's numbers fit their fields
pub record PrintableHeader (h : Header) : Type 0 where
  pub kind : h.kind < 16 ^ 2
  pub bits_i : h.bits_i < 16 ^ 2
  pub bits_q : h.bits_q < 16 ^ 2
  pub payload : h.payload < 16 ^ 4
  pub weight : h.weight < 16 ^ 4
  pub shift : h.shift < 16 ^ 2
  pub limit : h.limit < 16 ^ 4

-- a frame that a line has room for: every number fits its field, and each symbol has a gain, a sample, and a weight where its kind has weights. Each frame that
-- the frame call accepts is one (proofs/PrintedLine, `accepted_printable`).
pub record Printable (f : Frame) : Type 0 where
  pub header : PrintableHeader f.header
  pub gains : length f.gains ≡ symbol_count f
  pub weights : length f.weights ≡ header_weights f.header
  pub in_phase : length f.y_i ≡ symbol_count f
  pub quadrature : length f.y_q ≡ quadrature_length (modulation f) (symbol_count f)
  pub gain_fits : (n : ℕ) → get_or f.gains n 0 < 16 ^ 4
  pub weight_fits : (n : ℕ) → get_or f.weights n 0 < 16 ^ 4
  pub in_phase_fits : (n : ℕ) → Representable 8 (get_or f.y_i n (pos 0))
  pub quadrature_fits : (n : ℕ) → Representable 8 (get_or f.y_q n (pos 0))
