-- A line and the frame that it stands for (REQUIREMENTS, "Lines"). A line is the list of its characters' codes; what is made of a character that is
-- no digit does not matter, since such a line is refused. Assumes nothing.
use Rattle.std.specs.Prelude.{Bool, cond, List, ℕ, ◌+◌, ◌*◌, ℤ}
use Rattle.arithmetic.specs.Lists.{first}
use Rattle.hexadecimal.specs.Digits.{number_at}
use Rattle.hexadecimal.specs.TwosComplement.{signed_at}
use Rattle.constellation.specs.declared.Modulation.{Modulation}
use Rattle.frame.specs.declared.Header.{Header}
use Rattle.frame.specs.Frame.{Frame, frame_from, header_from, is_weighted, header_modulation, header_symbols, header_weights}
use Rattle.constellation.specs.Schemes.{has_quadrature, quadrature_length}

-- the header's fields: kind (2), m or m_i (2), m_q (2), payload bits (4), w (4), s (2), T (4)
abbrev pub header_digits : ℕ
header_digits = 20

unfoldable pub line_header : List ℕ → Header
line_header line =
    header_from (number_at line 0 2) (number_at line 2 2) (number_at line 4 2) (number_at line 6 4) (number_at line 10 4) (number_at line 14 2)
    (number_at line 16 4)

-- the digits before y_i: g (4), and the symbol's weight (4) where each symbol has its own
unfoldable pub digits_before : Bool → ℕ
digits_before weighted = 4 + cond weighted 4 0

-- the digits of a symbol: these, y_i (8), and y_q (8) where the modulation has one
unfoldable pub digits_by : (weighted quadrature : Bool) → ℕ
digits_by weighted quadrature = digits_before weighted + 8 + cond quadrature 8 0

abbrev pub symbol_digits : Bool → Modulation → ℕ
symbol_digits weighted q = digits_by weighted (has_quadrature q)

abbrev pub header_symbol_digits : Header → ℕ
header_symbol_digits h = symbol_digits (is_weighted h.kind) (header_modulation h)

-- where symbol n begins, with d digits a symbol, and its fields
abbrev pub symbol_at : ℕ → ℕ → ℕ
symbol_at d n = header_digits + n * d

unfoldable pub gain_at : ℕ → List ℕ → ℕ → ℕ
gain_at d line n = number_at line (symbol_at d n) 4

unfoldable pub weight_at : ℕ → List ℕ → ℕ → ℕ
weight_at d line n = number_at line (symbol_at d n + 4) 4

unfoldable pub in_phase_at : Bool → ℕ → List ℕ → ℕ → ℤ
in_phase_at weighted d line n = signed_at line (symbol_at d n + digits_before weighted) 8

unfoldable pub quadrature_at : Bool → ℕ → List ℕ → ℕ → ℤ
quadrature_at weighted d line n = signed_at line (symbol_at d n + (digits_before weighted + 8)) 8

-- the length that a header calls for
unfoldable pub line_length : Header → ℕ
line_length h = symbol_at (header_symbol_digits h) (header_symbols h)

unfoldable pub line_frame : List ℕ → Frame
line_frame line =
    let h = line_header line in
    let weighted = is_weighted h.kind in
    let d = header_symbol_digits h in
    frame_from h (first (gain_at d line) (header_symbols h)) (first (weight_at d line) (header_weights h))
    (first (in_phase_at weighted d line) (header_symbols h))
    (first (quadrature_at weighted d line) (quadrature_length (header_modulation h) (header_symbols h)))
