-- The starred cases of REQUIREMENTS, "Cases at the edges", and further edges of binary32 and of lines.
-- Each row has what the definitions give, and what the requirements say. A row that has a weight, a shift and a limit, or a point that is read, goes through a
-- whole frame, by the definitions that the frame call promises by. The rows are shown equal in proofs/Cases. Assumes nothing.
use Rattle.std.specs.Prelude.{List, [], ◌∷◌, ◌++◌, map, ℕ, ℤ, pos, neg_ℤ, length, take, drop, Float}
use Rattle.std.specs.Float.{binary32}
use Rattle.std.specs.Float.Ieee.{of_bits, to_bits}
use Rattle.constellation.specs.Gray.{gray_label}
use Rattle.constellation.specs.Counter.{phase_counter}
use Rattle.demapper.specs.Probes.{probe_indices}
use Rattle.hexadecimal.specs.Digits.{digits_of}
use Rattle.frame.specs.Frame.{Frame, header_from, frame_from, frame_parts, soft_values, probe_list}
use Rattle.frame.specs.Points.{bit_differences}
use Rattle.frame.specs.Limits.{full_limits}
use Rattle.line_text.specs.LineCall.{line_text}
use Rattle.binary32.specs.SoftFloat.{soft_float}
use Rattle.capture.specs.declared.Sample.{Sample}
use Rattle.capture.specs.declared.Sample.TheVariants.{Single, Pair}
use Rattle.capture.specs.Samples.{sample_answer, sample_status, sample_values}

pub record Case : Type 0 where
  pub computed : List ℤ
  pub stated : List ℤ

abbrev pub case : List ℤ → List ℤ → Case
case a b = record { computed = a; stated = b }

-- numbers as integers
abbrev pub naturals : List ℕ → List ℤ
naturals ns = map pos ns

abbrev pub minus : ℕ → ℤ
minus n = neg_ℤ (pos n)

-- a frame of one symbol: the kind number, m_i, m_q, payload, w, s and T; then g and the sample
abbrev pub single : (kind m_i m_q payload w s T g : ℕ) (y_i : ℤ) (y_q : List ℤ) → Frame
single kind m_i m_q payload w s T g y_i y_q = frame_from (header_from kind m_i m_q payload w s T) (g ∷ []) [] (y_i ∷ []) y_q

-- N of each bit, the probed indices, and k* of the first symbol's first part
abbrev differences : Frame → List ℤ
differences f = bit_differences (frame_parts f)

abbrev pub probed : Frame → List ℤ
probed f = naturals (probe_indices (probe_list f))

abbrev nearest : Frame → List ℤ
nearest f = take 1 (probed f)

-- 8-PAM, g = 10, y = −33, w = 1, s = 3, T = 127; and the same at g = 0 with any y
abbrev pam8 : Frame
pam8 = single 0 3 0 3 1 3 127 10 (minus 33) []

abbrev pam8_silent : ℤ → Frame
pam8_silent y = single 0 3 0 3 1 3 127 0 y []

-- 2-PAM, g = 4, y = 0
abbrev pam2 : Frame
pam2 = single 0 1 0 1 1 0 32767 4 (pos 0) []

-- 8-PSK, g = 1, y = (100, 0), w = 1, s = 0, T = 32767
abbrev psk8 : Frame
psk8 = single 2 3 0 3 1 0 32767 1 (pos 100) (pos 0 ∷ [])

-- 16-PSK, g = 1, y = (100000, 41418)
abbrev psk16 : Frame
psk16 = single 2 4 0 4 1 0 32767 1 (pos 100000) (pos 41418 ∷ [])

-- 2-PAM, g = 1, y = −3 and 3, w = 1, s = 3, T = 127
abbrev pam2_twice : Frame
pam2_twice = frame_from (header_from 0 1 0 2 1 3 127) (1 ∷ 1 ∷ []) [] (minus 3 ∷ pos 3 ∷ []) []

-- the frame of the worked line: 16-QAM, 3 payload bits, w = 1, s = 2, T = 32767, one symbol with g = 5, y_i = 3, y_q = −20
abbrev pub worked_frame : Frame
worked_frame = single 1 2 2 3 1 2 32767 5 (pos 3) (minus 20 ∷ [])

-- the number and the values that a sample gives at the scale F
abbrev answered : ℕ → Sample Float → List ℤ
answered F sample = let answer = sample_answer F sample in pos (sample_status answer) ∷ sample_values answer

-- one binary32 number of these bits, and two
abbrev converted : ℕ → ℕ → List ℤ
converted F bits = answered F (Single (of_bits binary32 bits))

abbrev converted_pair : ℕ → ℕ → ℕ → List ℤ
converted_pair F bits_i bits_q = answered F (Pair (record { in_phase = of_bits binary32 bits_i; quadrature = of_bits binary32 bits_q }))

-- 2.5, 1048576.5 and 1048576.75
abbrev bits2_5 : ℕ
bits2_5 = 0x40200000

abbrev bits1048576_5 : ℕ
bits1048576_5 = 0x49800004

abbrev bits1048576_75 : ℕ
bits1048576_75 = 0x49800006

-- characters
abbrev c0 : ℕ
c0 = 48

abbrev c1 : ℕ
c1 = 49

abbrev c2 : ℕ
c2 = 50

abbrev c3 : ℕ
c3 = 51

abbrev c4 : ℕ
c4 = 52

abbrev c5 : ℕ
c5 = 53

abbrev c6 : ℕ
c6 = 54

abbrev c7 : ℕ
c7 = 55

abbrev c9 : ℕ
c9 = 57

abbrev c_a : ℕ
c_a = 65

abbrev c_c : ℕ
c_c = 67

abbrev c_d : ℕ
c_d = 68

abbrev c_e : ℕ
c_e = 69

abbrev c_f : ℕ
c_f = 70

abbrev ce : ℕ
ce = 101

-- the worked line and its answer, a field on each line
abbrev worked_line : List ℕ
worked_line =
    c0 ∷ c1
    ∷ c0 ∷ c2
    ∷ c0 ∷ c2
    ∷ c0 ∷ c0 ∷ c0 ∷ c3
    ∷ c0 ∷ c0 ∷ c0 ∷ c1
    ∷ c0 ∷ c2
    ∷ c7 ∷ c_f ∷ c_f ∷ c_f
    ∷ c0 ∷ c0 ∷ c0 ∷ c5
    ∷ c0 ∷ c0 ∷ c0 ∷ c0 ∷ c0 ∷ c0 ∷ c0 ∷ c3
    ∷ c_f ∷ c_f ∷ c_f ∷ c_f ∷ c_f ∷ c_f ∷ c_e ∷ c_c
    ∷ []

abbrev worked_answer : List ℕ
worked_answer =
    c0 ∷ c0
    ∷ c0 ∷ c0 ∷ c0 ∷ c6
    ∷ c_f ∷ c_f ∷ c_f ∷ c1
    ∷ c_f ∷ c_f ∷ c_d ∷ c_d
    ∷ c0 ∷ c0 ∷ c9 ∷ c6
    ∷ []

-- a line of so many digits, or its answer, written as one number
abbrev pub line : (digits number : ℕ) → List ℕ
line digits number = digits_of digits number

-- the text that answers a line
abbrev pub answer_to : List ℕ → List ℤ
answer_to line = naturals (line_text full_limits line)

-- the rows up to 8-PAM at g = 10
unfoldable pub early_cases : List Case
early_cases =
    case (naturals (gray_label 3 2)) (pos 0 ∷ pos 1 ∷ pos 1 ∷ [])
    ∷ case (naturals (gray_label 3 1)) (pos 0 ∷ pos 0 ∷ pos 1 ∷ [])
    ∷ case (differences pam8) (pos 1840 ∷ minus 280 ∷ minus 520 ∷ [])
    ∷ case (soft_values pam8) (pos 127 ∷ minus 35 ∷ minus 65 ∷ [])
    ∷ case (probed pam8) (pos 2 ∷ pos 4 ∷ pos 1 ∷ pos 3 ∷ [])
    ∷ []

-- 8-PAM at g = 0, which has no closed computation, since y is any sample
unfoldable pub silent_cases : ℤ → List Case
silent_cases y =
    case (soft_values (pam8_silent y)) (pos 0 ∷ pos 0 ∷ pos 0 ∷ [])
    ∷ case (probed (pam8_silent y)) (pos 0 ∷ pos 4 ∷ pos 2 ∷ pos 1 ∷ [])
    ∷ []

-- the rows behind it
unfoldable pub late_cases : List Case
late_cases =
    case (nearest pam2) (pos 0 ∷ [])
    ∷ case (soft_values pam2) (pos 0 ∷ [])
    ∷ case (nearest psk8) (pos 0 ∷ [])
    ∷ case (soft_values psk8) (pos 0 ∷ pos 261 ∷ pos 108 ∷ [])
    ∷ case (naturals (phase_counter 3 0 0 ∷ [])) (pos 7 ∷ [])
    ∷ case (probed psk8) (pos 0 ∷ pos 7 ∷ pos 2 ∷ pos 1 ∷ [])
    ∷ case (nearest psk16) (pos 1 ∷ [])
    ∷ case (answer_to worked_line) (naturals worked_answer)
    ∷ case (soft_values worked_frame) (minus 15 ∷ minus 35 ∷ pos 150 ∷ [])
    ∷ case (naturals (length (probe_list worked_frame) ∷ [])) (pos 6 ∷ [])
    ∷ case (differences pam2_twice) (pos 12 ∷ minus 12 ∷ [])
    ∷ case (soft_values pam2_twice) (pos 2 ∷ minus 2 ∷ [])
    ∷ case (converted 0 bits2_5) (pos 0 ∷ pos 2 ∷ [])
    ∷ case (converted 0 bits1048576_5) (pos 0 ∷ pos 1048576 ∷ [])
    ∷ case (converted 0 bits1048576_75) (pos 13 ∷ [])
    ∷ []

-- the table, in the order of the requirements, for every y of the row that has any
unfoldable pub cases : ℤ → List Case
cases y = early_cases ++ silent_cases y ++ late_cases

-- ---- further edges of binary32

-- minus zero, the least number above zero, the largest finite number, minus infinity and a NaN
abbrev minus_zero : ℕ
minus_zero = 0x80000000

abbrev least_number : ℕ
least_number = 1

abbrev largest_number : ℕ
largest_number = 0x7f7fffff

abbrev minus_infinity : ℕ
minus_infinity = 0xff800000

abbrev some_nan : ℕ
some_nan = 0x7fc00000

-- a soft value at the scale f, as the bits of its binary32 number
abbrev soft_bits : ℕ → ℤ → List ℤ
soft_bits f v = naturals (to_bits binary32 (soft_float f v) ∷ [])

unfoldable pub edges : List Case
edges =
    case (converted 20 minus_zero) (pos 0 ∷ pos 0 ∷ [])
    ∷ case (converted 20 least_number) (pos 0 ∷ pos 0 ∷ [])
    ∷ case (converted 0 largest_number) (pos 13 ∷ [])
    ∷ case (converted 0 minus_infinity) (pos 12 ∷ [])
    ∷ case (converted 0 some_nan) (pos 12 ∷ [])
    ∷ case (converted 21 some_nan) (pos 14 ∷ [])
    ∷ case (converted_pair 0 bits2_5 minus_zero) (pos 0 ∷ pos 2 ∷ pos 0 ∷ [])
    ∷ case (converted_pair 0 largest_number some_nan) (pos 13 ∷ [])
    ∷ case (converted_pair 0 some_nan largest_number) (pos 12 ∷ [])
    ∷ case (soft_bits 14 (pos 0)) (pos 0 ∷ [])
    ∷ case (soft_bits 1 (minus 3)) (pos 0xbfc00000 ∷ [])
    ∷ []

-- ---- further edges of lines: none, a header alone, one digit and one symbol too many, a lower-case digit, and gain 4096
abbrev with_gain : ℕ → List ℕ
with_gain g = take 20 worked_line ++ (g ∷ c0 ∷ c0 ∷ c0 ∷ []) ++ drop 24 worked_line

unfoldable pub line_edges : List Case
line_edges =
    case (answer_to []) (naturals (c0 ∷ c1 ∷ []))
    ∷ case (answer_to (take 20 worked_line)) (naturals (c0 ∷ c3 ∷ []))
    ∷ case (answer_to (c0 ∷ c4 ∷ drop 2 (take 20 worked_line))) (naturals (c0 ∷ c4 ∷ []))
    ∷ case (answer_to (worked_line ++ (c0 ∷ []))) (naturals (c0 ∷ c1 ∷ []))
    ∷ case (answer_to (worked_line ++ drop 20 worked_line)) (naturals (c0 ∷ c3 ∷ []))
    ∷ case (answer_to (ce ∷ drop 1 worked_line)) (naturals (c0 ∷ c2 ∷ []))
    ∷ case (answer_to (with_gain c1)) (naturals (c0 ∷ c_a ∷ []))
    ∷ []
