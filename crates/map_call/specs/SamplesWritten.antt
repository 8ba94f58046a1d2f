-- What writing the samples of a message leaves. Nobody has to believe this file to read what the mapping call promises (crate frame, specs/Promise).
-- Assumes nothing.
use Rattle.std.specs.Prelude.{◌≡◌, List, ℕ, ◌+◌, ◌*◌, false, ℤ, pos, ◌*ℤ◌}
use Rattle.arithmetic.specs.Lists.{over}
use Rattle.constellation.specs.Gray.{index_of_label}
use Rattle.constellation.specs.Levels.{level}
use Rattle.constellation.specs.Psk.{Point, psk_point}
use Rattle.constellation.specs.Schemes.{bits_per_symbol}
use Rattle.points.specs.declared.label.LabelLayout.{LabelLayout}
use Rattle.points.specs.LabelWithin.{label_within}
use Rattle.frame.specs.Verdicts.{Passed}
use Rattle.frame.specs.Limits.{full_limits}
use Rattle.frame.specs.Mapping.{Message, message_symbols, mapped_i, mapped_q, map_verdict}
use Rattle.map_checks.specs.declared.message.CheckedMessage.{CheckedMessage}
use Rattle.map_checks.specs.Checked.{IsMessage}

-- a message that passes its checks, with the buffers that are lent
abbrev pub Mappable : CheckedMessage → (lent_i lent_q : List ℤ) → Type 0
Mappable checked lent_i lent_q = (m : Message) × IsMessage m checked × (map_verdict full_limits m lent_i lent_q ≡ Passed)

-- the sample of symbol n on an axis whose labels stand so
abbrev pub axis_sample : CheckedMessage → LabelLayout → (n : ℕ) → ℤ
axis_sample c l n =
    pos c.gain *ℤ level l.bits (index_of_label (label_within c.bits.bytes.now (n * bits_per_symbol c.setup.modulation + l.skip) l.apart l.turned l.bits))

-- the point of symbol n of PSK, whose symbols have m bits
abbrev pub phase_point : List ℕ → (m n : ℕ) → Point
phase_point bits m n = psk_point m (index_of_label (label_within bits (n * m) 1 false m))

-- the samples of a message over the start of the buffers, and the number of its symbols
pub record SamplesWritten (m : Message) (lent_i lent_q out_i out_q : List ℤ) (symbols : ℕ) : Type 0 where
  pub in_phase : out_i ≡ over lent_i 0 (mapped_i m)
  pub quadrature : out_q ≡ over lent_q 0 (mapped_q m)
  pub counted : symbols ≡ message_symbols m
