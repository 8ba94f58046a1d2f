-- Mapping bits to noise-free samples (REQUIREMENTS, "Frames" and "Refusals"). Assumes nothing.
use Rattle.std.specs.Prelude.{not, ◌||◌, List, [], ◌∷◌, ◌++◌, ℕ, ◌+◌, ◌*◌, ltb, ℤ, length, get_or, Result, Ok, Err}
use Rattle.arithmetic.specs.Lists.{first}
use Rattle.arithmetic.specs.Tests.{all_below}
use Rattle.constellation.specs.declared.Modulation.{Modulation}
use Rattle.constellation.specs.Ranges.{max_gain}
use Rattle.constellation.specs.Schemes.{bits_per_symbol, label_place, quadrature_length, sample_i, sample_q}
use Rattle.frame.specs.declared.MessageBits.{MessageBits}
use Rattle.frame.specs.declared.Refusal.{Refusal}
use Rattle.frame.specs.declared.Refusal.TheVariants.{Gain, BitByte, OutputTooShort}
use Rattle.frame.specs.Verdicts.{Verdict, Passed}
use Rattle.frame.specs.declared.Limits.{Limits}
use Rattle.frame.specs.Frame.{Frame, header_from, modulation_of, symbols_for}
use Rattle.frame.specs.Checks.{Check, check, verdict_of, modulation_checks}

-- what is handed in: the modulation's numbers, one gain, and the payload's bits
pub record Message : Type 0 where
  pub kind : ℕ
  pub bits_i : ℕ
  pub bits_q : ℕ
  pub gain : ℕ
  pub bits : List ℕ

abbrev pub message_from : ℕ → ℕ → ℕ → ℕ → List ℕ → Message
message_from k i q g b = record { kind = k; bits_i = i; bits_q = q; gain = g; bits = b }

abbrev pub message_of : MessageBits → Message
message_of m = message_from m.kind m.bits_i m.bits_q m.gain m.bits.now

abbrev pub message_modulation : Message → Modulation
message_modulation m = modulation_of m.kind m.bits_i m.bits_q

unfoldable pub message_symbols : Message → ℕ
message_symbols m = symbols_for (bits_per_symbol (message_modulation m)) (length m.bits)

-- the labels of symbol n: its share of the bits, with 0 for padding, label by label
unfoldable pub symbol_label : Message → ℕ → List ℕ
symbol_label m n =
    let b = bits_per_symbol (message_modulation m) in
    first (λ k. get_or m.bits (n * b + label_place (message_modulation m) k) 0) b

unfoldable pub mapped_i : Message → List ℤ
mapped_i m = first (λ n. sample_i (message_modulation m) m.gain (symbol_label m n)) (message_symbols m)

unfoldable pub mapped_q : Message → List ℤ
mapped_q m =
    first (λ n. sample_q (message_modulation m) m.gain (symbol_label m n))
    (quadrature_length (message_modulation m) (message_symbols m))

-- the order for mapping: 4, 5, 6, 10, 17, 15, the symbol's number always 0
unfoldable pub map_checks : Limits → Message → ℕ → ℕ → List Check
map_checks limits m room_i room_q =
    modulation_checks limits m.kind m.bits_i m.bits_q (length m.bits)
    ++ (check (ltb max_gain m.gain) Gain
    ∷ check (not (all_below (length m.bits) (λ i. ltb (get_or m.bits i 0) 2))) BitByte
    ∷ check (ltb room_i (length (mapped_i m)) || ltb room_q (length (mapped_q m))) OutputTooShort
    ∷ [])

unfoldable pub map_verdict : Limits → Message → List ℤ → List ℤ → Verdict
map_verdict limits m lent_i lent_q = verdict_of (map_checks limits m (length lent_i) (length lent_q))

-- the answer: the refusal, or the number of symbols
unfoldable pub map_answer_for : Verdict → Message → Result ℕ Refusal
map_answer_for Passed m = Ok (message_symbols m)
map_answer_for (Err fault) m = Err fault.refusal

unfoldable pub map_answer : Limits → Message → List ℤ → List ℤ → Result ℕ Refusal
map_answer limits m lent_i lent_q = map_answer_for (map_verdict limits m lent_i lent_q) m

-- the plain frame that reads a mapped message back, at the gain that it was mapped with
unfoldable pub read_back : Message → ℕ → ℕ → ℕ → Frame
read_back m w s T =
    record {
      header = header_from m.kind m.bits_i m.bits_q (length m.bits) w s T;
      gains = first (λ n. m.gain) (message_symbols m);
      weights = [];
      y_i = mapped_i m;
      y_q = mapped_q m;
    }
