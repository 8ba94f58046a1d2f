-- What mapping needs: labels of bits and padding, and how many samples a message has.
-- Assumes nothing.
use mathlib.Core.Path.{◌≡◌}
use mathlib.Core.List.{List}
use Prim.Native.Nat.{ℕ}
use lib.ListN.{length, get_or}
use Rattle.arithmetic.specs.Lists.{first}
use Rattle.arithmetic.proofs.Lists.{length_first, get_or_first}
use Rattle.constellation.specs.Gray.{AllBits, Label}
use Rattle.constellation.specs.Schemes.{quadrature_length}
use Rattle.constellation.proofs.Labels.{bit_below_lem}
use Rattle.frame.specs.Mapping.{Message, message_modulation, message_symbols, mapped_i, mapped_q}

-- ---- labels

pub label_at_lem : (bits : List ℕ) → AllBits bits → (place : ℕ → ℕ) (m : ℕ) → Label m (first (λ i. get_or bits (place i) 0) m)
label_at_lem bits all place m =
    let entry : ℕ → ℕ = λ i. get_or bits (place i) 0 in
    record {
      fills = length_first entry m;
      bits = record { bit = λ j h. rw (get_or_first entry m j 0 (rw length_first at h)) (bit_below_lem bits all (place j)) };
    }

-- ---- a message

pub length-mapped_i : (m : Message) → length (mapped_i m) ≡ message_symbols m
unfolding mapped_i
length-mapped_i m = length_first _ (message_symbols m)

pub length-mapped_q : (m : Message) → length (mapped_q m) ≡ quadrature_length (message_modulation m) (message_symbols m)
unfolding mapped_q
length-mapped_q m = length_first _ (quadrature_length (message_modulation m) (message_symbols m))
