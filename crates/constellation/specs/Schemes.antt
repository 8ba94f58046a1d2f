-- What each modulation is (REQUIREMENTS, "Points and labels", "Words", "Probes", "Soft values" and "Frames"), in one place.
-- What has to hold of it is proofs/Schemes. Assumes nothing.
use Rattle.std.specs.Prelude.{◌≡◌, Bool, true, false, cond, List, [], ◌∷◌, ℕ, ◌+◌, ◌*◌, ◌/◌, ◌%◌, ◌≤◌, ◌<◌, ℤ, pos, ◌*ℤ◌, take, drop}
use Rattle.constellation.specs.declared.Modulation.{Modulation}
use Rattle.constellation.specs.declared.Modulation.TheVariants.{Pam, Qam, Psk, Cellular}
use Rattle.constellation.specs.Ranges.{max_axis_bits, max_phase_bits, max_cellular_bits}
use Rattle.constellation.specs.Gray.{complement, index_of_label}
use Rattle.constellation.specs.Levels.{level}
use Rattle.constellation.specs.Psk.{psk_point, psk_fraction_bits}
use Rattle.constellation.specs.Parts.{Part, complemented, axis, phase}

pub record Scheme : Type 0 where
  -- the parts of a symbol received at the gain g as the sample (y_i, y_q). Their labels stand one after the other.
  pub parts : ℕ → ℤ → ℤ → List Part
  -- how many bits, and how many probes, these have
  pub bits : ℕ
  pub probes : ℕ
  -- the order sent: place j of the symbol's word is place `sent j` of its labels, and their place k is place `label k` of the word
  pub sent : ℕ → ℕ
  pub label : ℕ → ℕ
  -- whether a symbol has a sample y_q
  pub quadrature : Bool
  -- e: costs are in units of 2 ^ −e
  pub fraction : ℕ
  -- the noise-free sample, by the gain, of the point with these labels
  pub sample_i : ℕ → List ℕ → ℤ
  pub sample_q : ℕ → List ℕ → ℤ

-- in a table of n columns and m rows: what is place j, counted row by row, is this place, counted column by column
unfoldable pub by_columns : (n m j : ℕ) → ℕ
by_columns n m j = j % n * m + j / n

-- PAM has one axis, QAM two, in-phase first, and PSK one phase. Bits are sent label by label. A noise-free sample is g·a on each axis, and
-- (u, v) itself for PSK. Cellular labels are those of QAM with as many bits on each axis, complemented, and the bits of the two axes are sent by turns: place 2i
-- of the word is bit i of the in-phase axis, and place 2i + 1 bit i of the quadrature axis.
unfoldable pub scheme : Modulation → Scheme
scheme (Pam m) =
    record {
      parts = λ g y_i y_q. axis m g y_i ∷ [];
      bits = m;
      probes = m + 1;
      sent = λ j. j;
      label = λ k. k;
      quadrature = false;
      fraction = 0;
      sample_i = λ g labels. pos g *ℤ level m (index_of_label labels);
      sample_q = λ g labels. pos 0;
    }
scheme (Qam m_i m_q) =
    record {
      parts = λ g y_i y_q. axis m_i g y_i ∷ axis m_q g y_q ∷ [];
      bits = m_i + m_q;
      probes = m_i + m_q + 2;
      sent = λ j. j;
      label = λ k. k;
      quadrature = true;
      fraction = 0;
      sample_i = λ g labels. pos g *ℤ level m_i (index_of_label (take m_i labels));
      sample_q = λ g labels. pos g *ℤ level m_q (index_of_label (drop m_i labels));
    }
scheme (Psk m) =
    record {
      parts = λ g y_i y_q. phase m g y_i y_q ∷ [];
      bits = m;
      probes = m + 1;
      sent = λ j. j;
      label = λ k. k;
      quadrature = true;
      fraction = psk_fraction_bits;
      sample_i = λ g labels. (psk_point m (index_of_label labels)).u;
      sample_q = λ g labels. (psk_point m (index_of_label labels)).v;
    }
scheme (Cellular m) =
    record {
      parts = λ g y_i y_q. complemented (axis m g y_i) ∷ complemented (axis m g y_q) ∷ [];
      bits = 2 * m;
      probes = 2 * m + 2;
      sent = by_columns 2 m;
      label = by_columns m 2;
      quadrature = true;
      fraction = 0;
      sample_i = λ g labels. pos g *ℤ level m (index_of_label (complement (take m labels)));
      sample_q = λ g labels. pos g *ℤ level m (index_of_label (complement (drop m labels)));
    }

-- the bit counts for which there is such a modulation: 1 to 6 on an axis, 1 to 4 of a phase, and 1 to 3 on an axis with cellular labels
abbrev pub ModulationInRange : Modulation → Type 0
ModulationInRange (Pam m) = (1 ≤ m) × (m ≤ max_axis_bits)
ModulationInRange (Qam m_i m_q) = (1 ≤ m_i) × (m_i ≤ max_axis_bits) × (1 ≤ m_q) × (m_q ≤ max_axis_bits)
ModulationInRange (Psk m) = (1 ≤ m) × (m ≤ max_phase_bits)
ModulationInRange (Cellular m) = (1 ≤ m) × (m ≤ max_cellular_bits)

-- places that are each other's inverse, as those of a symbol's word and of its labels are
pub record Inverse (n : ℕ) (to back : ℕ → ℕ) : Type 0 where
  pub to_below : (i : ℕ) → i < n → to i < n
  pub back_below : (i : ℕ) → i < n → back i < n
  pub back_to : (i : ℕ) → i < n → back (to i) ≡ i
  pub to_back : (i : ℕ) → i < n → to (back i) ≡ i

-- ---- the fields by their names

unfoldable pub symbol_parts : Modulation → ℕ → ℤ → ℤ → List Part
unfolding scheme
symbol_parts q g y_i y_q = (scheme q).parts g y_i y_q

unfoldable pub bits_per_symbol : Modulation → ℕ
unfolding scheme
bits_per_symbol q = (scheme q).bits

unfoldable pub probes_per_symbol : Modulation → ℕ
unfolding scheme
probes_per_symbol q = (scheme q).probes

unfoldable pub sent_place : Modulation → ℕ → ℕ
unfolding scheme
sent_place q j = (scheme q).sent j

unfoldable pub label_place : Modulation → ℕ → ℕ
unfolding scheme
label_place q k = (scheme q).label k

unfoldable pub has_quadrature : Modulation → Bool
unfolding scheme
has_quadrature q = (scheme q).quadrature

-- how many samples of y_q there are where there are n of y_i
unfoldable pub quadrature_length : Modulation → ℕ → ℕ
quadrature_length q n = cond (has_quadrature q) n 0

unfoldable pub fraction_bits : Modulation → ℕ
unfolding scheme
fraction_bits q = (scheme q).fraction

unfoldable pub sample_i : Modulation → ℕ → List ℕ → ℤ
unfolding scheme
sample_i q g labels = (scheme q).sample_i g labels

unfoldable pub sample_q : Modulation → ℕ → List ℕ → ℤ
unfolding scheme
sample_q q g labels = (scheme q).sample_q g labels
