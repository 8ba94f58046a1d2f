-- What has to hold of each modulation of specs/Schemes, and all that crate frame knows of one: its parts are shown, its counts are those of its
-- parts, its order sent is a rearrangement, and its noise-free samples are in range and are read back. Assumes nothing.
use mathlib.Core.Path.{◌≡◌, refl, sym, ap, ◌∙◌}
use mathlib.Core.Bool.{Bool, true, false, cond}
use mathlib.Core.List.{List, append-nil, flat_map}
use Prim.Native.Nat.{ℕ, zero, suc, ◌+◌, ◌*◌, ◌/◌, ◌%◌, ◌^◌, ◌≤◌, ◌<◌}
use native.Mathlib.Nat.{mul-le-mul, mul-le-mul_right, mul_comm, zero-mul, suc-mul, two-mul, add-zero, div-eq_of_lt, mod-eq_of_lt, mul-add-div_right, mul-add-mod_self_right, div-add-mod', mod-lt, div-lt_iff_lt-mul}
use native.Mathlib.Omega.{arith}
use lib.IntN.{ℤ, pos, nat_abs, ◌*ℤ◌}
use lib.ListN.{length, get_or, length-append, take-append-drop}
use lib.Pow.{pow_mono}
use Rattle.arithmetic.specs.Lists.{first}
use Rattle.arithmetic.proofs.Lists.{get_or_first}
use Rattle.arithmetic.proofs.Ranges.{abs-mul}
use Rattle.constellation.specs.declared.Modulation.{Modulation}
use Rattle.constellation.specs.declared.Modulation.TheVariants.{Pam, Qam, Psk, Cellular}
use Rattle.constellation.specs.Ranges.{max_axis_bits, max_symbol_bits, max_symbol_probes, max_gain, max_sample}
use Rattle.constellation.specs.Gray.{Label, complement, index_of_label}
use Rattle.constellation.specs.Levels.{level}
use Rattle.constellation.specs.Psk.{psk_halves, psk_point, psk_fraction_bits}
use Rattle.constellation.specs.Parts.{Part, complemented, part_label, part_hard, gray_part, axis, phase}
use Rattle.constellation.specs.Shown.{Shown, AllShown, none, more}
use Rattle.constellation.specs.Schemes.{ModulationInRange, Inverse, by_columns, symbol_parts, bits_per_symbol, probes_per_symbol, sent_place, label_place, has_quadrature, quadrature_length, fraction_bits, sample_i, sample_q}
use Rattle.constellation.proofs.Labels.{label_take, label_drop, label_complement, label_index_below}
use Rattle.constellation.proofs.Levels.{level-size}
use Rattle.constellation.proofs.PskTables.{psk_size}
use Rattle.constellation.proofs.Shown.{axis_shown, phase_shown, complemented_shown, axis_bits, phase_bits, complemented_bits, axis_probes, phase_probes, complemented-probed}
use Rattle.constellation.proofs.OwnNearest.{axis_own_nearest, phase_own_nearest}

-- ---- its parts are shown

pub symbol_shown : (q : Modulation) → ModulationInRange q → (g : ℕ) (y_i y_q : ℤ) → AllShown (symbol_parts q g y_i y_q)
unfolding symbol_parts
symbol_shown (Pam m) ok g y_i y_q = more (axis_shown m g y_i) none
symbol_shown (Qam m_i m_q) ok g y_i y_q = more (axis_shown m_i g y_i) (more (axis_shown m_q g y_q) none)
symbol_shown (Psk m) ok g y_i y_q = more (phase_shown m g y_i y_q ok.0 (omega arith)) none
symbol_shown (Cellular m) ok g y_i y_q = more (complemented_shown (axis_shown m g y_i)) (more (complemented_shown (axis_shown m g y_q)) none)

-- ---- its counts are those of its parts

module _ {B : Type 0} (h : Part → List B) where
  -- a list with as many entries for each part as it has bits
  pub symbol_bits : ((p : Part) → length (h p) ≡ p.bits) → (q : Modulation) (g : ℕ) (y_i y_q : ℤ)
      → length (flat_map h (symbol_parts q g y_i y_q)) ≡ bits_per_symbol q
  unfolding symbol_parts flat_map bits_per_symbol
  symbol_bits e (Pam m) g y_i y_q = simp (length-append, e, axis_bits) (omega arith)
  symbol_bits e (Qam m_i m_q) g y_i y_q = simp (length-append, e, axis_bits) (omega arith)
  symbol_bits e (Psk m) g y_i y_q = simp (length-append, e, phase_bits) (omega arith)
  symbol_bits e (Cellular m) g y_i y_q = simp (length-append, e, complemented_bits, axis_bits) (omega arith)

  -- as it has probes
  pub symbol_probes : ((p : Part) → length (h p) ≡ length p.probed) → (q : Modulation) (g : ℕ) (y_i y_q : ℤ)
      → length (flat_map h (symbol_parts q g y_i y_q)) ≡ probes_per_symbol q
  unfolding symbol_parts flat_map probes_per_symbol
  symbol_probes e (Pam m) g y_i y_q = simp (length-append, e, axis_probes) (omega arith)
  symbol_probes e (Qam m_i m_q) g y_i y_q = simp (length-append, e, axis_probes) (omega arith)
  symbol_probes e (Psk m) g y_i y_q = simp (length-append, e, phase_probes) (omega arith)
  symbol_probes e (Cellular m) g y_i y_q = simp (length-append, e, complemented-probed, axis_probes) (omega arith)

-- and within what buffers are made for
pub bits_above_zero : (q : Modulation) → ModulationInRange q → 0 < bits_per_symbol q
unfolding bits_per_symbol
bits_above_zero (Pam m) ok = omega arith
bits_above_zero (Qam m_i m_q) ok = omega arith
bits_above_zero (Psk m) ok = omega arith
bits_above_zero (Cellular m) ok = omega arith

pub bits_few : (q : Modulation) → ModulationInRange q → bits_per_symbol q ≤ max_symbol_bits
unfolding bits_per_symbol
bits_few (Pam m) ok = omega arith
bits_few (Qam m_i m_q) ok = omega arith
bits_few (Psk m) ok = omega arith
bits_few (Cellular m) ok = omega arith

pub probes_few : (q : Modulation) → ModulationInRange q → probes_per_symbol q ≤ max_symbol_probes
unfolding probes_per_symbol
probes_few (Pam m) ok = omega arith
probes_few (Qam m_i m_q) ok = omega arith
probes_few (Psk m) ok = omega arith
probes_few (Cellular m) ok = omega arith

pub fraction_few : (q : Modulation) → fraction_bits q ≤ psk_fraction_bits
unfolding fraction_bits
fraction_few (Pam m) = omega arith
fraction_few (Qam m_i m_q) = omega arith
fraction_few (Psk m) = omega arith
fraction_few (Cellular m) = omega arith

-- ---- of y_q it has as many samples as of y_i, or none

module _ (q : Modulation) (n : ℕ) where
  pub quadrature_few : quadrature_length q n ≤ n
  unfolding quadrature_length
  quadrature_few = go (has_quadrature q)
    where
      go : (b : Bool) → cond b n 0 ≤ n
      go false = omega arith
      go true = omega arith

  pub quadrature_all : (quadrature_length q n ≡ 0 → ⊥) → quadrature_length q n ≡ n
  unfolding quadrature_length
  quadrature_all = go (has_quadrature q)
    where
      go : (b : Bool) → (cond b n 0 ≡ 0 → ⊥) → cond b n 0 ≡ n
      go false some = absurd (some refl)
      go true some = refl

-- ---- its order sent is a rearrangement

-- label by label
same_inverse : {n : ℕ} → Inverse n (λ j. j) (λ k. k)
same_inverse = record { to_below = λ i h. h; back_below = λ i h. h; back_to = λ i h. refl; to_back = λ i h. refl }

-- by turns: column c of row r is place r·n + c, counted row by row
module _ (n m : ℕ) where
  pub by_columns_at : (r c : ℕ) → c < n → by_columns n m (r * n + c) ≡ c * m + r
  unfolding by_columns
  by_columns_at r c h =
      let p : 0 < n = omega arith in
      rw (mul-add-div_right p r c, mul-add-mod_self_right r n c, div-eq_of_lt h, mod-eq_of_lt h, add-zero)

-- the row and the column of a place
module _ (n m : ℕ) {j : ℕ} (h : j < n * m) where
  columns : 0 < n
  columns = go n h
    where
      go : (n : ℕ) → j < n * m → 0 < n
      go zero h = absurd (omega (arith, rw zero-mul at h))
      go (suc n) h = omega arith

  row_below : j / n < m
  row_below = (div-lt_iff_lt-mul columns).1 (rw mul_comm h)

  by_columns_below : by_columns n m j < n * m
  unfolding by_columns
  by_columns_below = omega (arith, row_below, mul-le-mul_right m (mod-lt j columns), suc-mul (j % n) m)

  by_columns_back : by_columns m n (by_columns n m j) ≡ j
  by_columns_back =
      let at = by_columns_at n m (j / n) (j % n) (mod-lt j columns) in
      ap (λ i. by_columns m n (by_columns n m i)) (sym (div-add-mod' j n)) ∙ rw (at, by_columns_at m n (j % n) (j / n) row_below) (div-add-mod' j n)

pub order_inverse : (q : Modulation) → Inverse (bits_per_symbol q) (sent_place q) (label_place q)
unfolding bits_per_symbol sent_place label_place
order_inverse (Pam m) = same_inverse
order_inverse (Qam m_i m_q) = same_inverse
order_inverse (Psk m) = same_inverse
order_inverse (Cellular m) =
    record {
      to_below = λ i h. by_columns_below 2 m h;
      back_below = λ i h. rw mul_comm (by_columns_below m 2 (rw mul_comm h));
      back_to = λ i h. by_columns_back 2 m h;
      to_back = λ i h. by_columns_back m 2 (rw mul_comm h);
    }

-- ---- its costs are in units of 2 ^ −e

-- PSK: the point of two at 90 degrees has v = 1, which is 2 ^ e units
pub psk_unit : (m : ℕ) → (psk_point 1 0).v ≡ pos (2 ^ fraction_bits (Psk m))
unfolding fraction_bits psk_point psk_halves
psk_unit m = refl

-- ---- its noise-free samples

-- of y_q there are as many as the modulation has; behind them a sample is 0
pub quadrature_entry : (q : Modulation) (g : ℕ) (labels : ℕ → List ℕ) (n i : ℕ) → i < n
    → get_or (first (λ j. sample_q q g (labels j)) (quadrature_length q n)) i (pos 0) ≡ sample_q q g (labels i)
unfolding has_quadrature quadrature_length sample_q first
quadrature_entry (Pam m) g labels n i h = refl
quadrature_entry (Qam m_i m_q) g labels n i h = get_or_first (λ j. sample_q (Qam m_i m_q) g (labels j)) n i (pos 0) h
quadrature_entry (Psk m) g labels n i h = get_or_first (λ j. sample_q (Psk m) g (labels j)) n i (pos 0) h
quadrature_entry (Cellular m) g labels n i h = get_or_first (λ j. sample_q (Cellular m) g (labels j)) n i (pos 0) h

-- those of PSK are (u, v) itself, whatever the gain
pub psk_sample_any_gain : (m g h : ℕ) (labels : List ℕ)
    → (sample_i (Psk m) g labels ≡ sample_i (Psk m) h labels) × (sample_q (Psk m) g labels ≡ sample_q (Psk m) h labels)
unfolding sample_i sample_q
psk_sample_any_gain m g h labels = (refl, refl)

-- a label is read back where its index is nearest
part_read_back : {p : Part} {label : List ℕ} → Shown p → Label p.bits label → p.nearest ≡ p.index label → part_hard p ≡ label
unfolding part_hard
part_read_back {p} {label} s l e = ap (part_label p) e ∙ s.label_of_index label l

axis_read_back : (m g : ℕ) {label : List ℕ} → 0 < g → Label m label → part_hard (axis m g (pos g *ℤ level m (index_of_label label))) ≡ label
unfolding axis gray_part
axis_read_back m g h l = part_read_back (axis_shown m g _) l (axis_own_nearest m g _ h (label_index_below l))

cellular_read_back : (m g : ℕ) {label : List ℕ} → 0 < g → Label m label
    → part_hard (complemented (axis m g (pos g *ℤ level m (index_of_label (complement label))))) ≡ label
unfolding complemented axis gray_part
cellular_read_back m g h l = part_read_back (complemented_shown (axis_shown m g _)) l (axis_own_nearest m g _ h (label_index_below (label_complement l)))

phase_read_back : (m g : ℕ) {label : List ℕ} → 0 < g → 0 < m → m < 5 → Label m label
    → let at = psk_point m (index_of_label label) in part_hard (phase m g at.u at.v) ≡ label
unfolding phase gray_part
phase_read_back m g h low high l = part_read_back (phase_shown m g _ _ low high) l (phase_own_nearest m g _ h low high (label_index_below l))

-- at any gain but 0 the labels are read back from them
pub symbol_read_back : (q : Modulation) (g : ℕ) {labels : List ℕ} → ModulationInRange q → 0 < g → Label (bits_per_symbol q) labels
    → flat_map part_hard (symbol_parts q g (sample_i q g labels) (sample_q q g labels)) ≡ labels
unfolding bits_per_symbol symbol_parts sample_i sample_q flat_map
symbol_read_back (Pam m) g {labels} ok h l = rw (axis_read_back m g h l) (append-nil labels)
symbol_read_back (Qam m_i m_q) g {labels} ok h l =
    rw (axis_read_back m_i g h (label_take m_i m_q l), axis_read_back m_q g h (label_drop m_i m_q l), append-nil) (take-append-drop m_i labels)
symbol_read_back (Psk m) g {labels} ok h l = rw (phase_read_back m g h (omega arith) (omega arith) l) (append-nil labels)
symbol_read_back (Cellular m) g {labels} ok h l =
    let both : Label (m + m) labels = rw two-mul at l in
    rw (cellular_read_back m g h (label_take m m both), cellular_read_back m g h (label_drop m m both), append-nil) (take-append-drop m labels)

pub label_level-size : {m : ℕ} {label : List ℕ} → Label m label → m ≤ max_axis_bits → nat_abs (level m (index_of_label label)) ≤ 63
label_level-size {m} {label} l few = omega (arith, level-size m (index_of_label label) (label_index_below l), pow_mono {j = 6} few)

axis_sample_size : {m : ℕ} {label : List ℕ} → Label m label → (g : ℕ) → g ≤ max_gain → m ≤ max_axis_bits
    → nat_abs (pos g *ℤ level m (index_of_label label)) ≤ max_sample
axis_sample_size l g h b = rw abs-mul (omega (arith, mul-le-mul h (label_level-size l b)))

-- they are in the range of samples
pub sample_size : (q : Modulation) (g : ℕ) {labels : List ℕ} → ModulationInRange q → g ≤ max_gain → Label (bits_per_symbol q) labels
    → (nat_abs (sample_i q g labels) ≤ max_sample) × (nat_abs (sample_q q g labels) ≤ max_sample)
unfolding bits_per_symbol sample_i sample_q
sample_size (Pam m) g ok h l = (axis_sample_size l g h ok.1, omega arith)
sample_size (Qam m_i m_q) g ok h l = (axis_sample_size (label_take m_i m_q l) g h ok.1, axis_sample_size (label_drop m_i m_q l) g h ok.3)
sample_size (Psk m) g {labels} ok h l = omega (arith, psk_size m (index_of_label labels) ok.0 (omega arith) (label_index_below l))
sample_size (Cellular m) g {labels} ok h l =
    let both : Label (m + m) labels = rw two-mul at l in
    let few : m ≤ max_axis_bits = omega (arith, ok.1) in
    (axis_sample_size (label_complement (label_take m m both)) g h few, axis_sample_size (label_complement (label_drop m m both)) g h few)
