-- N of a bit, as its own part has it, is the difference of least costs over all points of the symbol (REQUIREMENTS, "Soft values"; 001, equation 2).
-- The labels of a symbol's points are its candidate words, at the same cost, so this is the frame theorem for one symbol. Assumes nothing.
use mathlib.Core.Path.{◌≡◌, refl, sym, ap₂, ◌∙◌}
use mathlib.Core.List.{List, [], ◌∷◌, ◌++◌, map, flat_map, map-append}
use Prim.Native.Nat.{ℕ, ◌<◌}
use native.Mathlib.Omega.{arith}
use lib.IntN.{ℤ, pos, ◌+ℤ◌, ◌*ℤ◌, +ℤ_idr}
use lib.ListN.{get_or, take, drop, take-append-drop}
use Rattle.arithmetic.specs.Least.{Least}
use Rattle.arithmetic.specs.Lists.{first}
use Rattle.arithmetic.proofs.Lists.{length_first, first_cong, map_first}
use Rattle.constellation.specs.declared.Modulation.{Modulation}
use Rattle.constellation.specs.declared.Modulation.TheVariants.{Qam}
use Rattle.constellation.specs.Levels.{axis_cost}
use Rattle.constellation.specs.Parts.{Part, part_label, part_hard, gray_part, axis}
use Rattle.constellation.specs.Schemes.{ModulationInRange, symbol_parts, bits_per_symbol}
use Rattle.constellation.specs.Shown.{AllShown, none, more}
use Rattle.constellation.proofs.Labels.{label_append, label_take, label_drop}
use Rattle.constellation.proofs.Schemes.{symbol_shown, symbol_bits}
use Rattle.demapper.specs.Soft.{Scale}
use Rattle.demapper.specs.Soft.{cost_difference, soft_value}
use Rattle.demapper.specs.Reading.{part_soft}
use Rattle.frame.specs.Points.{PointOf, none as no-point, more as more-point, point_cost, point_label, PointWith, bit_differences, DifferenceOverPoints}
use Rattle.frame.specs.Words.{WordPart, word_part, word_length, CandidateWord, CandidateWith, word_cost}
use Rattle.frame.proofs.Weighed.{Weighed, parts_in, words_of, weighed, parts_of_weighed, weighed_entries, weighed_once}
use Rattle.frame.proofs.Words.{none as no_word, cost_cons, best_word_candidate}
use Rattle.frame.proofs.Located.{Located, located}
use Rattle.frame.proofs.ShownWords.{nearest_labels_fill, words_at}

-- ---- points and candidate words, of parts that count once

abbrev words_once : List Part → List WordPart
words_once parts = words_of (weighed 1 parts)

-- the label of a point is a candidate word
point_candidate : {parts : List Part} {point : List ℕ} → AllShown parts → PointOf parts point → CandidateWord (words_once parts) (point_label parts point)
unfolding point_label words_of weighed word_part word_length
point_candidate none no-point = best_word_candidate no_word
point_candidate (more s rest) (more-point {k} h ks) = label_append (s.labels k h) (point_candidate rest ks)

-- of the same cost
point_word_cost : {parts : List Part} {point : List ℕ} → AllShown parts → PointOf parts point
    → word_cost (words_once parts) (point_label parts point) ≡ point_cost parts point
unfolding point_cost point_label words_of weighed word_part word_cost
point_word_cost none no-point = refl
point_word_cost (more {p} {ps} s rest) (more-point {k} h ks) =
    cost_cons (word_part 1 p) (words_once ps) _ (s.labels k h) ∙ rw (s.index_of_label k h, weighed_once (p.cost k), point_word_cost rest ks)

-- and each candidate word is the label of a point
point_of_word : {parts : List Part} → AllShown parts → (word : List ℕ) → CandidateWord (words_once parts) word
    → (point : List ℕ) × PointOf parts point × (point_label parts point ≡ word)
unfolding point_label words_of weighed word_part word_length
point_of_word none [] c = ([], no-point, refl)
point_of_word none (b ∷ word) c = absurd (omega (arith, c.fills))
point_of_word (more {p} s rest) word c =
    let front = label_take p.bits _ c in
    let (ks, in_symbol, e) = point_of_word rest (drop p.bits word) (label_drop p.bits _ c) in
    (p.index (take p.bits word) ∷ ks, more-point (s.indices _ front) in_symbol, rw (s.label_of_index _ front, e) (take-append-drop p.bits word))

-- so the least cost with a bit given is the same over both
least_point : {parts : List Part} → AllShown parts → {i β : ℕ} {v : ℤ} → Least (CandidateWith (words_once parts) i β) (word_cost (words_once parts)) v
    → Least (PointWith parts i β) (point_cost parts) v
least_point s l =
    let (point, in_symbol, e) = point_of_word s l.best l.member.candidate in
    record {
      best = point;
      member = record { in_symbol = in_symbol; bit = rw e l.member.given };
      attained = sym (point_word_cost s in_symbol) ∙ rw e l.attained;
      bound = λ point m. rw (point_word_cost s m.in_symbol) at (l.bound _ (record { candidate = point_candidate s m.in_symbol; given = m.bit }));
    }

-- ---- N over all points

-- the parts of a symbol, and their differences, are the same where they count once
once_shown : {parts : List Part} → AllShown parts → AllShown (parts_in (weighed 1 parts))
once_shown {parts} s = rw (parts_of_weighed 1 parts) s

differences_once : (ps : List Part) → flat_map (λ p. first (λ i. pos 1 *ℤ cost_difference p i) p.bits) ps ≡ flat_map (λ p. first (cost_difference p) p.bits) ps
unfolding flat_map
differences_once [] = refl
differences_once (p ∷ ps) = ap₂ ◌++◌ (first_cong _ _ p.bits (λ i h. weighed_once (cost_difference p i))) (differences_once ps)

once_differences : (parts : List Part)
    → flat_map (λ (x : Weighed). first (λ i. pos x.weight *ℤ cost_difference x.part i) x.part.bits) (weighed 1 parts) ≡ flat_map (λ p. first (cost_difference p) p.bits) parts
once_differences parts = weighed_entries _ 1 parts ∙ differences_once parts

pub difference_over_points : {parts : List Part} → AllShown parts → (i : ℕ) → i < word_length (words_once parts)
    → DifferenceOverPoints parts i (get_or (bit_differences parts) i (pos 0))
unfolding bit_differences
difference_over_points {parts} s i h =
    let at : Located (weighed 1 parts) i = located (weighed 1 parts) (once_shown s) i h in
    let words = words_at (once_shown s) at in
    record {
      one = words.one;
      zero = words.zero;
      one_least = least_point s words.one_least;
      zero_least = least_point s words.zero_least;
      difference = rw (once_differences parts) at (at.entry (λ x i. pos x.weight *ℤ cost_difference x.part i)) ∙ sym words.difference;
    }

-- for each bit of a symbol of any modulation
pub symbol_difference_over_points : (q : Modulation) → ModulationInRange q → (g : ℕ) (y_i y_q : ℤ) (i : ℕ) → i < bits_per_symbol q
    → DifferenceOverPoints (symbol_parts q g y_i y_q) i (get_or (bit_differences (symbol_parts q g y_i y_q)) i (pos 0))
unfolding part_hard part_label
symbol_difference_over_points q ok g y_i y_q i h =
    let s = symbol_shown q ok g y_i y_q in
    difference_over_points s i (rw (nearest_labels_fill _ (once_shown s), parts_of_weighed, symbol_bits part_hard (λ p. length_first _ p.bits) q g y_i y_q) h)

-- which is what the soft values are made of
pub softs_of_differences : (scale : Scale) (parts : List Part)
    → flat_map (part_soft scale) parts ≡ map (soft_value scale.weight scale.shift scale.limit) (bit_differences parts)
unfolding flat_map bit_differences part_soft
softs_of_differences scale [] = refl
softs_of_differences scale (p ∷ ps) = rw (map-append, map_first, softs_of_differences scale ps)

-- the cost of a point of QAM is the sum of the squares on both axes
pub qam_point_cost : (m_i m_q g : ℕ) (y_i y_q : ℤ) (k_i k_q : ℕ)
    → point_cost (symbol_parts (Qam m_i m_q) g y_i y_q) (k_i ∷ k_q ∷ []) ≡ axis_cost m_i g y_i k_i +ℤ axis_cost m_q g y_q k_q
unfolding point_cost symbol_parts axis gray_part
qam_point_cost m_i m_q g y_i y_q k_i k_q = rw +ℤ_idr
