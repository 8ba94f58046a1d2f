-- The frame theorem of Words for parts that are shown, whatever their weights: the labels of their nearest points make a best word, and the difference of a bit
-- over all words is N of its own part, multiplied by its weight. What this says of a frame is Demand3, and of a symbol's points, Points. Assumes nothing.
use mathlib.Core.Path.{◌≡◌, sym, ◌∙◌}
use mathlib.Core.List.{List, [], ◌∷◌, flat_map}
use Prim.Native.Nat.{ℕ, ◌<◌}
use lib.Dec.{lit<}
use lib.IntN.{ℤ, pos, ◌*ℤ◌}
use lib.ListN.{length, get_or}
use Rattle.arithmetic.specs.Least.{Least}
use Rattle.arithmetic.proofs.Lists.{get_or_first}
use Rattle.constellation.specs.Parts.{Part, part_label, part_hard}
use Rattle.constellation.specs.Shown.{IndexWith, Shown, AllShown, none, more}
use Rattle.demapper.specs.Soft.{least_with, cost_difference}
use Rattle.demapper.proofs.Difference.{least_by_bit}
use Rattle.frame.specs.Frame.{nearest_labels}
use Rattle.frame.specs.Words.{word_part, word_length}
use Rattle.frame.proofs.Weighed.{Weighed, parts_in, words_of, weighed_le, weighed_difference}
use Rattle.frame.proofs.Words.{LabelWith, BestWord, none as no_word, more as more-word, best_word_candidate, BitDifference, bit_difference}
use Rattle.frame.proofs.Located.{Located}

-- ---- the labels of a part

-- the least over the labels with a bit given is that over the indices with it
least_label : (w : ℕ) {p : Part} → Shown p → (t β : ℕ) {v : ℤ} → t < p.bits → Least (IndexWith p t β) p.cost v
    → Least (LabelWith (word_part w p) t β) (word_part w p).cost_of (pos w *ℤ v)
unfolding word_part part_label
least_label w {p} s t β h l =
    record {
      best = part_label p l.best;
      member = record { candidate = s.labels l.best l.member.below; given = label_bit_lem l.best ∙ l.member.bit };
      attained = rw (s.index_of_label l.best l.member.below, l.attained);
      bound = λ label m. weighed_le w (l.bound (p.index label) (record { below = s.indices label m.candidate; bit = sym (label_bit_lem (p.index label)) ∙ rw (s.label_of_index label m.candidate) m.given }));
    }
  where
    label_bit_lem : (k : ℕ) → get_or (part_label p k) t 0 ≡ p.bit t k
    label_bit_lem k = get_or_first (λ i. p.bit i k) p.bits t 0 h

-- ---- the labels of the nearest points

pub nearest_labels_best : (xs : List Weighed) → AllShown (parts_in xs) → BestWord (words_of xs) (nearest_labels (parts_in xs))
unfolding parts_in words_of nearest_labels part_hard flat_map word_part
nearest_labels_best [] none = no_word
nearest_labels_best (x ∷ xs) (more {p} s rest) =
    more-word {p = word_part x.weight p} (s.labels p.nearest s.nearest.below)
    (λ label l. rw (s.index_of_label p.nearest s.nearest.below) (weighed_le x.weight (s.nearest.least (p.index label) (s.indices label l))))
    (nearest_labels_best xs rest)

-- they are as long as any word
pub nearest_labels_fill : (xs : List Weighed) → AllShown (parts_in xs) → word_length (words_of xs) ≡ length (flat_map part_hard (parts_in xs))
unfolding nearest_labels
nearest_labels_fill xs s = sym (best_word_candidate (nearest_labels_best xs s)).fills

-- ---- one bit given

-- the difference over all words is that of the bit's own part
pub words_at : {xs : List Weighed} → AllShown (parts_in xs) → {i : ℕ} (at : Located xs i)
    → BitDifference (words_of xs) i (pos at.weight *ℤ cost_difference at.part at.bit)
unfolding cost_difference
words_at {xs} s at = rw (weighed_difference at.weight _ _) at (bit_difference (nearest_labels_best xs s) at.at (least 1 (lit< tt)) (least 0 (lit< tt)))
  where
    least : (β : ℕ) → β < 2 → Least (LabelWith (word_part at.weight at.part) at.bit β) (word_part at.weight at.part).cost_of (pos at.weight *ℤ least_with at.part at.bit β)
    least β l = least_label at.weight at.shown at.bit β at.inside (least_by_bit at.shown at.bit β at.inside l)
