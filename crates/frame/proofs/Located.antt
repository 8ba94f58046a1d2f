-- Where bit i of a frame's word stands: its part and its number there, its entry in a list with one entry a bit, and its part's probes in
-- the frame's list. Assumes nothing.
use mathlib.Core.Path.{◌≡◌, ap, ◌∙◌}
use mathlib.Core.List.{List, [], ◌∷◌, map, flat_map, map-append}
use Prim.Native.Nat.{ℕ, ◌+◌, ◌-◌, ◌≤◌, ◌<◌, zero-le}
use native.Mathlib.Decide.{dec_lt}
use native.Mathlib.Omega.{arith}
use borrow.Author.Tests.{lt-ltb, le-ltb}
use lib.IntN.{ℤ, pos}
use lib.ListN.{length, get_or, get_or-append, length-map}
use lib.Seq.{get_or-append-add}
use lib.Signed.{◌≤ℤ◌}
use Rattle.arithmetic.specs.Least.{Least}
use Rattle.arithmetic.specs.Lists.{first}
use Rattle.arithmetic.proofs.Lists.{length_first, get_or_first}
use Rattle.constellation.specs.Parts.{Part}
use Rattle.demapper.specs.Probes.{Probe, part_probes, probe_indices, probe_costs}
use Rattle.demapper.specs.Soft.{least_with}
use Rattle.constellation.specs.Shown.{probed_at, Shown, AllShown, more}
use Rattle.demapper.proofs.Probes.{PartProbeWith, probe_for, length-part_probes, indices_of_probes, cost_of_probe}
use Rattle.frame.specs.Words.{word_part, word_length}
use Rattle.frame.specs.Demand3.{Place, place_of, ProbeWith}
use Rattle.frame.proofs.Weighed.{Weighed, parts_in, words_of}
use Rattle.frame.proofs.Words.{PartAt, here, there}

-- the probes of a list of parts, by their two columns
abbrev pub indices_of : List Part → List ℕ
indices_of parts = probe_indices (flat_map part_probes parts)

abbrev pub cost_at : List Part → ℕ → ℤ
cost_at parts n = get_or (probe_costs (flat_map part_probes parts)) n (pos 0)

pub record Located (xs : List Weighed) (i : ℕ) : Type 0 where
  pub weight : ℕ
  pub part : Part
  pub bit : ℕ
  pub shown : Shown part
  pub inside : bit < part.bits
  pub at : PartAt (words_of xs) i (word_part weight part) bit
  -- the entry of the bit, in a list with one entry for each bit of each part
  pub entry : (h : Weighed → ℕ → ℤ) → get_or (flat_map (λ x. first (h x) x.part.bits) xs) i (pos 0) ≡ h (record { weight = weight; part = part }) bit
  -- the probe for β of the bit
  pub probe : (β : ℕ) → β < 2 → Least (ProbeWith (place_of (parts_in xs) i) (indices_of (parts_in xs)) β) (cost_at (parts_in xs)) (least_with part bit β)

-- ---- the columns of probes, part by part

module _ {B : Type 0} (h : Probe → B) (d : B) (p : Part) (ps : List Part) where
  -- an entry of the first part
  column_here : (n : ℕ) → n < length p.probed → get_or (map h (flat_map part_probes (p ∷ ps))) n d ≡ get_or (map h (part_probes p)) n d
  unfolding flat_map
  column_here n l =
      let e : length (map h (part_probes p)) ≡ length p.probed = length-map (part_probes p) h ∙ length-part_probes p in
      rw (map-append, get_or-append (map h (part_probes p)) (map h (flat_map part_probes ps)) d n (omega arith))

  -- an entry of the others
  column_there : (n : ℕ) → get_or (map h (flat_map part_probes (p ∷ ps))) (length p.probed + n) d ≡ get_or (map h (flat_map part_probes ps)) n d
  unfolding flat_map
  column_there n =
      let e : length (map h (part_probes p)) ≡ length p.probed = length-map (part_probes p) h ∙ length-part_probes p in
      rw (← e, map-append, get_or-append-add)

-- ---- the place, part by part

-- the place of bit i of the part p
abbrev within : Part → ℕ → Place
within p i = record { bit_of = p.bit i; probes_from = 0; probes_to = length p.probed }

place_here : (p : Part) (ps : List Part) (i : ℕ) → i < p.bits → place_of (p ∷ ps) i ≡ within p i
unfolding place_of
place_here p ps i l = rw (lt-ltb i p.bits l)

-- a place with the probes of the part p in front
abbrev behind : Part → Place → Place
behind p q = record { bit_of = q.bit_of; probes_from = length p.probed + q.probes_from; probes_to = length p.probed + q.probes_to }

place_there : (p : Part) (ps : List Part) (i : ℕ) → p.bits ≤ i → place_of (p ∷ ps) i ≡ behind p (place_of ps (i - p.bits))
unfolding place_of
place_there p ps i l = rw (le-ltb i p.bits l)

-- ---- the entry of a bit, part by part

module _ (h : Weighed → ℕ → ℤ) (x : Weighed) (xs : List Weighed) where
  abbrev entries : List Weighed → List ℤ
  entries ys = flat_map (λ y. first (h y) y.part.bits) ys

  abbrev bits : ℕ
  bits = x.part.bits

  entry_here : (i : ℕ) → i < bits → get_or (entries (x ∷ xs)) i (pos 0) ≡ h x i
  unfolding flat_map
  entry_here i l =
      let e : length (first (h x) bits) ≡ bits = length_first (h x) bits in
      rw (get_or-append (first (h x) bits) (entries xs) (pos 0) i (omega arith)) (get_or_first (h x) bits i (pos 0) l)

  entry_there : (i : ℕ) → bits ≤ i → get_or (entries (x ∷ xs)) i (pos 0) ≡ get_or (entries xs) (i - bits) (pos 0)
  unfolding flat_map
  entry_there i l =
      let e : i ≡ length (first (h x) bits) + (i - bits) = omega (arith, length_first (h x) bits) in
      ap (λ n. get_or (entries (x ∷ xs)) n (pos 0)) e ∙ get_or-append-add (first (h x) bits) (entries xs) (i - bits) (pos 0)

-- ---- the probe for β, in the first part or a later one

probe_here : {p : Part} → Shown p → (ps : List Part) (i β : ℕ) → i < p.bits → β < 2
    → Least (ProbeWith (place_of (p ∷ ps) i) (indices_of (p ∷ ps)) β) (cost_at (p ∷ ps)) (least_with p i β)
probe_here {p} r ps i β h l = rw (place_here p ps i h) least
  where
    own : Least (PartProbeWith p i β) (λ n. p.cost (probed_at p n)) (least_with p i β)
    own = probe_for r i β h l

    -- the two columns there
    index : (n : ℕ) → n < length p.probed → get_or (indices_of (p ∷ ps)) n 0 ≡ probed_at p n
    index n b = column_here (λ q. q.index) 0 p ps n b ∙ rw (indices_of_probes p)

    cost : (n : ℕ) → n < length p.probed → cost_at (p ∷ ps) n ≡ p.cost (probed_at p n)
    cost n b = column_here (λ q. q.cost) (pos 0) p ps n b ∙ cost_of_probe p n b

    to : {n : ℕ} → PartProbeWith p i β n → ProbeWith (within p i) (indices_of (p ∷ ps)) β n
    to {n} m = record { from = zero-le; to = m.below; label = rw (index n m.below) m.bit }

    back : {n : ℕ} → ProbeWith (within p i) (indices_of (p ∷ ps)) β n → PartProbeWith p i β n
    back {n} m = record { below = m.to; bit = rw (index n m.to) at m.label }

    least : Least (ProbeWith (within p i) (indices_of (p ∷ ps)) β) (cost_at (p ∷ ps)) (least_with p i β)
    least =
        record {
          best = own.best;
          member = to own.member;
          attained = cost own.best own.member.below ∙ own.attained;
          bound = λ n m. rw (cost n m.to) (own.bound n (back m));
        }

probe_there : (p : Part) (ps : List Part) (i β : ℕ) {v : ℤ} → p.bits ≤ i
    → Least (ProbeWith (place_of ps (i - p.bits)) (indices_of ps) β) (cost_at ps) v
    → Least (ProbeWith (place_of (p ∷ ps) i) (indices_of (p ∷ ps)) β) (cost_at (p ∷ ps)) v
probe_there p ps i β {v} h own = rw (place_there p ps i h) least
  where
    place : Place
    place = place_of ps (i - p.bits)

    to : {n : ℕ} → ProbeWith place (indices_of ps) β n → ProbeWith (behind p place) (indices_of (p ∷ ps)) β (length p.probed + n)
    to {n} m = record { from = omega (arith, m.from); to = omega (arith, m.to); label = rw (column_there (λ q. q.index) 0 p ps n) m.label }

    back : (n : ℕ) → ProbeWith (behind p place) (indices_of (p ∷ ps)) β (length p.probed + n) → ProbeWith place (indices_of ps) β n
    back n m = record { from = omega (arith, m.from); to = omega (arith, m.to); label = rw (column_there (λ q. q.index) 0 p ps n) at m.label }

    bound : (n : ℕ) → ProbeWith (behind p place) (indices_of (p ∷ ps)) β (length p.probed + n) → v ≤ℤ cost_at (p ∷ ps) (length p.probed + n)
    bound n m = rw (column_there (λ q. q.cost) (pos 0) p ps n) (own.bound n (back n m))

    least : Least (ProbeWith (behind p place) (indices_of (p ∷ ps)) β) (cost_at (p ∷ ps)) v
    least =
        record {
          best = length p.probed + own.best;
          member = to own.member;
          attained = column_there (λ q. q.cost) (pos 0) p ps own.best ∙ own.attained;
          bound = λ n m. let e : length p.probed + (n - length p.probed) ≡ n = omega (arith, m.from) in rw e at (bound (n - length p.probed) (rw (← e) at m));
        }

pub located : (xs : List Weighed) → AllShown (parts_in xs) → (i : ℕ) → i < word_length (words_of xs) → Located xs i
unfolding parts_in words_of word_length word_part
located [] s i h = absurd (omega arith)
located (x ∷ xs) (more r rs) i h = go (dec_lt i x.part.bits) (located xs rs (i - x.part.bits))
  where
    go : Dec (i < x.part.bits) → (i - x.part.bits < word_length (words_of xs) → Located xs (i - x.part.bits)) → Located (x ∷ xs) i
    go (yes l) later =
        record {
          weight = x.weight;
          part = x.part;
          bit = i;
          shown = r;
          inside = l;
          at = here l;
          entry = λ f. entry_here f x xs i l;
          probe = λ β b. probe_here r (parts_in xs) i β l b;
        }
    go (no l) later =
        let q : Located xs (i - x.part.bits) = later (omega arith) in
        let e : i ≡ x.part.bits + (i - x.part.bits) = omega arith in
        record {
          weight = q.weight;
          part = q.part;
          bit = q.bit;
          shown = q.shown;
          inside = q.inside;
          at = there e q.at;
          entry = λ f. entry_there f x xs i (omega arith) ∙ q.entry f;
          probe = λ β b. probe_there x.part (parts_in xs) i β (omega arith) (q.probe β b);
        }
