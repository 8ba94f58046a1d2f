-- How a stream is cut into pieces does not matter; and its lines, each with a newline, are the stream. Assumes nothing.
use mathlib.Core.Path.{◌≡◌, refl, ap, ◌∙◌}
use mathlib.Core.Logic.{◌⊎◌, inl, inr, ◌≢◌}
use mathlib.Core.Bool.{Bool, true, false, cond}
use mathlib.Core.List.{List, [], ◌∷◌, ◌++◌, flat_map, append-nil, append_assoc}
use mathlib.Core.List.Memᴰ
use mathlib.Core.List.{Memᴰ}
use Prim.Native.Nat.{ℕ, suc, ◌<◌, ◌≤◌}
use native.Mathlib.Nat.{eq-or-lt_of_le, le_of_suc-le-suc}
use native.Mathlib.Omega.{arith}
use borrow.Author.Tests.{eqb-true, eqb-false, ne_eqb}
use lib.Dec.{eqb}
use lib.ListN.{length, get_or, length-append, get_or-append}
use lib.Seq.{get_or-append_seam, append_snoc}
use Rattle.line_cut.specs.Lines.{newline, ended_lines, pending_after, last_line, lines_of, piecewise_lines}

-- an input in two pieces
pub ended_append : (pending a b : List ℕ) → ended_lines pending (a ++ b) ≡ ended_lines pending a ++ ended_lines (pending_after pending a) b
unfolding ended_lines pending_after
ended_append pending [] b = refl
ended_append pending (c ∷ a) b = go (eqb c newline) (ended_append [] a b) (ended_append (pending ++ (c ∷ [])) a b)
  where
    on : List ℕ
    on = pending ++ (c ∷ [])

    go : (t : Bool) → ended_lines [] (a ++ b) ≡ ended_lines [] a ++ ended_lines (pending_after [] a) b
        → ended_lines on (a ++ b) ≡ ended_lines on a ++ ended_lines (pending_after on a) b
        → cond t (pending ∷ ended_lines [] (a ++ b)) (ended_lines on (a ++ b))
        ≡ cond t (pending ∷ ended_lines [] a) (ended_lines on a) ++ ended_lines (cond t (pending_after [] a) (pending_after on a)) b
    go true ended going = ap (λ (l : List (List ℕ)). pending ∷ l) ended
    go false ended going = going

pub pending_append : (pending a b : List ℕ) → pending_after pending (a ++ b) ≡ pending_after (pending_after pending a) b
unfolding pending_after
pending_append pending [] b = refl
pending_append pending (c ∷ a) b = go (eqb c newline) (pending_append [] a b) (pending_append (pending ++ (c ∷ [])) a b)
  where
    on : List ℕ
    on = pending ++ (c ∷ [])

    go : (t : Bool) → pending_after [] (a ++ b) ≡ pending_after (pending_after [] a) b → pending_after on (a ++ b) ≡ pending_after (pending_after on a) b
        → cond t (pending_after [] (a ++ b)) (pending_after on (a ++ b)) ≡ pending_after (cond t (pending_after [] a) (pending_after on a)) b
    go true ended going = ended
    go false ended going = going

-- an input in any pieces has the lines of the whole
pieces_pending : (pending : List ℕ) (pieces : List (List ℕ))
    → piecewise_lines pending pieces ≡ ended_lines pending (flat_map (λ p. p) pieces) ++ last_line (pending_after pending (flat_map (λ p. p) pieces))
unfolding piecewise_lines ended_lines pending_after flat_map
pieces_pending pending [] = refl
pieces_pending pending (p ∷ ps) = rw (ended_append, pending_append, append_assoc, pieces_pending (pending_after pending p) ps)

pub pieces_free : (pieces : List (List ℕ)) → piecewise_lines [] pieces ≡ lines_of (flat_map (λ p. p) pieces)
unfolding lines_of
pieces_free pieces = pieces_pending [] pieces

-- characters without a newline are all pending, and end no line
pub no_newline_ended : (pending s : List ℕ) → ((i : ℕ) → i < length s → get_or s i 0 ≢ newline) → ended_lines pending s ≡ []
unfolding ended_lines
no_newline_ended pending [] none = refl
no_newline_ended pending (c ∷ s) none =
    rw (ne_eqb c newline (none 0 (omega arith))) (no_newline_ended (pending ++ (c ∷ [])) s (λ i h. none (suc i) (omega arith)))

pub no_newline_pending : (pending s : List ℕ) → ((i : ℕ) → i < length s → get_or s i 0 ≢ newline) → pending_after pending s ≡ pending ++ s
unfolding pending_after
no_newline_pending pending [] none = rw append-nil
no_newline_pending pending (c ∷ s) none =
    rw (ne_eqb c newline (none 0 (omega arith)), no_newline_pending (pending ++ (c ∷ [])) s (λ i h. none (suc i) (omega arith)), append_snoc)

-- with a newline behind them they are a line
pub newline_ended : (pending s : List ℕ) → ((i : ℕ) → i < length s → get_or s i 0 ≢ newline)
    → ended_lines pending (s ++ (newline ∷ [])) ≡ (pending ++ s) ∷ []
unfolding ended_lines
newline_ended pending s none = rw (ended_append, no_newline_ended pending s none, no_newline_pending pending s none)

pub newline_pending : (pending s : List ℕ) → ((i : ℕ) → i < length s → get_or s i 0 ≢ newline) → pending_after pending (s ++ (newline ∷ [])) ≡ []
unfolding pending_after
newline_pending pending s none = rw pending_append

-- the lines, each with its newline, and what is pending behind them are the input
pending_rejoined : (pending input : List ℕ)
    → flat_map (λ l. l ++ (newline ∷ [])) (ended_lines pending input) ++ pending_after pending input ≡ pending ++ input
unfolding ended_lines pending_after flat_map
pending_rejoined pending [] = rw append-nil
pending_rejoined pending (c ∷ cs) = go (eqb c newline) refl (pending_rejoined [] cs) (pending_rejoined on cs)
  where
    on : List ℕ
    on = pending ++ (c ∷ [])

    whole : List (List ℕ) → List ℕ
    whole lines = flat_map (λ l. l ++ (newline ∷ [])) lines

    go : (t : Bool) → eqb c newline ≡ t → whole (ended_lines [] cs) ++ pending_after [] cs ≡ cs
        → whole (ended_lines on cs) ++ pending_after on cs ≡ on ++ cs
        → whole (cond t (pending ∷ ended_lines [] cs) (ended_lines on cs)) ++ cond t (pending_after [] cs) (pending_after on cs) ≡ pending ++ (c ∷ cs)
    go true e ends goes = rw (append_assoc, ends, eqb-true c newline e) (append_snoc pending newline cs)
    go false e ends goes = goes ∙ append_snoc pending c cs

pub lines_rejoined : (input : List ℕ) → flat_map (λ l. l ++ (newline ∷ [])) (ended_lines [] input) ++ pending_after [] input ≡ input
lines_rejoined input = pending_rejoined [] input

-- no line has a newline in it
abbrev Whole : List ℕ → Type 0
Whole line = (i : ℕ) → i < length line → get_or line i 0 ≢ newline

whole_more : (s : List ℕ) {c : ℕ} → Whole s → c ≢ newline → Whole (s ++ (c ∷ []))
whole_more s {c} none other i h = go (eq-or-lt_of_le (le_of_suc-le-suc inside))
  where
    inside : suc i ≤ suc (length s)
    inside = omega (arith, simp length-append at h)

    go : (i ≡ length s) ⊎ (i < length s) → get_or (s ++ (c ∷ [])) i 0 ≢ newline
    go (inl e) = rw (e, get_or-append_seam s c [] 0) other
    go (inr l) = rw (get_or-append s (c ∷ []) 0 i l) (none i l)

pending_whole : (pending input line : List ℕ) → Whole pending → Memᴰ line (ended_lines pending input) → Whole line
unfolding ended_lines
pending_whole pending [] line none m = absurd (Memᴰ.not-nil m)
pending_whole pending (c ∷ cs) line none m =
    go (eqb c newline) refl m (pending_whole [] cs line (λ i h. absurd (omega arith))) (pending_whole (pending ++ (c ∷ [])) cs line)
  where
    on : List ℕ
    on = pending ++ (c ∷ [])

    first : (line ≡ pending) ⊎ Memᴰ line (ended_lines [] cs) → (Memᴰ line (ended_lines [] cs) → Whole line) → Whole line
    first (inl e) later = rw e none
    first (inr k) later = later k

    go : (t : Bool) → eqb c newline ≡ t → Memᴰ line (cond t (pending ∷ ended_lines [] cs) (ended_lines on cs))
        → (Memᴰ line (ended_lines [] cs) → Whole line) → (Whole on → Memᴰ line (ended_lines on cs) → Whole line) → Whole line
    go true e k ends goes = first (Memᴰ.cases_cons k) ends
    go false e k ends goes = goes (whole_more pending none (eqb-false c newline e)) k

pub lines_whole : (input line : List ℕ) → Memᴰ line (ended_lines [] input) → (i : ℕ) → i < length line → get_or line i 0 ≢ newline
lines_whole input line m = pending_whole [] input line (λ i h. absurd (omega arith)) m

-- and none is pending
after_whole : (pending input : List ℕ) → Whole pending → Whole (pending_after pending input)
unfolding pending_after
after_whole pending [] none = none
after_whole pending (c ∷ cs) none = go (eqb c newline) refl (after_whole [] cs (λ i h. absurd (omega arith))) (after_whole (pending ++ (c ∷ [])) cs)
  where
    go : (b : Bool) → eqb c newline ≡ b → Whole (pending_after [] cs)
        → (Whole (pending ++ (c ∷ [])) → Whole (pending_after (pending ++ (c ∷ [])) cs))
        → Whole (cond b (pending_after [] cs) (pending_after (pending ++ (c ∷ [])) cs))
    go true e ends goes = ends
    go false e ends goes = goes (whole_more pending none (eqb-false c newline e))

pub pending_unended : (input : List ℕ) (i : ℕ) → i < length (pending_after [] input) → get_or (pending_after [] input) i 0 ≢ newline
pending_unended input = after_whole [] input (λ i h. absurd (omega arith))
