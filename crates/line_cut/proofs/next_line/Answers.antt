-- `next_line` meets its contract. What lies before the line's end has no newline: where the piece ends there it is all pending, and else it is the rest of a
-- line, which is handed back. Assumes nothing.
use mathlib.Core.Path.{◌≡◌, refl}
use mathlib.Core.Logic.{◌≢◌}
use mathlib.Core.List.{List, [], ◌∷◌, ◌++◌}
use Prim.Native.Nat.{ℕ, suc, ◌+◌, ◌<◌}
use native.Mathlib.Omega.{arith}
use borrow.Author.Tests.{eq-eqb, eqb-true}
use lib.ListN.{length, get_or, take, length-append, length-take}
use lib.Seq.{take-suc, take_all, get_or-take}
use Rattle.line_cut.specs.declared.Found.{Found}
use Rattle.line_cut.specs.declared.Held.{Held}
use Rattle.line_cut.specs.declared.Held.TheVariants.{Within}
use Rattle.std.specs.Prelude.{Option, None}
use Rattle.memchr.specs.Find.{Nowhere, NoneBefore, Passes, is_byte}
use Rattle.line_cut.specs.Lines.{newline, last_line}
use Rattle.line_cut.specs.Cut.{HoldsIn, HandedBack, CutFromIn}
use Rattle.line_cut.proofs.Cutting.{no_newline_ended, no_newline_pending, newline_ended, newline_pending}
use Rattle.line_cut.proofs.Pending.{last_some, nothing_held, held_nothing, held_some}
use Rattle.line_cut.proofs.next_line.Goals.{in-Within-eq0, in_default, in_default-via-in-Within+in_default, in_default-via-in_default}
use Rattle.line_cut.proofs.next_line.Goals as goal

module _ (piece : List ℕ) where
  abbrev Newline : ℕ → Type 0
  Newline = Passes (is_byte 10) piece

  -- what lies before the line's end
  before : (end : ℕ) → Nowhere Newline 0 end → (i : ℕ) → i < length (take end piece) → get_or (take end piece) i 0 ≢ newline
  before end none i h =
      let inside : i < end = omega (arith, simp length-take at h) in
      rw (get_or-take end piece i 0 inside) (λ e. none i (omega arith) inside (eq-eqb _ _ e))

  module _ {held : Held} {buffer pending : List ℕ} where
    nothing_cut : 0 < length piece → Nowhere Newline 0 (length piece) → HoldsIn held buffer (pending ++ piece)
        → CutFromIn pending piece held buffer record { found = None; next = length piece }
    nothing_cut some none holds =
        let whole : take (length piece) piece ≡ piece = take_all (length piece) piece (omega arith) in
        let free : (i : ℕ) → i < length piece → get_or piece i 0 ≢ newline = rw whole at (before (length piece) none) in
        record {
          further = some;
          inside = omega arith;
          lines = rw whole (no_newline_ended pending piece free);
          kept = rw (whole, no_newline_pending pending piece free) holds;
        }

    line_cut_lem : {end : ℕ} {found : Option Found} → NoneBefore Newline 0 (length piece) end → Newline end → held ≡ Within 0
        → HandedBack piece buffer found ((pending ++ take end piece) ∷ [])
        → CutFromIn pending piece held buffer record { found = found; next = end + 1 }
    line_cut_lem {end} first passes nothing back =
        let ends : get_or piece end 0 ≡ newline = eqb-true _ _ passes in
        let more : end + 1 ≡ suc end = omega arith in
        let ended : take (end + 1) piece ≡ take end piece ++ (newline ∷ []) = rw (more, take-suc piece end 0 first.high, ends) refl in
        record {
          further = omega arith;
          inside = omega (arith, first.high);
          lines = rw (ended, newline_ended pending (take end piece) (before end first.before)) back;
          kept = rw (ended, newline_pending pending (take end piece) (before end first.before)) (nothing_held nothing);
        }

pub returns-in-None : goal.returns-in-None
returns-in-None c pending holds = nothing_cut _ c.requires c.in-None.ensures (c.hold.ensures pending holds)

pub returns-after-held : goal.returns-after-held
returns-after-held c pending holds =
    let (first, passes) = c.in-Some.ensures in
    line_cut_lem c.args.piece.now first passes refl (elim c.match-held.branch [
      | in-Within-eq0 w ↦
          let none : w.in-Within-eq0.length ≡ 0 = omega (arith, w.in-Within-eq0.length-is, w.in-Within-eq0.length-test) in
          let nothing : pending ≡ [] = held_nothing holds (rw none at w.in-Within-eq0.is) in
          rw (w.found-is, nothing) (omega (arith, first.high), refl)
      | in_default w ↦
          let all = pending ++ take c.in-Some.end c.args.piece.now in
          let one : last_line all ≡ all ∷ [] = last_some all (simp length-append (omega (
            arith,
            held_some holds (elim w.in_default.branch [
              | in_default-via-in-Within+in_default v ↦ λ none. v.in_default.field-0-test.1 (rw none refl)
              | in_default-via-in_default v ↦ λ none. absurd (let z : ◌≡◌ {A = ℕ} 0 1 = cc in omega arith)
            ]),
          ))) in
          rw (w.buffer-is, w.found-is, ← one) (w.last_line-found.ensures all (w.hold-in_default.ensures pending holds) _)
    ])
