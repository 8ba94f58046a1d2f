-- `answer_at` meets its contract: the line's characters refuse it, or it is a line of digits with a header; then its fields do, with the room that is left, or
-- it is served. Assumes nothing.
use Rattle.std.proofs.lemmas.Result.{err_from_is_err_and}
use Rattle.line_text.proofs.LineChecks.{line_of_digits, refused_by_text, refused_by_fields}
use Rattle.header_checks.proofs.Called.{is_passed, is_refused}
use mathlib.Core.Path.{refl, sym, ap, ◌∙◌}
use Rattle.line_text.specs.Line.{line_header}
use Rattle.line_call.proofs.Answers.{refused_at}
use Rattle.line_call.proofs.answer_at.Goals as goal

pub parse_header-header-requires : goal.parse_header-header-requires
parse_header-header-requires c =
    let (passes, same) = c.in_ok-text.ensures in
    rw same (line_of_digits c.args.limits c.args.line.now passes).header_there

pub returns-in_err-text : goal.returns-in_err-text
returns-in_err-text c =
    let handed = err_from_is_err_and c.from_residual.result c.from_residual.ensures.1 in
    rw (handed.1, handed.2) (refused_at (refused_by_text _ _ _ c.in_err-text.ensures))

pub returns-in_err-setup : goal.returns-in_err-setup
returns-in_err-setup c =
    let a = c.args in
    let (passes, same) = c.in_ok-text.ensures in
    let handed = err_from_is_err_and c.from_residual-in_err-setup.result c.from_residual-in_err-setup.ensures.1 in
    let judged = c.in_err-setup.ensures a.line.now refl (c.parse_header-header.ensures ∙ ap line_header same) in
    let decided = rw (c.new-served.ensures, c.saturating_sub-room.ensures) at (is_refused _ _ judged) in
    rw (handed.1, handed.2) (refused_at (refused_by_fields _ _ _ passes (sym decided)))

pub serve_line-requires : goal.serve_line-requires
serve_line-requires c =
    let (passes, same) = c.in_ok-text.ensures in
    let (fields, setup) = is_passed _ (c.in_ok-setup.ensures c.args.line.now refl (c.parse_header-header.ensures ∙ ap line_header same)) in
    (c.parse_header-header.ensures, setup, rw (same, c.new-served.ensures) passes, rw (same) (rw c.saturating_sub-room.ensures at fields))

pub returns : goal.returns
returns c = rw (c.in_ok-text.ensures.1, c.new-served.ensures) at c.serve_line.ensures
