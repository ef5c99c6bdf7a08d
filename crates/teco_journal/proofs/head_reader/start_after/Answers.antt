use Rattle.std.proofs.Common.{refl}
use Rattle.std.proofs.lemmas.Result.{err_from_is_err_and}
use Rattle.teco_journal.proofs.Cuts.{failed}
use Rattle.teco_journal.proofs.HeadParts.{fails_at_lines, fails_at_depth, fails_at_input, start_found}
use Rattle.teco_journal.proofs.head_reader.start_after.Goals as goal

pub returns-in_err-lines : goal.returns-in_err-lines
returns-in_err-lines c =
    failed c.from_residual.result _ _ c.in_err-lines.field-0.0 (err_from_is_err_and c.from_residual.result c.from_residual.ensures.1)
    (fails_at_lines c.args.bytes.now c.in_err-lines.field-0.0 c.in_err-lines.ensures)

pub returns-in_err-depth : goal.returns-in_err-depth
returns-in_err-depth c =
    failed c.from_residual-in_err-depth.result _ _ c.in_err-depth.field-0.0 (err_from_is_err_and c.from_residual-in_err-depth.result c.from_residual-in_err-depth.ensures.1)
    (fails_at_depth c.args.bytes.now c.in_ok-lines.rest.now c.in_ok-lines.lines c.in_err-depth.field-0.0 c.in_ok-lines.ensures.0 c.in_ok-lines.ensures.1 c.in_err-depth.ensures)

pub returns-in_err-input : goal.returns-in_err-input
returns-in_err-input c =
    failed c.from_residual-in_err-input.result _ _ c.in_err-input.field-0.0 (err_from_is_err_and c.from_residual-in_err-input.result c.from_residual-in_err-input.ensures.1)
    (fails_at_input c.args.bytes.now c.in_ok-lines.rest.now c.in_ok-depth.rest.now c.in_ok-lines.lines c.in_ok-depth.depth c.in_err-input.field-0.0
    c.in_ok-lines.ensures.0 c.in_ok-depth.ensures.0 c.in_ok-lines.ensures.1 c.in_ok-depth.ensures.1 c.in_err-input.ensures)

pub returns : goal.returns
returns c = (
  refl,
  (c.in_ok-lines.ensures.0, c.in_ok-depth.ensures.0, c.in_ok-input.ensures.0),
  start_found c.args.profile c.args.bytes.now c.in_ok-lines.rest.now c.in_ok-depth.rest.now c.in_ok-input.rest.now c.in_ok-input.input.now c.in_ok-lines.lines c.in_ok-depth.depth
      c.in_ok-lines.ensures.1 c.in_ok-depth.ensures.1 c.in_ok-input.ensures.1,
)
