use Rattle.std.proofs.Common.{subst}
use Rattle.std.specs.Prelude.{codes}
use Rattle.std.proofs.lemmas.Result.{err_from_is_err_and}
use Rattle.teco_journal.specs.HeadFaults.{FailsAt}
use Rattle.teco_journal.specs.declared.head_reader.HeadFault.{HeadFault}
use Rattle.teco_journal.proofs.Cuts.{failed}
use Rattle.teco_journal.proofs.HeadParts.{depth_fails}
use Rattle.teco_journal.proofs.head_reader.depth_after.Goals as goal

pub returns-in_err-depth-in-Err-Changed : goal.returns-in_err-depth-in-Err-Changed
returns-in_err-depth-in-Err-Changed c =
    failed c.from_residual.result _ _ c.in_err-depth-in-Err-Changed.field-0.0 (err_from_is_err_and c.from_residual.result c.from_residual.ensures.1)
    (depth_fails c.args.bytes.now c.in_err-depth-in-Err-Changed.field-0.0
    (subst (λ (f : HeadFault). FailsAt (codes "depth -\n") c.args.bytes.now f) c.in-Err-Changed.field-0-is c.in-Err-Changed.ensures) c.in_err-depth-in-Err-Changed.ensures)
