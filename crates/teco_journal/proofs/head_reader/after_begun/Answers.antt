use Rattle.std.specs.Prelude.{codes}
use Rattle.std.proofs.lemmas.Result.{err_from_is_err_and}
use Rattle.teco_journal.proofs.Cuts.{failed, fails_more, two_words}
use Rattle.teco_journal.proofs.head_reader.after_begun.Goals as goal

pub returns-in_err-rest : goal.returns-in_err-rest
returns-in_err-rest c =
    failed c.from_residual.result _ _ c.in_err-rest.field-0.0 (err_from_is_err_and c.from_residual.result c.from_residual.ensures.1)
    (fails_more c.args.check.now (codes " begun\n") c.args.bytes.now c.in_err-rest.field-0.0 c.in_err-rest.ensures)

pub returns : goal.returns
returns c = two_words c.args.check.now (codes " begun\n") c.args.bytes.now c.in_ok-rest.rest.now c.after-2.result c.in_ok-rest.ensures c.after-2.ensures
