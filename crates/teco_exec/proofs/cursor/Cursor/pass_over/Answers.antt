use Rattle.std.proofs.Common.{drop, Ok, Err, ◌+◌}
use Rattle.std.proofs.lemmas.Result.{err_from_is_err_and}
use Rattle.teco_scan.specs.declared.blocks.Kind.TheVariants.{Iter}
use Rattle.teco_exec.specs.View.{cursor}
use Rattle.teco_exec.proofs.Frames.{passed_over}
use Rattle.teco_exec.proofs.Remembering.{passes_there}
use Rattle.teco_exec.proofs.cursor.Cursor.pass_over.Goals as goal

pub returns-in_err-self-clause-moves : goal.returns-in_err-self-clause-moves
returns-in_err-self-clause-moves c =
    let s = c.args.self.now in
    let p = err_from_is_err_and c.from_residual.result c.from_residual.ensures.1 in
    rw (p.1, p.2) (passed_over s.text.profile s.text.bytes.now (drop c.args.start s.text.bytes.now) s.blocks (Err c.in_err-self.field-0.0) (cursor s) c.len-depth.ensures.value (passes_there s.same (Err c.in_err-self.field-0.0) Iter (c.len-depth.result + 1) c.args.start c.in_err-self.ensures.passes))

pub returns-clause-moves : goal.returns-clause-moves
returns-clause-moves c =
    let s = c.args.self.now in
    passed_over s.text.profile s.text.bytes.now (drop c.args.start s.text.bytes.now) s.blocks (Ok (drop c.in_ok-self.field-0 s.text.bytes.now)) (cursor s) c.len-depth.ensures.value (passes_there s.same (Ok c.in_ok-self.field-0) Iter (c.len-depth.result + 1) c.args.start c.in_ok-self.ensures.passes)
