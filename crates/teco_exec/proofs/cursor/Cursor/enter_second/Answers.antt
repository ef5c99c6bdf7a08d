use Rattle.std.proofs.Common.{◌+◌, drop, Err, Ok, ap, sym, ◌∙◌}
use Rattle.std.proofs.lemmas.Result.{err_from_is_err_and}
use Rattle.teco_scan.specs.Lists.{closed, broken}
use Rattle.teco_scan.specs.declared.blocks.Kind.TheVariants.{Then}
use Rattle.teco_exec.specs.CursorMoves.{inside_second_part}
use Rattle.teco_exec.specs.View.{cursor}
use Rattle.teco_exec.proofs.Frames.{second_is}
use Rattle.teco_exec.proofs.Remembering.{closes_there}
use Rattle.teco_exec.proofs.cursor.Cursor.enter_second.Goals as goal

pub returns-in_err-stop-clause-moves : goal.returns-in_err-stop-clause-moves
returns-in_err-stop-clause-moves c =
    let s = c.args.self.now in
    let p = err_from_is_err_and c.from_residual.result c.from_residual.ensures.1 in
    rw (p.1, p.2) (second_is s.text.profile s.text.bytes.now (drop c.args.start s.text.bytes.now) s.blocks (broken c.in_err-stop.field-0.0) (cursor s) c.len-depth.ensures.value (closes_there s.same (Err c.in_err-stop.field-0.0) Then (c.len-depth.result + 1) c.args.start c.in_err-stop.ensures.closes))

pub returns-then-stop-clause-moves : goal.returns-then-stop-clause-moves
returns-then-stop-clause-moves c =
    let s = c.args.self.now in
    let stop = c.in_ok-stop.stop in
    ap Ok c.enter.ensures.enters ∙ ap (λ b. inside_second_part (closed b (drop stop.to s.text.bytes.now)) (cursor s)) (sym c.if-stop.true)
    ∙ second_is s.text.profile s.text.bytes.now (drop c.args.start s.text.bytes.now) s.blocks (closed stop.divided (drop stop.to s.text.bytes.now)) (cursor s) c.len-depth.ensures.value (closes_there s.same (Ok stop) Then (c.len-depth.result + 1) c.args.start c.in_ok-stop.ensures.closes)

pub returns-else-stop-clause-moves : goal.returns-else-stop-clause-moves
returns-else-stop-clause-moves c =
    let s = c.args.self.now in
    let stop = c.in_ok-stop.stop in
    ap (λ b. inside_second_part (closed b (drop stop.to s.text.bytes.now)) (cursor s)) (sym c.if-stop.false)
    ∙ second_is s.text.profile s.text.bytes.now (drop c.args.start s.text.bytes.now) s.blocks (closed stop.divided (drop stop.to s.text.bytes.now)) (cursor s) c.len-depth.ensures.value (closes_there s.same (Ok stop) Then (c.len-depth.result + 1) c.args.start c.in_ok-stop.ensures.closes)
