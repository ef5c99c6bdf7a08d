use Rattle.std.proofs.Common.{drop, sym, ◌∙◌}
use Rattle.teco_core.specs.ArgumentsView.{arguments}
use Rattle.teco_exec.proofs.Frames.{opening_full, opening_free}
use Rattle.teco_exec.specs.View.{block_step_of}
use Rattle.teco_exec.proofs.cursor.Cursor.pass_opening.Goals as goal

pub returns-then-len-eq-BLOCK_LIMIT-clause-comes : goal.returns-then-len-eq-BLOCK_LIMIT-clause-comes
returns-then-len-eq-BLOCK_LIMIT-clause-comes c found =
    let s = c.args.self.now in
    opening_full s.text.bytes.now (drop c.args.to s.text.bytes.now) (block_step_of c.args.block) s.blocks (arguments s.args) (drop s.at s.text.bytes.now) (sym c.len.ensures.value ∙ c.if-len-eq-BLOCK_LIMIT.true)

pub returns-else-len-eq-BLOCK_LIMIT-clause-comes : goal.returns-else-len-eq-BLOCK_LIMIT-clause-comes
returns-else-len-eq-BLOCK_LIMIT-clause-comes c found =
    let s = c.args.self.now in
    opening_free s.text.bytes.now (drop c.args.to s.text.bytes.now) (block_step_of c.args.block) s.blocks (arguments s.args) (drop s.at s.text.bytes.now) (λ e. c.if-len-eq-BLOCK_LIMIT.false (c.len.ensures.value ∙ e))
