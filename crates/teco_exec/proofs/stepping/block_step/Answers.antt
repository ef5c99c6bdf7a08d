use Rattle.std.proofs.Common.{refl, arith}
use Rattle.teco_exec.specs.Running.{reached_by_flow}
use Rattle.teco_exec.proofs.Going.{limit_ends}
use Rattle.teco_exec.proofs.Stepped.{block_leads, counts_one, counts_over, finishes, moves_on, unless_finishes}
use Rattle.teco_exec.proofs.Standings.{flow_counted, unless_no_call, unless_stays}
use Rattle.teco_exec.proofs.stepping.block_step.Goals as goal

pub returns-then-are_over-clause-leads : goal.returns-then-are_over-clause-leads
returns-then-are_over-clause-leads g c screen o callers at = limit_ends o _ _ at c.args.steps.now.done refl (λ now. refl)

pub returns-clause-leads : goal.returns-clause-leads
returns-clause-leads g c screen o callers at =
    block_leads c.args.cursor.now c.args.block c.args.to callers o _ at c.count.new.self.limit (omega (arith, c.are_over.ensures.left c.if-are_over.false, c.count.ensures.limit)) c.count.new.self.done c.count.ensures.done
    (g.D.Desk.state c.step_done.new.self) c.step_done.ensures.state (g.D.Desk.follows c.step_done.new.self) (λ u f. g.met.D.Desk.eases c.args.desk.now u f) c.step_done.ensures.follows
    (reached_by_flow c.block_step-moved.new.self callers c.on_unless.result) (finishes c.block_step-moved.new.self callers c.on_unless.result (unless_finishes c.block_step-moved.result c.on_unless.result c.on_unless.ensures c.block_step-moved.ensures.finished))
    (λ now. moves_on callers now c.args.cursor.now c.block_step-moved.new.self c.block_step-moved.ensures.text c.block_step-moved.result c.on_unless.result c.on_unless.ensures _ c.block_step-moved.ensures.moves)

pub returns-clause-stood : goal.returns-clause-stood
returns-clause-stood g c =
    flow_counted c.on_unless.result c.args.steps.now.done c.count.new.self.done c.count.ensures.done
    (unless_finishes c.block_step-moved.result c.on_unless.result c.on_unless.ensures c.block_step-moved.ensures.finished)

pub returns-clause-stays : goal.returns-clause-stays
returns-clause-stays g c =
    unless_stays c.args.cursor.now c.block_step-moved.new.self c.block_step-moved.result c.on_unless.result c.on_unless.ensures c.block_step-moved.ensures.stays

pub returns-clause-calls : goal.returns-clause-calls
returns-clause-calls g c = unless_no_call _ c.block_step-moved.result c.on_unless.result c.on_unless.ensures

pub returns-then-are_over-clause-counts : goal.returns-then-are_over-clause-counts
returns-then-are_over-clause-counts g c = counts_over c.are_over.ensures.still (c.are_over.ensures.over c.if-are_over.true) refl refl refl

pub returns-clause-counts : goal.returns-clause-counts
returns-clause-counts g c = counts_one c.are_over.ensures.still (c.are_over.ensures.lets c.if-are_over.false) c.count.ensures.limit c.count.ensures.done
