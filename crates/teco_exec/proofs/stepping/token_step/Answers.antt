use Rattle.std.proofs.Common.{refl, arith, inr}
use Rattle.teco_core.specs.ArgumentsView.{arguments}
use Rattle.teco_step.specs.Stepping.{name_in}
use Rattle.teco_exec.specs.Running.{at_register_call}
use Rattle.teco_exec.specs.Tokens.{reached_by_progress}
use Rattle.teco_exec.proofs.Going.{continues, limit_ends}
use Rattle.teco_exec.proofs.Stepped.{calls_same, counts_none, counts_one, counts_over, never_calls, says_on, says_then, token_fails, token_given_up, token_goes, progress_finishes}
use Rattle.teco_exec.proofs.Standings.{counted, no_call, progress_stays_on}
use Rattle.teco_exec.proofs.stepping.token_step.Goals as goal
use Rattle.teco_exec.proofs.stepping.token_step.Goals.{then-is_given_up, else-is_given_up}

pub returns-in-Some-clause-leads : goal.returns-in-Some-clause-leads
returns-in-Some-clause-leads g c o callers at =
    continues o _ _ at (at_register_call c.args.cursor.now c.in-Some.q callers)
    (λ now. calls_same c.args.cursor.now c.args.token.now c.args.work c.in-Some.q callers now c.in-Some.ensures)

pub returns-then-are_over-clause-leads : goal.returns-then-are_over-clause-leads
returns-then-are_over-clause-leads g c o callers at = limit_ends o _ _ at c.args.steps.now.done refl (λ now. refl)

pub returns-in-Some-unfinished-clause-leads : goal.returns-in-Some-unfinished-clause-leads
returns-in-Some-unfinished-clause-leads g c o callers at =
    let from = c.args.cursor.now in
    let step = c.step_token-next in
    elim c.if-is_given_up.branch [
      | then-is_given_up w ↦ rw (w.steps-is, w.code-is) (
          token_given_up from c.args.token.now c.args.work callers c.iteration_is_seen-inside.result c.leave_is_seen-before.result c.requires c.iteration_is_seen-inside.ensures c.leave_is_seen-before.ensures
          o _ at c.args.steps.now.limit (c.are_over.ensures.left c.if-are_over.false) (name_in from.text.bytes.now c.args.token.now) (g.D.Desk.state step.new.desk) step.new.args (g.T.Terminal.screen step.new.term) step.result (g.D.Desk.follows step.new.desk) step.ensures.follows
          c.in-Some-unfinished.code c.in-Some-unfinished.ensures.0 (c.is_given_up.ensures.memory w.if-is_given_up.true) step.ensures.steps)
      | else-is_given_up w ↦ rw (w.steps-is, w.code-is) (
          token_fails from c.args.token.now c.args.work callers c.iteration_is_seen-inside.result c.leave_is_seen-before.result c.requires c.iteration_is_seen-inside.ensures c.leave_is_seen-before.ensures
          o _ at c.args.steps.now.limit (c.are_over.ensures.left c.if-are_over.false) (name_in from.text.bytes.now c.args.token.now) (g.D.Desk.state step.new.desk) step.new.args (g.T.Terminal.screen step.new.term) step.result (g.D.Desk.follows step.new.desk) step.ensures.follows
          c.in-Some-unfinished.code c.in-Some-unfinished.ensures.0 c.in-Some-unfinished.ensures.1 step.ensures.steps)
    ]

pub returns-clause-leads : goal.returns-clause-leads
returns-clause-leads g c o callers at =
    let from = c.args.cursor.now in
    let step = c.step_token-next in
    let to = c.resume.new.cursor in
    token_goes from c.args.token.now c.args.work callers c.iteration_is_seen-inside.result c.leave_is_seen-before.result c.requires c.iteration_is_seen-inside.ensures c.leave_is_seen-before.ensures
    o _ at c.count.new.self.limit (omega (arith, c.are_over.ensures.left c.if-are_over.false, c.count.ensures.limit)) (name_in from.text.bytes.now c.args.token.now) (g.D.Desk.state step.new.desk) step.new.args (g.T.Terminal.screen step.new.term) step.result (g.D.Desk.follows step.new.desk) step.ensures.follows
    c.in_default-unfinished.ensures step.ensures.steps c.count.new.self.done c.count.ensures.done (g.D.Desk.state c.step_done.new.self) c.step_done.ensures.state (g.D.Desk.follows c.step_done.new.self) c.step_done.ensures.follows
    (reached_by_progress to c.args.token.now callers c.resume.result) (progress_finishes to c.args.token.now callers c.resume.result c.resume.ensures.finished)
    (λ now. c.resume.ensures.resumes (g.D.Desk.state step.new.desk) callers now)

pub resume-requires-clause-no_call : goal.resume-requires-clause-no_call
resume-requires-clause-no_call g c q e =
    let from = c.args.cursor.now in
    never_calls c.effect_laws.ensures.call from.text.bytes.now c.args.token.now c.args.work c.iteration_is_seen-inside.result c.leave_is_seen-before.result (g.D.Desk.state c.args.desk.now) (arguments from.args)
    (name_in from.text.bytes.now c.args.token.now) _ _ c.step_token-next.result c.requires c.in_default.ensures c.step_token-next.ensures.steps q e

pub returns-clause-stays : goal.returns-clause-stays
returns-clause-stays g c = progress_stays_on c.args.cursor.now _ c.resume.new.cursor c.resume.result (record { place = refl; frames = refl }) c.resume.ensures.stays

pub returns-clause-stood : goal.returns-clause-stood
returns-clause-stood g c = counted c.resume.result c.args.steps.now.done c.count.new.self.done c.count.ensures.done c.resume.ensures.finished

pub returns-clause-calls : goal.returns-clause-calls
returns-clause-calls g c = no_call _ c.resume.result c.resume.ensures.finished

pub returns-in-Some-clause-counts : goal.returns-in-Some-clause-counts
returns-in-Some-clause-counts g c = counts_none says_on

pub returns-then-are_over-clause-counts : goal.returns-then-are_over-clause-counts
returns-then-are_over-clause-counts g c = counts_over c.are_over.ensures.still (c.are_over.ensures.over c.if-are_over.true) refl refl refl

pub returns-in-Some-unfinished-clause-counts : goal.returns-in-Some-unfinished-clause-counts
returns-in-Some-unfinished-clause-counts g c =
    let still = says_then c.are_over.ensures.still c.is_given_up.ensures.still in
    elim c.if-is_given_up.branch [
      | then-is_given_up w ↦ rw (w.steps-is, w.code-is) (counts_over still (inr (c.is_given_up.ensures.asked w.if-is_given_up.true)) refl refl refl)
      | else-is_given_up w ↦ rw w.steps-is (counts_none still)
    ]

pub returns-clause-counts : goal.returns-clause-counts
returns-clause-counts g c = counts_one c.are_over.ensures.still (c.are_over.ensures.lets c.if-are_over.false) c.count.ensures.limit c.count.ensures.done
