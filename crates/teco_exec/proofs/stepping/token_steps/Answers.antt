use Rattle.std.proofs.Common.{◌≡◌, Some, true, refl, subst, sym, ◌∙◌, arith, ltb}
use Rattle.teco_step.specs.Stepping.{takes_nothing_in}
use Rattle.teco_exec.specs.Running.{at_token, reached_by_flow, goes}
use Rattle.teco_exec.proofs.Going.{since}
use Rattle.teco_exec.proofs.Stepped.{counts_on, counts_so, up_to}
use Rattle.teco_exec.proofs.Standings.{flow_stays_on, on_last, stays_on, token_stands}
use Rattle.teco_exec.proofs.stepping.token_steps.Goals as goal

pub stepping-preserved : goal.stepping-preserved
stepping-preserved g c = record {
  text = c.in-Further.ensures.text ∙ c.stepping.invariant.text;
  stays = stays_on c.stepping.invariant.stays c.in-Further.ensures.stays;
  counts = counts_on c.stepping.invariant.counts (counts_so (λ e. absurd cc) c.in-Further.ensures.counts);
  quiet = λ q h. absurd (c.in-Further.ensures.quiet (c.stepping.invariant.quiet q h) (subst (λ t. takes_nothing_in t.bytes.now c.args.token.now ≡ true) (sym c.stepping.invariant.text) h));
  going = λ o callers at.
      let there = c.stepping.invariant.going o callers at in
      since 0 o _ _ _ (goes (at_token c.token_step.new.cursor c.args.token.now (Some c.in-Further.left) callers)) there.follows (c.in-Further.ensures.leads o callers there.going);
  visited = λ k after less o callers at.
      up_to k c.stepping.steps.done (ltb k c.stepping.steps.done) refl (λ low. c.stepping.invariant.visited k after low o callers at)
      (λ high. token_stands c.args.token.now callers o _ c.stepping.cursor c.args.cursor.now c.stepping.work k (omega (arith, high, less, c.in-Further.ensures.one)) (c.stepping.invariant.going o callers at).going c.stepping.invariant.text c.stepping.invariant.stays);
}

pub returns-in-Done-clause-leads : goal.returns-in-Done-clause-leads
returns-in-Done-clause-leads g c o callers at =
    let there = c.stepping.invariant.going o callers at in
    since c.token_step.new.steps.limit o _ _ _ (reached_by_flow c.token_step.new.cursor callers c.in-Done.flow) there.follows (c.in-Done.ensures.leads o callers there.going)

pub returns-in-Done-clause-stays : goal.returns-in-Done-clause-stays
returns-in-Done-clause-stays g c = flow_stays_on c.args.cursor.now c.stepping.cursor c.token_step.new.cursor c.in-Done.flow c.stepping.invariant.stays c.in-Done.ensures.stays

pub returns-in-Done-clause-stood : goal.returns-in-Done-clause-stood
returns-in-Done-clause-stood g c =
    on_last c.in-Done.flow c.token_step.new.steps.done (λ k same o callers at.
    token_stands c.args.token.now callers o _ c.stepping.cursor c.args.cursor.now c.stepping.work k same (c.stepping.invariant.going o callers at).going c.stepping.invariant.text c.stepping.invariant.stays) c.in-Done.ensures.stood

pub returns-in-Done-clause-counts : goal.returns-in-Done-clause-counts
returns-in-Done-clause-counts g c = counts_on c.stepping.invariant.counts (counts_so (λ e. cc) c.in-Done.ensures.counts)

pub returns-in-Done-clause-visited : goal.returns-in-Done-clause-visited
returns-in-Done-clause-visited g c k after less o callers at =
    up_to k c.stepping.steps.done (ltb k c.stepping.steps.done) refl (λ low. c.stepping.invariant.visited k after low o callers at)
    (λ high. token_stands c.args.token.now callers o _ c.stepping.cursor c.args.cursor.now c.stepping.work k (omega (arith, high, less, c.in-Done.ensures.one)) (c.stepping.invariant.going o callers at).going c.stepping.invariant.text c.stepping.invariant.stays)
