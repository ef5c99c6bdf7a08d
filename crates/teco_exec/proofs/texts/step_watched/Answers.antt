use Rattle.std.proofs.Common.{◌≤◌, length, subst, sym, arith}
use Rattle.teco_exec.specs.Places.{wanted_in}
use Rattle.teco_exec.proofs.Visited.{visited_at}
use Rattle.teco_exec.proofs.texts.step_watched.Goals as goal

pub stepped-requires-clause-within : goal.stepped-requires-clause-within
stepped-requires-clause-within g c = subst (λ x. c.args.cursor.now.at ≤ length x.bytes.now) (sym c.step-flow.ensures.text) c.args.cursor.now.within

pub returns-clause-visits : goal.returns-clause-visits
returns-clause-visits g c o callers calls deep called e wanted first p =
    c.stepped.ensures.follows (wanted_in o.state o.text wanted first) c.step-flow.new.steps.done
    (λ k to from below place. visited_at o c.args.cursor.now callers calls called k c.args.running.now.depth deep c.step-flow.new.cursor to c.step-flow.ensures.text (c.step-flow.ensures.visited k from below o callers e) place)
    p c.step-flow.ensures.counts.more (omega arith)
