use Rattle.std.proofs.Common.{◌≡◌, ◌∙◌, List, ℕ, ap, subst}
use Rattle.std.specs.Prelude.{IfSome}
use Rattle.teco_store.specs.State.{State}
use Rattle.teco_exec.specs.Places.{FindsWanted, wanted_in}
use Rattle.teco_exec.specs.Watching.{Seeks}
use Rattle.teco_exec.specs.declared.outcome.Outcome.{Outcome}
use Rattle.teco_session.specs.Answers.{outcome_of}
use Rattle.teco_session.specs.History.{present}
use Rattle.teco_session.specs.Kept.{history_of}
use Rattle.teco_session.specs.declared.request.Answer.{Answer}
use Rattle.teco_debugger.specs.Walk.{KeptWalk, base, led}
use Rattle.teco_debugger.proofs.walk.Walk.follow.Goals as goal

pub returns-clause-found : goal.returns-clause-found
returns-clause-found g c =
    let w = c.args.self.now in
    let wanted = g.P.Wants.wanted c.args.places in
    let there = present (history_of c.in_ok-session.session) in
    let led_there : history_of c.in_ok-session.session ≡ led w.first w.before = c.in_ok-session.ensures in
    let first : there ≡ base w = ap present led_there in
    let steps = c.in-Ended.outcome.steps in
    let text : c.as_slice.result.now ≡ w.text = c.as_slice.ensures.value ∙ ap (λ (v : KeptWalk). v.text) c.self.view_is in
    let followed = c.run_with-answer.ensures.visits wanted c.args.from (c.new-watch.ensures there c.as_slice.result.now) in
    let ended = subst (λ (a : Answer). IfSome (outcome_of a) (λ (o : Outcome). Seeks g.P.Wants.wanted c.run_with-answer.result.1 (wanted_in there c.as_slice.result.now wanted c.args.from) o.steps)) c.in-Ended.is followed in
    let found = c.found-first.ensures (wanted_in there c.as_slice.result.now wanted c.args.from) steps ended in
    subst (λ (s : State). FindsWanted (wanted_in s w.text wanted c.args.from) steps c.found-first.result) first
    (subst (λ (t : List ℕ). FindsWanted (wanted_in there t wanted c.args.from) steps c.found-first.result) text found)
