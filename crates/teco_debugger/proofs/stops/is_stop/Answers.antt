use Rattle.std.proofs.Common.{◌≡◌, ◌∙◌, true, sym, subst}
use Rattle.std.specs.Prelude.{IfSome}
use Rattle.std.proofs.lemmas.Result.{IfOk-weaker}
use Rattle.teco_exec.specs.Telling.{IsLastPlace}
use Rattle.teco_debugger.specs.Moving.{StandsSo, calls_at, goal as to_stop, is_goal, is_place}
use Rattle.teco_debugger.specs.Walk.{base}
use Rattle.teco_debugger.proofs.Passes.{seen_somewhere, seen_there}
use Rattle.teco_debugger.proofs.stops.is_stop.Goals as goal

pub returns-in-Some : goal.returns-in-Some
returns-in-Some c =
    let walk = c.args.walk.now in
    let sources = c.args.places.sources.now in
    let goal = to_stop c.args.stops.now c.args.places.calls in
    let n = c.args.n in
    let seen = c.in_ok-seen.seen in
    let place = c.in-Some.place in
    let last = subst (λ p. IfSome p (λ p. IsLastPlace (base walk) walk.text seen.outcome.steps p)) c.in-Some.is c.in_ok-seen.ensures.place in
    let visit = seen_there walk (is_place sources walk goal) c.machine_laws.ensures.means n seen.outcome.steps place true c.requires c.in_ok-seen.ensures.steps last in
    IfOk-weaker c.is_goal.result (λ so. so ≡ is_goal sources walk goal n (calls_at place) place.at) (StandsSo walk (is_goal sources walk goal n) n)
    (λ so is. record { calls = calls_at place; at = place.at; stands = visit; is = sym is }) c.is_goal.ensures

pub returns : goal.returns
returns c =
    let walk = c.args.walk.now in
    let holds = is_place c.args.places.sources.now walk (to_stop c.args.stops.now c.args.places.calls) in
    absurd (seen_somewhere walk holds c.machine_laws.ensures.means c.args.n true c.requires (sym c.in_ok-seen.ensures.code ∙ c.in_ok-seen.ensures.told.0 c.in-None.is))
