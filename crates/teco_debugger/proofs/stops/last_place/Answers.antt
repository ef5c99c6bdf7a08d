use Rattle.std.proofs.Common.{◌≡◌, ◌∙◌, ◌<◌, ◌≤◌, false, sym, arith}
use Rattle.teco_debugger.specs.Marks.{is_wanted}
use Rattle.teco_debugger.specs.Moving.{ends_wanted}
use Rattle.teco_debugger.proofs.Passes.{finds_end, finds_none}
use Rattle.teco_debugger.proofs.stops.last_place.Goals as goal
use Rattle.teco_debugger.proofs.stops.last_place.Goals.{else-wanted-via-then-wanted+then-from-n+else-n-limit, else-wanted-via-then-wanted+else-from-n, else-wanted-via-else-wanted}

pub returns-then-n-limit : goal.returns-then-n-limit
returns-then-n-limit c =
    let wanted = is_wanted c.args.places.sources.now c.args.places.marks.now c.args.places.calls in
    let seen = c.in_ok-seen.seen in
    finds_end c.args.walk.now wanted c.args.from c.args.limit seen.outcome.steps seen.place c.in_ok-seen.ensures.steps c.in_ok-seen.ensures.place c.requires c.if-from-n.true c.if-n-limit.true (sym c.ends_wanted-wanted.ensures ∙ c.if-wanted.true)

pub returns : goal.returns
returns c =
    let wanted = is_wanted c.args.places.sources.now c.args.places.marks.now c.args.places.calls in
    let seen = c.in_ok-seen.seen in
    let n = seen.outcome.steps in
    let not_so : c.args.from ≤ n → n < c.args.limit → ends_wanted wanted n seen.place ≡ false = λ above below. sym c.ends_wanted-wanted.ensures ∙ elim c.else-wanted.branch [
      | else-wanted-via-then-wanted+then-from-n+else-n-limit w ↦ absurd (omega (arith, below, w.if-n-limit.false))
      | else-wanted-via-then-wanted+else-from-n w ↦ absurd (omega (arith, above, w.if-from-n.false))
      | else-wanted-via-else-wanted w ↦ w.if-wanted.false
    ] in
    finds_none c.args.walk.now wanted c.machine_laws.ensures.means c.args.from c.args.limit n seen.place c.in_ok-seen.ensures.steps c.in_ok-seen.ensures.place c.requires
    (λ none. sym c.in_ok-seen.ensures.code ∙ c.in_ok-seen.ensures.told.0 none) not_so
