use Rattle.teco_debugger.specs.Marks.{is_wanted}
use Rattle.teco_debugger.proofs.Passes.{finds_late, finds_some}
use Rattle.teco_debugger.proofs.stops.next_place.Goals as goal

pub returns-then-n-limit : goal.returns-then-n-limit
returns-then-n-limit c =
    let wanted = is_wanted c.args.places.sources.now c.args.places.marks.now c.args.places.calls in
    let found = rw c.in-Some.is at c.in_ok-found.ensures in
    finds_some c.args.walk.now wanted c.args.from c.args.limit c.in-Some.n found c.if-n-limit.true

pub returns : goal.returns
returns c =
    let wanted = is_wanted c.args.places.sources.now c.args.places.marks.now c.args.places.calls in
    let found = rw c.in-Some.is at c.in_ok-found.ensures in
    finds_late c.args.walk.now wanted c.args.from c.args.limit c.in-Some.n found c.if-n-limit.false
