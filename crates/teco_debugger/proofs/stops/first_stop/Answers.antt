use Rattle.std.proofs.Common.{[], ◌∷◌, Some, None, arith, subst}
use Rattle.teco_debugger.specs.Moving.{StandsSo, goal as to_stop, is_goal}
use Rattle.teco_debugger.specs.Marks.{is_wanted}
use Rattle.teco_debugger.proofs.Passes.{finds_marked, finds_nothing, none_tried, passes_on, passes_one, passes_start, tried_one, work_left, work_spent}
use Rattle.teco_debugger.proofs.stops.first_stop.Goals as goal

pub loop-first-init : goal.loop-first-init
loop-first-init c =
    let sources = c.args.places.sources.now in
    let walk = c.args.walk.now in
    let goal = to_stop c.args.stops.now c.args.places.calls in
    record { after = omega arith; passed = passes_start sources walk goal c.args.from; tried = ([], none_tried sources walk goal c.args.from, omega arith) }

pub returns-in_default : goal.returns-in_default
returns-in_default c =
    let sources = c.args.places.sources.now in
    let walk = c.args.walk.now in
    let goal = to_stop c.args.stops.now c.args.places.calls in
    let inv = c.loop-first.invariant in
    let wanted = is_wanted sources c.args.places.marks.now c.args.places.calls in
    let none = finds_nothing walk wanted c.loop-first.first c.args.limit c.in_ok-found.found c.in_default.not-Some c.in_ok-found.ensures in
    let here = finds_marked sources walk c.args.stops.now c.args.places.marks.now c.args.places.calls c.requires c.loop-first.first c.args.limit None none in
    passes_on sources walk goal c.args.from c.loop-first.first c.args.limit inv.passed here

pub returns-then-stands : goal.returns-then-stands
returns-then-stands c =
    let sources = c.args.places.sources.now in
    let walk = c.args.walk.now in
    let goal = to_stop c.args.stops.now c.args.places.calls in
    let inv = c.loop-first.invariant in
    let n = c.in-Some.n in
    let found = rw c.in-Some.is at c.in_ok-found.ensures in
    let here = finds_marked sources walk c.args.stops.now c.args.places.marks.now c.args.places.calls c.requires c.loop-first.first c.args.limit (Some n) found in
    let after = inv.after in
    let later = here.0.after in
    record {
      after = omega (arith, after, later);
      here = subst (StandsSo walk (is_goal sources walk goal n) n) c.if-stands.true c.in_ok-stands.ensures;
      passed = passes_on sources walk goal c.args.from c.loop-first.first n inv.passed here.0.passed;
    }

pub returns-then-n-work : goal.returns-then-n-work
returns-then-n-work c =
    let sources = c.args.places.sources.now in
    let walk = c.args.walk.now in
    let goal = to_stop c.args.stops.now c.args.places.calls in
    let inv = c.loop-first.invariant in
    let n = c.in-Some.n in
    let found = rw c.in-Some.is at c.in_ok-found.ensures in
    let here = finds_marked sources walk c.args.stops.now c.args.places.marks.now c.args.places.calls c.requires c.loop-first.first c.args.limit (Some n) found in
    let passed = passes_on sources walk goal c.args.from c.loop-first.first n inv.passed here.0.passed in
    let stands = subst (StandsSo walk (is_goal sources walk goal n) n) c.if-stands.false c.in_ok-stands.ensures in
    record {
      passed = passes_one sources walk goal c.args.from n passed stands;
      tried = n ∷ inv.tried.0;
      are_tried = tried_one sources walk goal c.args.from c.loop-first.first n inv.tried.0 here.0.after inv.tried.1 here.0.here;
      work = work_spent n c.loop-first.work inv.tried.0 c.if-n-work.true inv.tried.2;
    }

pub loop-first-preserved : goal.loop-first-preserved
loop-first-preserved c =
    let sources = c.args.places.sources.now in
    let walk = c.args.walk.now in
    let goal = to_stop c.args.stops.now c.args.places.calls in
    let inv = c.loop-first.invariant in
    let n = c.in-Some.n in
    let found = rw c.in-Some.is at c.in_ok-found.ensures in
    let here = finds_marked sources walk c.args.stops.now c.args.places.marks.now c.args.places.calls c.requires c.loop-first.first c.args.limit (Some n) found in
    let passed = passes_on sources walk goal c.args.from c.loop-first.first n inv.passed here.0.passed in
    let stands = subst (StandsSo walk (is_goal sources walk goal n) n) c.if-stands.false c.in_ok-stands.ensures in
    let after = inv.after in
    let later = here.0.after in
    record {
      after = omega (arith, after, later);
      passed = passes_one sources walk goal c.args.from n passed stands;
      tried = (n ∷ inv.tried.0, tried_one sources walk goal c.args.from c.loop-first.first n inv.tried.0 here.0.after inv.tried.1 here.0.here, work_left n c.loop-first.work inv.tried.0 c.if-n-work.false inv.tried.2);
    }

pub returns : goal.returns
returns c =
    let inv = c.loop-first.invariant in
    λ k above below. inv.passed k above (omega (arith, below, c.loop-first-test.false))
