use Rattle.std.proofs.Common.{length, ap, arith}
use Rattle.std.proofs.lemmas.Grind.{common_steps}
use Rattle.teco_search.specs.ByteSet.{contains}
use Rattle.teco_search.proofs.Scans.{last_before_back, last_in_back, last_in_front}
use Rattle.teco_search.proofs.joined.Joined.last_of.Goals as goal

pub returns-then-to-cut : goal.returns-then-to-cut
returns-then-to-cut c = rw (← c.self.view_is) (last_in_front (contains c.args.set.now) c.self.inside.before.now c.self.inside.after.now c.args.to c.last_in.result (omega arith) c.last_in.ensures)

pub returns-in-Some : goal.returns-in-Some
returns-in-Some c = rw (← c.self.view_is) (last_in_back (contains c.args.set.now) c.self.inside.before.now c.self.inside.after.now c.args.to (omega arith) (omega (arith, ap length c.self.view_is)) c.in-Some.place c.in-Some.ensures)

pub returns : goal.returns
returns c = rw (← c.self.view_is) (last_before_back (contains c.args.set.now) c.self.inside.before.now c.self.inside.after.now c.args.to (omega arith) (omega (arith, ap length c.self.view_is)) c.last_in-3.result c.in_default.ensures c.last_in-3.ensures)

pub slice_bounds-last_in-end : goal.slice_bounds-last_in-end
slice_bounds-last_in-end c = grind (arith, common_steps)

pub slice_bounds-last_in-count : goal.slice_bounds-last_in-count
slice_bounds-last_in-count c = grind (arith, common_steps)

pub slice_bounds-last_in-length : goal.slice_bounds-last_in-length
slice_bounds-last_in-length c = grind (arith, common_steps)

pub overflow_add-result : goal.overflow_add-result
overflow_add-result c = grind (arith, common_steps)
