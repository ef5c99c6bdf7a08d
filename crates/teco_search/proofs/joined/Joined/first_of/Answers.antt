use Rattle.std.proofs.Common.{◌-◌, length, ap, arith, length-append}
use Rattle.teco_search.specs.ByteSet.{contains}
use Rattle.teco_search.proofs.Scans.{back_none, back_some, front_some, both_none, both_some}
use Rattle.teco_search.proofs.joined.Joined.first_of.Goals as goal

pub returns-in_err-place : goal.returns-in_err-place
returns-in_err-place c = rw (c.from_residual.ensures, ← c.self.view_is) (back_none (contains c.args.set.now) c.self.inside.before.now c.self.inside.after.now c.args.from (c.args.from - length c.self.inside.before.now) (omega arith) (omega (arith, length-append c.self.inside.before.now c.self.inside.after.now, ap length c.self.view_is)) c.in_err-place.ensures)

pub returns-then-from-cut : goal.returns-then-from-cut
returns-then-from-cut c = rw (← c.self.view_is) (back_some (contains c.args.set.now) c.self.inside.before.now c.self.inside.after.now c.args.from (c.args.from - length c.self.inside.before.now) c.in_ok-place.place (omega arith) (omega (arith, length-append c.self.inside.before.now c.self.inside.after.now, ap length c.self.view_is)) c.in_ok-place.ensures)

pub returns-in-Some : goal.returns-in-Some
returns-in-Some c = rw (← c.self.view_is) (front_some (contains c.args.set.now) c.self.inside.before.now c.self.inside.after.now c.args.from c.in-Some.place (omega arith) c.in-Some.ensures)

pub returns-in_err-place-2 : goal.returns-in_err-place-2
returns-in_err-place-2 c = rw (c.from_residual-in_err-place-2.ensures, ← c.self.view_is) (both_none (contains c.args.set.now) c.self.inside.before.now c.self.inside.after.now c.args.from (omega arith) c.in_default.ensures c.in_err-place-2.ensures)

pub returns : goal.returns
returns c = rw (← c.self.view_is) (both_some (contains c.args.set.now) c.self.inside.before.now c.self.inside.after.now c.args.from c.in_ok-place-2.place (omega arith) c.in_default.ensures c.in_ok-place-2.ensures)
