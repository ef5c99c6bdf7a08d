use Rattle.std.proofs.Common.{◌-◌, length, ap, arith, length-append}
use Rattle.memchr.specs.Find.{is_byte}
use Rattle.teco_search.proofs.Scans.{back_none, back_some, front_some, both_none, both_some}
use Rattle.teco_search.proofs.joined.Joined.first_byte.Goals as goal

pub returns-in_err-place-clause-value : goal.returns-in_err-place-clause-value
returns-in_err-place-clause-value c = rw (c.from_residual.ensures, ← c.self.view_is) (back_none (is_byte c.args.byte) c.self.inside.before.now c.self.inside.after.now c.args.from (c.args.from - length c.self.inside.before.now) (omega arith) (omega (arith, length-append c.self.inside.before.now c.self.inside.after.now, ap length c.self.view_is)) c.in_err-place.ensures)

pub returns-then-from-cut-clause-value : goal.returns-then-from-cut-clause-value
returns-then-from-cut-clause-value c = rw (← c.self.view_is) (back_some (is_byte c.args.byte) c.self.inside.before.now c.self.inside.after.now c.args.from (c.args.from - length c.self.inside.before.now) c.in_ok-place.place (omega arith) (omega (arith, length-append c.self.inside.before.now c.self.inside.after.now, ap length c.self.view_is)) c.in_ok-place.ensures)

pub returns-in-Some-clause-value : goal.returns-in-Some-clause-value
returns-in-Some-clause-value c = rw (← c.self.view_is) (front_some (is_byte c.args.byte) c.self.inside.before.now c.self.inside.after.now c.args.from c.in-Some.place (omega arith) c.in-Some.ensures)

pub returns-in_err-place-2-clause-value : goal.returns-in_err-place-2-clause-value
returns-in_err-place-2-clause-value c = rw (c.from_residual-in_err-place-2.ensures, ← c.self.view_is) (both_none (is_byte c.args.byte) c.self.inside.before.now c.self.inside.after.now c.args.from (omega arith) c.in_default.ensures c.in_err-place-2.ensures)

pub returns-clause-value : goal.returns-clause-value
returns-clause-value c = rw (← c.self.view_is) (both_some (is_byte c.args.byte) c.self.inside.before.now c.self.inside.after.now c.args.from c.in_ok-place-2.place (omega arith) c.in_default.ensures c.in_ok-place-2.ensures)
