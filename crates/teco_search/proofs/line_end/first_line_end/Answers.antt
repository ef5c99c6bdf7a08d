use Rattle.std.proofs.Common.{◌-◌, length, arith, length-append}
use Rattle.teco_core.specs.Ascii.{is_line_end}
use Rattle.teco_search.proofs.Scans.{back_none, back_some, front_some, both_none, both_some}
use Rattle.teco_search.proofs.line_end.first_line_end.Goals as goal

pub returns-in_err-place : goal.returns-in_err-place
returns-in_err-place c = rw c.from_residual.ensures (back_none is_line_end c.args.halves.0.now c.args.halves.1.now c.args.from (c.args.from - length c.args.halves.0.now) (omega arith) (omega (arith, length-append c.args.halves.0.now c.args.halves.1.now)) c.in_err-place.ensures)

pub returns-then-from-cut : goal.returns-then-from-cut
returns-then-from-cut c = back_some is_line_end c.args.halves.0.now c.args.halves.1.now c.args.from (c.args.from - length c.args.halves.0.now) c.in_ok-place.place (omega arith) (omega (arith, length-append c.args.halves.0.now c.args.halves.1.now)) c.in_ok-place.ensures

pub returns-in-Some : goal.returns-in-Some
returns-in-Some c = front_some is_line_end c.args.halves.0.now c.args.halves.1.now c.args.from c.in-Some.place (omega arith) c.in-Some.ensures

pub returns-in_err-place-2 : goal.returns-in_err-place-2
returns-in_err-place-2 c = rw c.from_residual-in_err-place-2.ensures (both_none is_line_end c.args.halves.0.now c.args.halves.1.now c.args.from (omega arith) c.in_default.ensures c.in_err-place-2.ensures)

pub returns : goal.returns
returns c = both_some is_line_end c.args.halves.0.now c.args.halves.1.now c.args.from c.in_ok-place-2.place (omega arith) c.in_default.ensures c.in_ok-place-2.ensures
