use Rattle.std.proofs.Common.{Err, Ok, drop, refl, sym, ap, ◌∙◌}
use Rattle.teco_scan.specs.Lists.{broken}
use Rattle.teco_scan.specs.declared.blocks.Kind.TheVariants.{Else}
use Rattle.teco_exec.specs.CursorMoves as machine
use Rattle.teco_exec.proofs.Frames.{begin_outer, closes_top, top_cons, divides_on, divides_then, frames_either, frames_nil, or_kind}
use Rattle.teco_exec.proofs.Refused.{fault_is_finished}
use Rattle.teco_exec.proofs.Remembering.{closes_there, same_cursor}
use Rattle.teco_exec.proofs.cursor.Cursor.pass_divider.Goals as goal

pub returns-in-None-clause-comes : goal.returns-in-None-clause-comes
returns-in-None-clause-comes c found = sym (ap (machine.pass_divider c.args.self.now.text.profile (drop c.args.to c.args.self.now.text.bytes.now)) (frames_nil c.args.self.now.text.bytes.now c.in-None.ensures))

pub returns-in-Iter-clause-comes : goal.returns-in-Iter-clause-comes
returns-in-Iter-clause-comes c found = sym (frames_either c.args.self.now.text.bytes.now (machine.pass_divider c.args.self.now.text.profile (drop c.args.to c.args.self.now.text.bytes.now)) (top_cons c.args.self.now.blocks c.in-Some.ensures).1 (or_kind c.kind.ensures c.in-Iter.is) refl refl)

pub returns-in-Err-clause-comes : goal.returns-in-Err-clause-comes
returns-in-Err-clause-comes c found =
    let text = c.args.self.now.text.bytes.now in
    divides_then c.args.self.now.text.profile text (drop c.args.to text) (broken c.in-Err.code) (top_cons c.args.self.now.blocks c.in-Some.ensures).1 (sym c.kind.ensures ∙ c.in-Then.is) c.len-depth.ensures.value (closes_there c.args.self.now.same (Err c.in-Err.code) Else c.len-depth.result c.args.to c.in-Err.ensures.closes)

pub returns-in-Ok-clause-comes : goal.returns-in-Ok-clause-comes
returns-in-Ok-clause-comes c found =
    let text = c.args.self.now.text.bytes.now in
    let stop = c.in-Ok.stop in
    divides_on c.args.self.now.text.profile text (drop c.args.to text) (drop stop.to text) stop.divided c.clear.ensures (closes_top c.in-Some.block c.pop.new.self c.pop.result (top_cons c.args.self.now.blocks c.in-Some.ensures).1 c.pop.ensures) (sym c.kind.ensures ∙ c.in-Then.is) c.len-depth.ensures.value (closes_there c.args.self.now.same (Ok stop) Else c.len-depth.result c.args.to c.in-Ok.ensures.closes)

pub invariant_of-self-in-Ok-clause-begin : goal.invariant_of-self-in-Ok-clause-begin
invariant_of-self-in-Ok-clause-begin c = begin_outer (closes_top c.in-Some.block c.pop.new.self c.pop.result (top_cons c.args.self.now.blocks c.in-Some.ensures).1 c.pop.ensures) c.args.self.now.begin

pub returns-in-Err-clause-told : goal.returns-in-Err-clause-told
returns-in-Err-clause-told c found = (fault_is_finished c.in-Err.code c.in-Err.ensures.fault, same_cursor _ c.args.self.now refl refl refl refl c.skip.ensures.text)
