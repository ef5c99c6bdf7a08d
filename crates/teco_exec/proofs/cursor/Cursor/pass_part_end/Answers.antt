use Rattle.std.proofs.Common.{drop, refl, sym, ap, ◌∙◌}
use Rattle.teco_exec.specs.CursorMoves as machine
use Rattle.teco_exec.specs.Frames.{frames}
use Rattle.teco_exec.proofs.Frames.{begin_outer, closes_top, top_cons, frames_either, frames_kind, frames_nil, or_kind}
use Rattle.teco_exec.proofs.cursor.Cursor.pass_part_end.Goals as goal

pub invariant_of-self-clause-begin : goal.invariant_of-self-clause-begin
invariant_of-self-clause-begin c = begin_outer (closes_top c.in-Some.block c.pop.new.self c.pop.result (top_cons c.args.self.now.blocks c.in-Some.ensures).1 c.pop.ensures) c.args.self.now.begin

pub returns-in-None-clause-comes : goal.returns-in-None-clause-comes
returns-in-None-clause-comes c found = sym (ap (machine.pass_part_end (drop c.args.to c.args.self.now.text.bytes.now)) (frames_nil c.args.self.now.text.bytes.now c.in-None.ensures))

pub returns-in-Iter-clause-comes : goal.returns-in-Iter-clause-comes
returns-in-Iter-clause-comes c found = sym (ap (machine.pass_part_end (drop c.args.to c.args.self.now.text.bytes.now)) (frames_kind c.args.self.now.text.bytes.now (top_cons c.args.self.now.blocks c.in-Some.ensures).1 (sym c.kind.ensures ∙ c.in-Iter.is)))

pub returns-in-Then-clause-comes : goal.returns-in-Then-clause-comes
returns-in-Then-clause-comes c found =
    let text = c.args.self.now.text.bytes.now in
    ap (λ a. machine.passed_to (record { args = a; left = drop c.args.to text; blocks = frames text c.pop.new.self })) c.clear.ensures
    ∙ sym (frames_either text (machine.pass_part_end (drop c.args.to text)) (closes_top c.in-Some.block c.pop.new.self c.pop.result (top_cons c.args.self.now.blocks c.in-Some.ensures).1 c.pop.ensures) (or_kind c.kind.ensures c.in-Then.is) refl refl)
