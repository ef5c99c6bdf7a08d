use Rattle.std.proofs.Common.{drop, refl, sym, ap, ◌∙◌}
use Rattle.teco_exec.specs.CursorMoves as machine
use Rattle.teco_exec.proofs.Frames.{frames_either, frames_kind, frames_nil, or_kind, top_cons}
use Rattle.teco_exec.proofs.cursor.Cursor.pass_turn_end.Goals as goal

pub returns-in-None-clause-comes : goal.returns-in-None-clause-comes
returns-in-None-clause-comes c found = sym (ap (machine.pass_turn_end (drop c.args.to c.args.self.now.text.bytes.now)) (frames_nil c.args.self.now.text.bytes.now c.in-None.ensures))

pub returns-in-Iter-clause-comes : goal.returns-in-Iter-clause-comes
returns-in-Iter-clause-comes c found = sym (ap (machine.pass_turn_end (drop c.args.to c.args.self.now.text.bytes.now)) (frames_kind c.args.self.now.text.bytes.now (top_cons c.args.self.now.blocks c.in-Some.ensures).1 (sym c.kind.ensures ∙ c.in-Iter.is)))

pub returns-in-Then-clause-comes : goal.returns-in-Then-clause-comes
returns-in-Then-clause-comes c found = sym (frames_either c.args.self.now.text.bytes.now (machine.pass_turn_end (drop c.args.to c.args.self.now.text.bytes.now)) (top_cons c.args.self.now.blocks c.in-Some.ensures).1 (or_kind c.kind.ensures c.in-Then.is) refl refl)
