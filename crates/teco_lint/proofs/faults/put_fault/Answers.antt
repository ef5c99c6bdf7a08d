use Rattle.teco_lint.proofs.Told.{any_insert}
use Rattle.teco_lint.proofs.faults.put_fault.Goals as goal

pub returns-clause-kept : goal.returns-clause-kept
returns-clause-kept c = λ test was. any_insert test c.args.faults.now.items c.loop-at.at c.args.fault c.insert.new.self.items c.in_ok-insert.ensures.items was
