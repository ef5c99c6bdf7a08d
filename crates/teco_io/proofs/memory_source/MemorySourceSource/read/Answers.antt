use Rattle.std.proofs.Common.{length}
use Rattle.teco_io.proofs.Pieces.{gives_ok, gives_err}
use Rattle.teco_io.proofs.memory_source.MemorySourceSource.read.Goals as goal

pub returns-clause-ok : goal.returns-clause-ok
returns-clause-ok c = gives_ok c.args.self.now c.give.new.self (length c.args.piece.now) c.give.new.room c.give.ensures.leaves c.give.result c.give.ensures.gives c.give.ensures.count

pub returns-clause-err : goal.returns-clause-err
returns-clause-err c = gives_err c.args.self.now c.give.new.self (length c.args.piece.now) c.give.new.room c.give.ensures.leaves c.give.result (λ e. (c.give.ensures.fails.0 e).1) c.give.ensures.count c.give.ensures.err
