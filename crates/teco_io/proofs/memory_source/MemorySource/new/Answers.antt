use Rattle.std.proofs.Common.{Some, sym, ap, ◌∙◌, length}
use Rattle.teco_io.proofs.Pieces.{concat_pieces}
use Rattle.teco_io.proofs.memory_source.MemorySource.new.Goals as goal

pub returns-clause-coming : goal.returns-clause-coming
returns-clause-coming c = ap (λ bs. Some bs) (concat_pieces 0 c.args.bytes.items c.args.cuts.items)

pub returns-clause-bound : goal.returns-clause-bound
returns-clause-bound c = ap length (concat_pieces 0 c.args.bytes.items c.args.cuts.items) ∙ sym c.args.bytes.ok.0
