use Rattle.std.proofs.Common.{arith}
use Rattle.teco_store.proofs.Outputs.{stored_len}
use Rattle.teco_store.proofs.output.Output.make_room.Goals as goal

pub cut_at-cut-requires-clause-there : goal.cut_at-cut-requires-clause-there
cut_at-cut-requires-clause-there c = let long = stored_len c.args.self.now c.args.input.now c.requires.part in omega arith
