use Rattle.std.proofs.Common.{arith}
use Rattle.teco_store.proofs.Outputs.{stored_len}
use Rattle.teco_store.proofs.editor.Editor.forget_beyond.Goals as goal

pub cut-requires-clause-there : goal.cut-requires-clause-there
cut-requires-clause-there c =
    let e = c.self.inside in
    let long = stored_len e.output e.input.items c.self.invariant.1 in
    let within = c.self.invariant.0.stored in
    omega arith
