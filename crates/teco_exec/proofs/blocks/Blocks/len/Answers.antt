use Rattle.std.proofs.Common.{ap, arith, length, sym, ◌∙◌}
use Rattle.std.proofs.lemmas.List.{length-reverse, length-take-le}
use Rattle.teco_exec.proofs.blocks.Blocks.len.Goals as goal

pub returns-clause-value : goal.returns-clause-value
returns-clause-value c =
    sym (length-take-le c.self.inside.depth c.self.inside.open.now (omega (arith, c.self.invariant))) ∙ sym (length-reverse _) ∙ ap length c.self.view_is
