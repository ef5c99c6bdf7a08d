use Rattle.std.proofs.Common.{rules, arith}
use Rattle.std.proofs.lemmas.Grind.{common_steps}
use Rattle.teco_source.proofs.writer.spell_byte.Goals as goal

pub returns-in-94 : goal.returns-in-94
returns-in-94 c = search rules

pub returns : goal.returns
returns c = grind (arith, common_steps)
