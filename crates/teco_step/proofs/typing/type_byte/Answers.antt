use Rattle.std.proofs.Common.{arith}
use Rattle.std.proofs.lemmas.Grind.{common_steps}
use Rattle.teco_step.proofs.typing.type_byte.Goals as goal

pub returns-in_err-takes_one : goal.returns-in_err-takes_one
returns-in_err-takes_one g c = grind (arith, common_steps)

pub returns-in_err-byte : goal.returns-in_err-byte
returns-in_err-byte g c = grind (arith, common_steps)

pub returns : goal.returns
returns g c = grind (arith, common_steps)
