use Rattle.std.proofs.Common.{arith}
use Rattle.std.proofs.lemmas.Grind.{common_steps, elements}
use Rattle.teco_search.specs.Element.{item_admits}
use Rattle.teco_search.proofs.byte_table.add_item.Goals as goal

pub returns-in-Byte : goal.returns-in-Byte
unfolding item_admits
returns-in-Byte c = grind (arith, common_steps)

pub returns-in-Byte-2 : goal.returns-in-Byte-2
unfolding item_admits
returns-in-Byte-2 c = grind (arith, elements)
