use Rattle.std.proofs.Common.{refl}
use Rattle.teco_search.proofs.Tables.{in_table-none}
use Rattle.teco_search.proofs.byte_table.table_of_items.Goals as goal

pub items-init : goal.items-init
items-init c = λ b below. rw (in_table-none b below) refl
