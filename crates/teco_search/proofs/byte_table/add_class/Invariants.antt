use Rattle.teco_search.specs.Element.{is_in}
use Rattle.teco_search.proofs.Tables.{AddsBelow}
use Rattle.teco_search.proofs.byte_table.add_class.Given as goal

abbrev pub invariant-bytes : goal.invariant-bytes
invariant-bytes l = AddsBelow l.initial.table l.table (is_in l.class) l.byte
