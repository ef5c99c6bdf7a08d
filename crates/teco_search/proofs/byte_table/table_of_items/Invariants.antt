use Rattle.std.proofs.Common.{◌≡◌, ◌<◌, ℕ}
use Rattle.std.specs.Prelude.{◌||◌, drop}
use Rattle.std.specs.List.{list_any}
use Rattle.teco_search.specs.ByteSet.{in_table}
use Rattle.teco_search.specs.Element.{item_admits}
use Rattle.teco_search.proofs.byte_table.table_of_items.Given as goal

abbrev pub invariant-items : goal.invariant-items
invariant-items l = (b : ℕ) → b < 256
    → (in_table l.table b || list_any (λ i. item_admits l.mode i b) (drop l.item-index l.items)) ≡ list_any (λ i. item_admits l.mode i b) l.items
