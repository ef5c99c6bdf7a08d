-- Items that are shown one after the other, with a comma before each but the first.
use Rattle.std.proofs.Common.{◌≡◌, ℕ, List, [], ◌∷◌, ◌++◌, sym, ap, ◌∙◌, refl}
use Rattle.std.proofs.lemmas.List.{append-nil, append_assoc}
use Rattle.std.specs.Prelude.{codes}
use Rattle.std.specs.List.{flat_map}
use Rattle.teco_search.specs.declared.element.SetItem.{SetItem}
use Rattle.teco_search.specs.Shown.{shown_item, shown_items, shown_other}

-- what comes before the item after these
abbrev pub before_next : List SetItem → List ℕ
before_next [] = []
before_next (i ∷ is) = codes ","

others_more : (is : List SetItem) (j : SetItem) → flat_map shown_other (is ++ j ∷ []) ≡ flat_map shown_other is ++ shown_other j
others_more [] j = append-nil (shown_other j)
others_more (i ∷ is) j = ap (λ o. shown_other i ++ o) (others_more is j) ∙ sym (append_assoc (shown_other i) (flat_map shown_other is) (shown_other j))

pub items_more : (is : List SetItem) (j : SetItem) → shown_items (is ++ j ∷ []) ≡ shown_items is ++ (before_next is ++ shown_item j)
items_more [] j = append-nil (shown_item j)
items_more (i ∷ is) j = ap (λ o. shown_item i ++ o) (others_more is j) ∙ sym (append_assoc (shown_item i) (flat_map shown_other is) (shown_other j))

pub before_more : (is : List SetItem) (j : SetItem) → codes "," ≡ before_next (is ++ j ∷ [])
before_more [] j = refl
before_more (i ∷ is) j = refl
