use Rattle.std.proofs.Common.{◌≡◌, ◌+◌, ◌++◌, ◌∷◌, [], take, get_or, sym, ap, ◌∙◌, refl, arith}
use Rattle.std.proofs.Output.{has_written_append, has_written_of_eq}
use Rattle.std.proofs.lemmas.List.{take_more}
use Rattle.std.specs.Prelude.{codes}
use Rattle.teco_search.specs.declared.element.SetItem.TheVariants.{Byte}
use Rattle.teco_search.specs.Shown.{shown_item, shown_items}
use Rattle.teco_search.proofs.Commas.{before_next, items_more, before_more}
use Rattle.teco_search.proofs.element.ItemsDisplay.fmt.Goals as goal

-- (a comma is text)
pub items-preserved : goal.items-preserved
unfolding lib.Utf8.encode
items-preserved g c =
    let is = c.as_slice-item-items.result.now in
    let at = c.items.item-index in
    let item = get_or is at (Byte 0) in
    let more : take (at + 1) is ≡ take at is ++ item ∷ [] = take_more is at (Byte 0) (omega arith) in (
      (codes ",", (refl, refl)),
      before_more (take at is) item ∙ sym (ap before_next more),
      λ whole.
          let so_far = c.items.invariant.2 whole in
          has_written_of_eq _ _ _ _ _
          (ap (λ b. shown_items (take at is) ++ (b ++ shown_item item)) c.items.invariant.1 ∙ sym (items_more (take at is) item) ∙ sym (ap shown_items more))
          (has_written_append _ _ _ _ _ _ so_far (c.in_ok-write.ensures.writes so_far.plain refl)),
    )
