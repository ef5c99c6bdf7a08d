use Rattle.std.proofs.Common.{◌≡◌, ◌∙◌, ap, length, rules, [], ◌∷◌, ◌++◌}
use Rattle.teco_undo.specs.Listing.{ChangeListing}
use Rattle.teco_store.specs.Turn.{Note}
use Rattle.teco_undo.specs.declared.slot.Slot.{Slot}
use Rattle.teco_undo.proofs.Listing.{pushed_apart}
use Rattle.teco_undo.proofs.change_list.ChangeList.push_apart.Goals as goal

pub invariant_of-self : goal.invariant_of-self
invariant_of-self c =
    let is : c.len.result ≡ length c.self.inside.apart.items = search rules in
    let y : Slot = record { step = c.halves_of-high.result.0; value = c.halves_of-high.result.1 } in
    (pushed_apart c.self.inside.slots.items c.push_reserved-2.new.self.items c.self.inside.apart.items c.push_reserved.new.self.items c.len.result y _ c.self.invariant is
    c.halves_of-high.ensures c.push_reserved-2.ensures.items c.push_reserved.ensures.items).in_place

pub returns-clause-items : goal.returns-clause-items
returns-clause-items c =
    let is : c.len.result ≡ length c.self.inside.apart.items = search rules in
    let y : Slot = record { step = c.halves_of-high.result.0; value = c.halves_of-high.result.1 } in
    (pushed_apart c.self.inside.slots.items c.push_reserved-2.new.self.items c.self.inside.apart.items c.push_reserved.new.self.items c.len.result y _ c.self.invariant is
    c.halves_of-high.ensures c.push_reserved-2.ensures.items c.push_reserved.ensures.items).notes
    ∙ ap (λ (x : ChangeListing). x.items ++ c.new.result ∷ []) c.self.view_is ∙ ap (λ (n : Note). c.args.self.now.items ++ n ∷ []) c.new.ensures
