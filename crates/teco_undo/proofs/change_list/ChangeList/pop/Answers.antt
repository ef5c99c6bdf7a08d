use Rattle.std.proofs.Common.{◌∙◌, ap, subst, sym, length, rules, List}
use Rattle.teco_store.specs.ChangeView.{IsHere}
use Rattle.teco_undo.specs.Listing.{ChangeListing, AreInPlace}
use Rattle.teco_undo.specs.declared.slot.Slot.{Slot}
use Rattle.teco_undo.proofs.Listing.{in_place-less, in_place-pop_here, none_apart, notes-less}
use Rattle.teco_undo.proofs.change_list.ChangeList.pop.Goals as goal

pub unreachable-requires : goal.unreachable-requires
unreachable-requires c =
    let some = none_apart c.self.inside.slots.items c.pop.new.self.items c.self.inside.apart.items c.in-HeldApart.field-0 c.in-Some.slot c.self.invariant c.in-Some.ensures.items (sym c.small.ensures ∙ c.in-HeldApart.is) in
    let none = c.in-None.ensures.cases in
    search (rules, some, none)

pub invariant_of-self-in-HeldApart : goal.invariant_of-self-in-HeldApart
invariant_of-self-in-HeldApart c =
    (in_place-less c.self.inside.slots.items c.pop.new.self.items c.self.inside.apart.items c.pop-in-HeldApart.new.self.items c.in-Some-pop.change c.in-HeldApart.field-0 c.in-Some.slot c.self.invariant
    c.in-Some.ensures.items c.in-Some-pop.ensures.items (sym c.small.ensures ∙ c.in-HeldApart.is)).1

pub invariant_of-self-in_default-small : goal.invariant_of-self-in_default-small
invariant_of-self-in_default-small c =
    let here : IsHere c.small.result = search rules in
    in_place-pop_here 0 c.pop.new.self.items (length c.self.inside.apart.items) c.in-Some.slot
    (subst (λ (ss : List Slot). AreInPlace 0 ss (length c.self.inside.apart.items)) c.in-Some.ensures.items c.self.invariant) (subst IsHere c.small.ensures here)

pub returns-in-Some-pop-clause-items : goal.returns-in-Some-pop-clause-items
returns-in-Some-pop-clause-items c =
    let less = notes-less c.self.inside.slots.items c.pop.new.self.items c.self.inside.apart.items c.pop-in-HeldApart.new.self.items c.in-Some-pop.change c.in-HeldApart.field-0 c.in-Some.slot c.self.invariant
    c.in-Some.ensures.items c.in-Some-pop.ensures.items (sym c.small.ensures ∙ c.in-HeldApart.is) in
    ap (λ (x : ChangeListing). x.items) (sym c.self.view_is) ∙ less
