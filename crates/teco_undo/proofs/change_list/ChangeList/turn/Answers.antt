use Rattle.std.proofs.Common.{◌≡◌, ◌∙◌, ap, sym, refl, rules, subst, to_z, of_z, w32}
use Rattle.teco_core.specs.declared.register.Reg.{Reg}
use Rattle.teco_store.specs.ChangeView.{IsHere}
use Rattle.teco_store.specs.Turn as turn
use Rattle.teco_store.specs.Turn.{Note, FitsFull, turn_after}
use Rattle.teco_store.specs.declared.change.SmallChange.TheVariants as small
use Rattle.teco_undo.specs.Slots.{small_of, slot_value}
use Rattle.teco_undo.proofs.Listing.{seen_here, turned_here, in_place-turned}
use Rattle.teco_undo.proofs.Slots.{same_register, number_here}
use Rattle.teco_undo.proofs.change_list.ChangeList.turn.Goals as goal

pub put_number-requires : goal.put_number-requires
put_number-requires c =
    let slot = c.index_mut-slot.result.now in
    let number = c.in-Number-value.number in
    let at : small.Number c.in-Number.q number ≡ small_of slot = number_here slot c.in-Number.q c.in-Number-value.field-0 c.in-Number.field-1 number c.in-Number.is c.in-Number-value.is in
    let seen = seen_here c.self.inside c.args.self.now c.args.i slot (small.Number c.in-Number.q number) c.self.view_is c.requires.within c.index_mut-slot.ensures.value at tt in
    let fits = subst (λ (n : Note). FitsFull n.turn c.args.editor.now) seen c.requires.fits in
    search (rules, fits)

pub invariant_of-self : goal.invariant_of-self
invariant_of-self c =
    let slot = c.index_mut-slot.result.now in
    let at : small.Number c.in-Number-value.field-0 c.in-Number-value.number ≡ small_of slot = sym (ap (slot_value slot.step) c.in-Number-value.is) in
    in_place-turned c.self.inside c.args.i slot _ c.self.invariant c.index_mut-slot.ensures.value (subst IsHere at tt) tt

pub returns-in-Number-value-clause-items : goal.returns-in-Number-value-clause-items
returns-in-Number-value-clause-items c =
    let slot = c.index_mut-slot.result.now in
    let q = c.in-Number.q in
    let number = c.in-Number-value.number in
    let there = to_z w32 (of_z w32 c.put_number.result) in
    let same : q ≡ c.in-Number-value.field-0 = same_register slot.value q c.in-Number-value.field-0 c.in-Number.field-1 number c.in-Number.is c.in-Number-value.is in
    let at : small.Number q number ≡ small_of slot = number_here slot q c.in-Number-value.field-0 c.in-Number.field-1 number c.in-Number.is c.in-Number-value.is in
    let turned : turn.Number q there ≡ turn_after (turn.Number q number) c.args.editor.now.body = search (rules, c.put_number.ensures.number) in
    turned_here c.self.inside c.args.self.now c.args.i slot _ (small.Number q number) c.args.editor.now.body c.self.view_is c.requires.within c.index_mut-slot.ensures.value
    at tt tt refl (ap (λ (r : Reg). turn.Number r there) (sym same) ∙ turned)
