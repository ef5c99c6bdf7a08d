use Rattle.std.proofs.Common.{◌≡◌, ap, map, set, sym, ◌∙◌, refl, rules, subst}
use Rattle.std.proofs.lemmas.List.{set-get_or}
use Rattle.teco_store.specs.ChangeView.{IsHere, small_turn}
use Rattle.teco_store.specs.Turn.{Note, full_after, FitsFull}
use Rattle.teco_undo.specs.Listing.{note_of_slot}
use Rattle.teco_undo.proofs.Listing.{apart_within, seen_apart, seen_here, turned_apart, turned_here, in_place-turned}
use Rattle.teco_undo.proofs.Slots.{slot_has, turned_fits}
use Rattle.teco_store.specs.declared.change.SmallChange.TheVariants as small
use Rattle.teco_undo.proofs.change_list.ChangeList.turn_other.Goals as goal

pub index_mut-requires : goal.index_mut-requires
index_mut-requires c = let lt = apart_within c.self.inside c.args.self.now c.args.i c.in-HeldApart.place c.index_mut-slot.result.now c.self.view_is c.self.invariant c.requires.within c.index_mut-slot.ensures.value (sym c.small.ensures ∙ c.in-HeldApart.is) in search (rules, lt)

pub turn-requires : goal.turn-requires
turn-requires c =
    let seen = seen_apart c.self.inside c.args.self.now c.args.i c.in-HeldApart.place c.index_mut-slot.result.now c.index_mut.result.now c.self.view_is c.self.invariant c.requires.within c.index_mut-slot.ensures.value (sym c.small.ensures ∙ c.in-HeldApart.is) c.index_mut.ensures.value in
    subst (λ (n : Note). FitsFull n.turn c.args.editor.now) seen c.requires.fits

pub returns-in-HeldApart-clause-editor : goal.returns-in-HeldApart-clause-editor
returns-in-HeldApart-clause-editor c =
    let seen = seen_apart c.self.inside c.args.self.now c.args.i c.in-HeldApart.place c.index_mut-slot.result.now c.index_mut.result.now c.self.view_is c.self.invariant c.requires.within c.index_mut-slot.ensures.value (sym c.small.ensures ∙ c.in-HeldApart.is) c.index_mut.ensures.value in
    c.turn.ensures.editor ∙ ap (λ (n : Note). full_after n.turn c.args.editor.now) (sym seen)

pub returns-in-HeldApart-clause-items : goal.returns-in-HeldApart-clause-items
returns-in-HeldApart-clause-items c =
    let slot = c.index_mut-slot.result.now in
    let slots = c.self.inside.slots.items in
    let same : set slots c.args.i slot ≡ slots = ap (set slots c.args.i) c.index_mut-slot.ensures.value ∙ set-get_or slots c.args.i slot in
    ap (map (note_of_slot (set c.self.inside.apart.items c.in-HeldApart.place c.turn.new.self))) same
    ∙ turned_apart c.self.inside c.args.self.now c.args.i c.in-HeldApart.place c.index_mut-slot.result.now c.index_mut.result.now c.turn.new.self c.args.editor.now.body c.self.view_is c.self.invariant c.requires.within c.index_mut-slot.ensures.value (sym c.small.ensures ∙ c.in-HeldApart.is) c.index_mut.ensures.value c.turn.ensures.change

pub invariant_of-self-in_default : goal.invariant_of-self-in_default
invariant_of-self-in_default c =
    let here : IsHere c.small.result = search rules in
    in_place-turned c.self.inside c.args.i c.index_mut-slot.result.now _ c.self.invariant c.index_mut-slot.ensures.value (subst IsHere c.small.ensures here) (subst IsHere (sym (c.of-value.ensures _)) c.put_small.ensures.here)

pub returns-in_default : goal.returns-in_default
returns-in_default c =
    let here : IsHere c.small.result = search rules in
    let seen = seen_here c.self.inside c.args.self.now c.args.i c.index_mut-slot.result.now c.small.result c.self.view_is c.requires.within c.index_mut-slot.ensures.value c.small.ensures here in
    let held = c.of-value.ensures c.index_mut-slot.result.now.step in
    record {
      editor = c.put_small.ensures.editor ∙ ap (λ (n : Note). full_after n.turn c.args.editor.now) (sym seen);
      items = turned_here c.self.inside c.args.self.now c.args.i c.index_mut-slot.result.now _ c.small.result c.args.editor.now.body c.self.view_is c.requires.within c.index_mut-slot.ensures.value c.small.ensures here
          (subst IsHere (sym held) c.put_small.ensures.here) refl (ap small_turn held ∙ c.put_small.ensures.small);
    }

pub of-value-requires : goal.of-value-requires
of-value-requires c =
    let here : IsHere c.small.result = search rules in
    let seen = seen_here c.self.inside c.args.self.now c.args.i c.index_mut-slot.result.now c.small.result c.self.view_is c.requires.within c.index_mut-slot.ensures.value c.small.ensures here in
    let fits = subst (λ (n : Note). FitsFull n.turn c.args.editor.now) seen c.requires.fits in
    turned_fits c.args.editor.now.room _ c.small.result c.put_small.result c.args.editor.now.body (slot_has c.index_mut-slot.result.now c.small.result c.small.ensures here) c.shown-shown.ensures.sound fits c.put_small.ensures.small

pub swap_pointer-requires : goal.swap_pointer-requires
swap_pointer-requires c =
    let at = sym c.in-Point.is ∙ c.small.ensures in
    let seen = seen_here c.self.inside c.args.self.now c.args.i c.index_mut-slot.result.now (small.Point c.in-Point.pointer) c.self.view_is c.requires.within c.index_mut-slot.ensures.value at tt in
    let fits = subst (λ (n : Note). FitsFull n.turn c.args.editor.now) seen c.requires.fits in
    search (rules, fits)

pub invariant_of-self-in-Point : goal.invariant_of-self-in-Point
invariant_of-self-in-Point c =
    let at = sym c.in-Point.is ∙ c.small.ensures in
    in_place-turned c.self.inside c.args.i c.index_mut-slot.result.now _ c.self.invariant c.index_mut-slot.ensures.value (subst IsHere at tt) tt

pub returns-in-Point-clause-editor : goal.returns-in-Point-clause-editor
returns-in-Point-clause-editor c =
    let at = sym c.in-Point.is ∙ c.small.ensures in
    let seen = seen_here c.self.inside c.args.self.now c.args.i c.index_mut-slot.result.now (small.Point c.in-Point.pointer) c.self.view_is c.requires.within c.index_mut-slot.ensures.value at tt in
    c.swap_pointer.ensures.editor ∙ ap (λ (n : Note). full_after n.turn c.args.editor.now) (sym seen)

pub returns-in-Point-clause-items : goal.returns-in-Point-clause-items
returns-in-Point-clause-items c =
    let at = sym c.in-Point.is ∙ c.small.ensures in
    turned_here c.self.inside c.args.self.now c.args.i c.index_mut-slot.result.now _ (small.Point c.in-Point.pointer) c.args.editor.now.body c.self.view_is c.requires.within c.index_mut-slot.ensures.value
    at tt tt refl c.swap_pointer.ensures.pointer
