use Rattle.std.proofs.Common.{ap, sym, ◌∙◌, rules, get_or}
use Rattle.teco_store.specs.ChangeView.{IsHere}
use Rattle.teco_store.specs.Kinds.{kind_of}
use Rattle.teco_undo.specs.Listing.{no_note}
use Rattle.teco_store.specs.Turn.{Note}
use Rattle.teco_undo.proofs.Listing.{apart_within, seen_apart, seen_here}
use Rattle.teco_undo.proofs.change_list.ChangeList.kind.Goals as goal

pub index-requires-in-HeldApart : goal.index-requires-in-HeldApart
index-requires-in-HeldApart c =
    let lt = apart_within c.self.inside c.args.self.now c.args.i c.in-HeldApart.place c.index.result.now c.self.view_is c.self.invariant c.requires c.index.ensures (sym c.small.ensures ∙ c.in-HeldApart.is) in
    search (rules, lt)

pub returns-in-HeldApart : goal.returns-in-HeldApart
returns-in-HeldApart c =
    let seen = seen_apart c.self.inside c.args.self.now c.args.i c.in-HeldApart.place c.index.result.now c.index-in-HeldApart.result.now c.self.view_is c.self.invariant c.requires c.index.ensures (sym c.small.ensures ∙ c.in-HeldApart.is) c.index-in-HeldApart.ensures in
    let tells = c.change_laws.ensures c.kind.result (get_or c.args.self.now.items c.args.i no_note).turn (c.kind.ensures.kind ∙ ap (λ (n : Note). kind_of n.turn) (sym seen)) in
    record { kind = tells.kind_is; only = tells.only; back = tells.back }

pub returns-in_default : goal.returns-in_default
returns-in_default c =
    let here : IsHere c.small.result = search rules in
    let seen = seen_here c.self.inside c.args.self.now c.args.i c.index.result.now c.small.result c.self.view_is c.requires c.index.ensures c.small.ensures here in
    let tells = c.change_laws.ensures c.kind-in_default.result (get_or c.args.self.now.items c.args.i no_note).turn (c.kind-in_default.ensures ∙ ap (λ (n : Note). kind_of n.turn) (sym seen)) in
    record { kind = tells.kind_is; only = tells.only; back = tells.back }
