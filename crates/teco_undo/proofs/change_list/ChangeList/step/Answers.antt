use Rattle.std.proofs.Common.{ap, sym, ◌∙◌, rules}
use Rattle.teco_store.specs.Turn.{Note}
use Rattle.teco_undo.proofs.Listing.{apart_within, seen_apart}
use Rattle.teco_undo.proofs.change_list.ChangeList.step.Goals as goal

pub index-requires-in-HeldApart : goal.index-requires-in-HeldApart
index-requires-in-HeldApart c = let lt = apart_within c.self.inside c.args.self.now c.args.i c.in-HeldApart.place c.index.result.now c.self.view_is c.self.invariant c.requires c.index.ensures (sym c.small.ensures ∙ c.in-HeldApart.is) in search (rules, lt)

pub returns-in-HeldApart : goal.returns-in-HeldApart
returns-in-HeldApart c =
    let seen = seen_apart c.self.inside c.args.self.now c.args.i c.in-HeldApart.place c.index.result.now c.index-in-HeldApart.result.now c.self.view_is c.self.invariant c.requires c.index.ensures (sym c.small.ensures ∙ c.in-HeldApart.is) c.index-in-HeldApart.ensures in
    c.step.ensures ∙ ap (λ (n : Note). n.step) (sym seen)
