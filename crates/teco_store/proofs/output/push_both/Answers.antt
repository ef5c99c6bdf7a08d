use Rattle.std.proofs.Common.{◌∙◌, ◌∷◌, [], ◌++◌, ap, refl, subst, sym, List}
use Rattle.std.proofs.lemmas.List.Elements.{All-push}
use Rattle.teco_store.specs.Output.{IsMore}
use Rattle.teco_store.specs.Parts.{IsOrdered}
use Rattle.teco_store.specs.declared.parts.Part.{Part}
use Rattle.teco_store.proofs.Fronts.{more_joined, more_pushed}
use Rattle.teco_store.proofs.output.push_both.Goals as goal

pub returns-in-Some-clause-more : goal.returns-in-Some-clause-more
returns-in-Some-clause-more c =
    let ps = c.args.parts.now.items in
    let last = c.args.last in
    subst (λ (l : List Part). IsMore (ps ++ last ∷ []) c.args.part l) (sym c.push_within.ensures.items)
    (more_joined (ps ++ last ∷ []) ps last c.args.part c.in-Some.both refl c.requires.ordered.0 c.in-Some.ensures)

pub returns-in-None-clause-more : goal.returns-in-None-clause-more
returns-in-None-clause-more c =
    let ps = c.args.parts.now.items in
    let last = c.args.last in
    subst (λ (l : List Part). IsMore (ps ++ last ∷ []) c.args.part l)
    (sym (c.push_within-in-None-2.ensures.items ∙ ap (λ (l : List Part). l ++ c.args.part ∷ []) c.push_within-in-None.ensures.items))
    (more_pushed (ps ++ last ∷ []) c.args.part (All-push IsOrdered ps last c.requires.ordered.0 c.requires.ordered.1) c.requires.ordered.2)
