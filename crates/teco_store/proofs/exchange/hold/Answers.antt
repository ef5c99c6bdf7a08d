use Rattle.std.proofs.Common.{◌≡◌, ◌∙◌, ◌+◌, ◌++◌, ℕ, List, ap, append_assoc, drop, take}
use Rattle.std.proofs.lemmas.List.{drop-take}
use Rattle.teco_gap.specs.Gap.{text}
use Rattle.teco_store.proofs.exchange.hold.Goals as goal

pub returns-clause-items : goal.returns-clause-items
returns-clause-items c =
    let at = c.args.at in
    let there = c.args.there in
    let held = c.args.held.now.items in
    let p = c.part.result.0.now in
    let q = c.part.result.1.now in
    let whole : c.halves.result.0.now ++ c.halves.result.1.now ≡ text c.args.buffer.now = cc in
    c.append_within-2.ensures.items ∙ ap (λ (l : List ℕ). l ++ q) c.append_within.ensures.items ∙ append_assoc held p q
    ∙ ap (λ (l : List ℕ). held ++ l) (c.part.ensures.joined ∙ ap (λ (l : List ℕ). drop at (take (at + there) l)) whole ∙ drop-take at there (text c.args.buffer.now))
