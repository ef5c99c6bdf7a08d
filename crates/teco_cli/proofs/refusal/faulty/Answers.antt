use Rattle.std.proofs.Common.{◌∙◌, ◌++◌, ◌∷◌, [], ap, append_assoc, refl, sym}
use Rattle.std.specs.Prelude.{Some, codes}
use Rattle.teco_cli.proofs.refusal.faulty.Goals as goal

pub returns : goal.returns
returns c =
    let why = c.args.why.now in
    let usage = c.args.usage.now in
    let before = 10 ∷ 10 ∷ codes "Usage: " in
    let end = 10 ∷ 10 ∷ codes "For more information, try '--help'." in
    let joined = append_assoc (why ++ before ++ usage) end (10 ∷ []) ∙ append_assoc (why ++ before) usage (end ++ 10 ∷ []) ∙ append_assoc why before (usage ++ (end ++ 10 ∷ [])) in
    record { refused_as = refl; text = ap Some (c.in_ok-text.ensures.ok ∙ ap (λ t. codes "error: " ++ t) (sym joined)) }
