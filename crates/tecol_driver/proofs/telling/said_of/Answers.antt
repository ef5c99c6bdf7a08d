use Rattle.std.proofs.Common.{◌≡◌, ◌∙◌, ◌++◌, ◌∷◌, [], ap, append_assoc, sym}
use Rattle.std.proofs.lemmas.Result.{IfOk-weaker}
use Rattle.std.specs.Prelude.{IfOk, codes}
use Rattle.std.specs.String.{string_bytes}
use Rattle.tecol_driver.proofs.telling.said_of.Goals as goal

pub returns : goal.returns
returns c =
    let before = c.args.before.now in
    let name = c.args.name.now in
    let after = c.args.after.now in
    let joined = append_assoc (before ++ name) after (10 ∷ []) ∙ append_assoc before name (after ++ 10 ∷ []) in
    let made : IfOk c.format.result (λ text. string_bytes text ≡ codes "tecol: " ++ (before ++ (name ++ (after ++ 10 ∷ [])))) = c.format.ensures.ok in
    IfOk-weaker c.format.result _ _ (λ text e. e ∙ ap (λ t. codes "tecol: " ++ t) (sym joined)) made
