use Rattle.std.proofs.Common.{◌≡◌, ◌∙◌, ◌++◌, ◌∷◌, [], ap, append_assoc, sym}
use Rattle.std.proofs.lemmas.Result.{IfOk-weaker}
use Rattle.std.specs.Prelude.{IfOk, codes}
use Rattle.std.specs.String.{string_bytes}
use Rattle.teco_debugger.proofs.ending.told.Goals as goal

pub returns : goal.returns
returns c =
    let name = c.args.name.now in
    let words = c.args.words.now in
    let made : IfOk c.format.result (λ text. string_bytes text ≡ codes "teco-debug: " ++ (name ++ (words ++ 10 ∷ []))) = c.format.ensures.ok in
    IfOk-weaker c.format.result _ _ (λ text e. e ∙ ap (λ t. codes "teco-debug: " ++ t) (sym (append_assoc name words (10 ∷ [])))) made
