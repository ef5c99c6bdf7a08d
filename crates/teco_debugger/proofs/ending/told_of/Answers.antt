use Rattle.std.proofs.Common.{◌≡◌, ◌∙◌, ◌++◌, ap, append_assoc, sym}
use Rattle.std.proofs.lemmas.Result.{IfOk-weaker}
use Rattle.std.specs.Prelude.{IfOk, codes}
use Rattle.std.specs.String.{string_bytes}
use Rattle.teco_debugger.proofs.ending.told_of.Goals as goal

pub returns : goal.returns
returns c =
    let what = c.args.what.now in
    let name = c.args.name.now in
    let words = c.args.words.now in
    let end = codes "\n" in
    let made : IfOk c.format.result (λ text. string_bytes text ≡ codes "teco-debug: " ++ (what ++ (name ++ (words ++ end)))) = c.format.ensures.ok in
    IfOk-weaker c.format.result _ _
    (λ text e. e ∙ ap (λ t. codes "teco-debug: " ++ t)
    (sym (append_assoc what (name ++ words) end ∙ ap (λ t. what ++ t) (append_assoc name words end))))
    made
