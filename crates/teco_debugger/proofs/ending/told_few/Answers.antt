use Rattle.std.proofs.Common.{◌≡◌, ◌∙◌, ◌++◌, ap, append_assoc, sym}
use Rattle.std.proofs.lemmas.Result.{IfOk-weaker}
use Rattle.std.specs.Prelude.{IfOk, codes, decimal}
use Rattle.std.specs.String.{string_bytes}
use Rattle.teco_debugger.proofs.ending.told_few.Goals as goal

pub returns : goal.returns
returns c =
    let name = c.args.name.now in
    let words = codes " has no such string, but " in
    let number = decimal c.args.strings in
    let end = codes "\n" in
    let made : IfOk c.format.result (λ text. string_bytes text ≡ codes "teco-debug: " ++ (name ++ (words ++ (number ++ end)))) = c.format.ensures.ok in
    IfOk-weaker c.format.result _ _
    (λ text e. e ∙ ap (λ t. codes "teco-debug: " ++ t)
    (sym (append_assoc name (words ++ number) end ∙ ap (λ t. name ++ t) (append_assoc words number end))))
    made
