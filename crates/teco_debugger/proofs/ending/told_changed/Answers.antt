use Rattle.std.proofs.Common.{◌≡◌, ◌∙◌, ◌++◌, ap, append_assoc, sym}
use Rattle.std.proofs.lemmas.Result.{IfOk-weaker}
use Rattle.std.specs.Prelude.{IfOk, codes, decimal}
use Rattle.std.specs.String.{string_bytes}
use Rattle.teco_debugger.proofs.ending.told_changed.Goals as goal

pub returns : goal.returns
returns c =
    let number = decimal c.args.number in
    let name = c.args.name.now in
    let head = codes " after the head of " in
    let words = codes " is not as it was written" in
    let end = codes "\n" in
    let made : IfOk c.format.result (λ text. string_bytes text ≡ codes "teco-debug: line " ++ (number ++ (head ++ (name ++ (words ++ end))))) = c.format.ensures.ok in
    IfOk-weaker c.format.result _ _
    (λ text e. e ∙ ap (λ t. codes "teco-debug: line " ++ t)
    (sym (append_assoc number (head ++ (name ++ words)) end
    ∙ ap (λ t. number ++ t) (append_assoc head (name ++ words) end ∙ ap (λ t. head ++ t) (append_assoc name words end)))))
    made
