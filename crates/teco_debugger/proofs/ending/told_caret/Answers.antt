use Rattle.std.proofs.Common.{◌≡◌, ◌∙◌, ◌++◌, ap, append_assoc, sym}
use Rattle.std.proofs.lemmas.Result.{IfOk-weaker}
use Rattle.std.specs.Prelude.{IfOk, codes}
use Rattle.std.specs.String.{string_bytes}
use Rattle.teco_messages.specs.Shown.{spot_shown}
use Rattle.teco_debugger.proofs.ending.told_caret.Goals as goal

pub returns : goal.returns
returns c =
    let name = c.args.name.now in
    let spot = spot_shown c.args.spot in
    let words = codes ": a caret before what it cannot stand before" in
    let end = codes "\n" in
    let made : IfOk c.format.result (λ text. string_bytes text ≡ codes "teco-debug: " ++ (name ++ (codes ":" ++ (spot ++ (words ++ end))))) = c.format.ensures.ok in
    IfOk-weaker c.format.result _ _
    (λ text e. e ∙ ap (λ t. codes "teco-debug: " ++ t)
    (sym (append_assoc name (codes ":" ++ (spot ++ words)) end
    ∙ ap (λ t. name ++ t) (append_assoc (codes ":") (spot ++ words) end ∙ ap (λ t. codes ":" ++ t) (append_assoc spot words end)))))
    made
