use Rattle.std.proofs.Common.{◌≡◌, ◌∙◌, ◌++◌, ◌∷◌, [], append_assoc, sym}
use Rattle.std.proofs.lemmas.Result.{IfOk-weaker}
use Rattle.std.specs.Prelude.{IfOk, codes}
use Rattle.std.specs.String.{string_bytes}
use Rattle.teco_messages.specs.Shown.{spot_shown}
use Rattle.tecol_driver.proofs.telling.unreadable.Goals as goal

pub returns : goal.returns
returns c =
    let input = c.args.input.now in
    let spot = spot_shown c.args.spot in
    let words = codes ": a caret before what it cannot stand before" in
    let joined =
    append_assoc (input ++ codes ":" ++ spot) words (10 ∷ []) ∙ append_assoc (input ++ codes ":") spot (words ++ 10 ∷ []) ∙ append_assoc input (codes ":") (spot ++ (words ++ 10 ∷ [])) in
    let made : IfOk c.format.result (λ text. string_bytes text ≡ input ++ (codes ":" ++ (spot ++ (words ++ 10 ∷ [])))) = c.format.ensures.ok in
    IfOk-weaker c.format.result _ _ (λ text e. e ∙ sym joined) made
