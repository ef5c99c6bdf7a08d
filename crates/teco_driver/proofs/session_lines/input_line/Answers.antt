use Rattle.std.proofs.Common.{◌≡◌, ◌∙◌, ◌++◌, codes}
use Rattle.std.proofs.lemmas.Result.{IfOk-weaker}
use Rattle.std.specs.String.{string_bytes}
use Rattle.teco_driver.proofs.SessionTexts.{five_joined}
use Rattle.teco_driver.proofs.session_lines.input_line.Goals as goal

pub returns : goal.returns
returns c = IfOk-weaker c.format.result _ _
    (λ text h.
    let shown : string_bytes text ≡ codes "teco: " ++ (c.args.input.now ++ (codes " has changed since " ++ (c.args.file.now ++ codes " was begun\n"))) = h in
    shown ∙ five_joined (codes "teco: ") c.args.input.now (codes " has changed since ") c.args.file.now (codes " was begun\n"))
    c.format.ensures.ok
