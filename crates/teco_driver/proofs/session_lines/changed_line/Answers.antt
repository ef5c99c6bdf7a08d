use Rattle.std.proofs.Common.{◌≡◌, ◌∙◌, ◌++◌, codes}
use Rattle.std.proofs.lemmas.Result.{IfOk-weaker}
use Rattle.std.specs.Prelude.{decimal}
use Rattle.std.specs.String.{string_bytes}
use Rattle.teco_driver.proofs.SessionTexts.{five_joined}
use Rattle.teco_driver.proofs.session_lines.changed_line.Goals as goal

pub returns : goal.returns
returns c = IfOk-weaker c.format.result _ _
    (λ text h.
    let shown : string_bytes text ≡ codes "teco: line " ++ (decimal c.args.number ++ (codes " after the head of " ++ (c.args.file.now ++ codes " is not as it was written\n"))) = h in
    shown ∙ five_joined (codes "teco: line ") (decimal c.args.number) (codes " after the head of ") c.args.file.now (codes " is not as it was written\n"))
    c.format.ensures.ok
