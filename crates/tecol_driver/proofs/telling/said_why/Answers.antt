use Rattle.std.proofs.Common.{◌≡◌, ◌∙◌, ◌++◌, codes}
use Rattle.std.proofs.lemmas.Result.{IfOk-weaker}
use Rattle.std.specs.String.{string_bytes}
use Rattle.teco_fs.proofs.Told.{parts_joined}
use Rattle.tecol_driver.proofs.telling.said_why.Goals as goal

pub returns : goal.returns
returns c = rw (← c.words-why.ensures) (IfOk-weaker c.format.result _ _
    (λ text h.
    let what = c.args.what.now in
    let name = c.args.name.now in
    let why = c.words-why.result.now in
    let shown : string_bytes text ≡ codes "tecol: " ++ (what ++ (name ++ (codes ": " ++ (why ++ codes "\n")))) = h in
    shown ∙ parts_joined (codes "tecol: ") what name (codes ": ") why (codes "\n"))
    c.format.ensures.ok)
