use Rattle.std.proofs.Common.{◌≡◌, ◌∙◌, ◌++◌, ◌∷◌, [], append_assoc, arith, codes}
use Rattle.std.proofs.lemmas.Grind.{common_steps}
use Rattle.std.proofs.lemmas.Result.{IfOk-weaker}
use Rattle.std.specs.Fmt.{decimal}
use Rattle.std.specs.Prelude.{length}
use Rattle.teco_serve.specs.Explaining.{left_line}
use Rattle.teco_serve.proofs.explaining.line_of_left.Goals as goal

pub returns : goal.returns
returns c =
    let many : left_line c.args.bytes.now c.args.broken_off ≡ decimal (length c.args.bytes.now) ++ codes " bytes after " ++ c.after_what-after.result.now ++ codes " were not run" ++ 10 ∷ [] =
    grind (arith, common_steps) in
    rw many (IfOk-weaker c.format-2.result _ _ (λ line h. h ∙ simp append_assoc) c.format-2.ensures.ok)
