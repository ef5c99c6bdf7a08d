use Rattle.std.proofs.lemmas.Result.{IfOk-weaker}
use Rattle.std.specs.String.{string_bytes}
use Rattle.teco_driver.specs.SessionLines.{session_name}
use Rattle.teco_driver.proofs.SessionTexts.{again_told}
use Rattle.teco_driver.proofs.session_lines.again_line.Goals as goal

pub returns : goal.returns
returns c = IfOk-weaker c.format.result _ _
    (λ text h. again_told (string_bytes text) (session_name c.args.line.now) c.session_name-file.result.now c.args.steps c.if-steps-le-SHORT_REPLAY.false
    c.session_name-file.ensures h)
    c.format.ensures.ok
