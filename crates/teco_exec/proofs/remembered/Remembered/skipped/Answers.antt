use Rattle.std.proofs.Common.{◌≡◌, arith}
use Rattle.std.proofs.lemmas.Grind.{common_steps}
use Rattle.teco_exec.specs.Remembered.{IsSkipOf}
use Rattle.teco_exec.proofs.remembered.Remembered.skipped.Goals as goal

pub returns-then-eq-clause-closes : goal.returns-then-eq-clause-closes
returns-then-eq-clause-closes c =
    let is : IsSkipOf c.args.self.now.profile c.args.self.now.bytes.now c.in_ok-skip.skip = grind (arith, common_steps) in
    let same : c.in_ok-skip.skip.kind ≡ c.args.kind = grind (arith, common_steps) in
    let closes = is.closes in
    grind arith
