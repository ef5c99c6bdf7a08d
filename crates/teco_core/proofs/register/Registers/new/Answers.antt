use Rattle.std.proofs.Common.{◌∙◌, ap, replicate, arith}
use Rattle.teco_core.specs.Register.{blank}
use Rattle.teco_core.proofs.Contents.{map-blank}
use Rattle.teco_core.proofs.register.Registers.new.Goals as goal

pub returns : goal.returns
returns c =
    let made = c.from_fn.ensures.items in
    map-blank c.from_fn.result (λ i other below. ((made.at i other (omega (arith, made.long))).2).met.0)
    ∙ ap (λ n. replicate n blank) made.long
