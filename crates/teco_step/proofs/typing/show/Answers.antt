use Rattle.std.proofs.Common.{refl}
use Rattle.teco_core.specs.ArgumentsView.{arguments}
use Rattle.teco_step.specs.Step.{goes}
use Rattle.teco_step.specs.Typing.{shows}
use Rattle.teco_step.proofs.Shown.{types_answered}
use Rattle.teco_step.proofs.typing.show.Goals as goal

pub returns : goal.returns
returns g c =
    types_answered (goes (shows c.args.bytes.now)) _ (arguments c.args.args.now) _ _ _ c.args.bytes.now c.put_some.result c.typed.result refl c.put_some.ensures.puts c.put_some.ensures.some
    c.typed.ensures.ok c.typed.ensures.err
