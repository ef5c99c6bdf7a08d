use Rattle.teco_exec.proofs.Continuations.{unbroken}
use Rattle.teco_session.proofs.session.Session.run.Goals as goal

pub returns : goal.returns
returns g c = unbroken c.args.limit _ _ c.run_with.ensures.run
