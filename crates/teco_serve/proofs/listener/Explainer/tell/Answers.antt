use Rattle.std.proofs.Common.{rules}
use Rattle.teco_serve.proofs.listener.Explainer.tell.Goals as goal

pub returns-clause-told : goal.returns-clause-told
returns-clause-told g c = search rules
