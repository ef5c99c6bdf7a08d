use Rattle.std.proofs.Common.{refl}
use Rattle.teco_driver.proofs.Sessions.{tells_either}
use Rattle.teco_driver.proofs.keeping.conclude_kept.Goals as goal

pub returns-in-Broken : goal.returns-in-Broken
returns-in-Broken g c = rw c.in-Broken.is (
  refl,
  (
    g.E.Terminal.screen c.tell-in-Broken.new.errors,
    c.conclude-in-Broken.result,
    tells_either _ _ _ c.not_kept_line.result c.not_kept_line.ensures c.tell-in-Broken.ensures.ok c.tell-in-Broken.ensures.err,
    c.conclude-in-Broken.ensures,
  ),
)
