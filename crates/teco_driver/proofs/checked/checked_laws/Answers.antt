use Rattle.teco_driver.proofs.CheckedRuns.{never_answers}
use Rattle.teco_driver.proofs.checked.checked_laws.Goals as goal

pub returns : goal.returns
returns g c = λ bounds. never_answers _ c.check_laws.ensures
