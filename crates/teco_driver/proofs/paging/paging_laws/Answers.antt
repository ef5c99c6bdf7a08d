use Rattle.teco_driver.proofs.PageFits.{pages_fit}
use Rattle.teco_driver.proofs.paging.paging_laws.Goals as goal

pub returns : goal.returns
returns c = pages_fit
