use Rattle.teco_scan.proofs.TokensNest.{nested}
use Rattle.teco_scan.proofs.blocks.nesting.Goals as goal

pub returns : goal.returns
returns c = record { nested = nested }
