use Rattle.std.proofs.Common.{◌∙◌, ap}
use Rattle.teco_serve.specs.declared.fate.Fate.TheVariants.{NoBackup}
use Rattle.teco_driver.proofs.fates.no_backup.Goals as goal

pub returns : goal.returns
returns c = record {
  memory = c.unless_memory.ensures.memory;
  other_is = λ other. c.unless_memory.ensures.other other ∙ ap NoBackup c.reason_of.ensures;
}
