use Rattle.std.proofs.Common.{◌∙◌, ap}
use Rattle.tecol_driver.specs.declared.fate.TecolFate.TheVariants.{NoInput}
use Rattle.tecol_driver.proofs.fate.no_input.Goals as goal

pub returns : goal.returns
returns c = record {
  memory = c.unless_memory.ensures.memory;
  other_is = λ other. c.unless_memory.ensures.other other ∙ ap NoInput c.reason_of.ensures;
}
