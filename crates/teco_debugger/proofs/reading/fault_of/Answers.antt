use Rattle.std.proofs.Common.{◌∙◌, ap}
use Rattle.teco_debugger.specs.declared.reading.FileFault.TheVariants as file
use Rattle.teco_debugger.proofs.reading.fault_of.Goals as goal

pub returns : goal.returns
returns c = record {
  memory = c.unless_memory.ensures.memory;
  other_is = λ other. c.unless_memory.ensures.other other ∙ ap file.Unread c.reason_of.ensures;
}
