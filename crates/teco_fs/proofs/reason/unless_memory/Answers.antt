use Rattle.std.proofs.Common.{refl, ◌∙◌}
use Rattle.teco_fs.proofs.reason.unless_memory.Goals as goal

pub returns-in_default : goal.returns-in_default
returns-in_default g c = record {
  memory = λ out. absurd (c.in_default.not-OutOfMemory (c.kind.ensures ∙ out));
  other = λ _. refl;
}
