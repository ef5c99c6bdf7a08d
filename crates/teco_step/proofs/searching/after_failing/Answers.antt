use Rattle.std.proofs.Common.{rules}
use Rattle.teco_step.proofs.searching.after_failing.Goals as goal

pub returns-then-setting-eq1-clause-leads : goal.returns-then-setting-eq1-clause-leads
returns-then-setting-eq1-clause-leads c s = search rules
