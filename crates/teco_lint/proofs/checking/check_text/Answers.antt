use Rattle.std.proofs.Common.{sym, arith}
use Rattle.teco_lint.specs.declared.faults.TheConstants.{MOST_FAULTS}
use Rattle.teco_lint.proofs.FirstFaults.{none_among}
use Rattle.teco_lint.proofs.checking.check_text.Goals as goal

pub returns-in_default-clause-found : goal.returns-in_default-clause-found
returns-in_default-clause-found c = sym (none_among c.args.profile MOST_FAULTS c.args.code.now c.args.text.now (omega arith) c.in_default.ensures.first)
