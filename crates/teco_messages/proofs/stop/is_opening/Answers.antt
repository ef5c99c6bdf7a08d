use Rattle.std.proofs.Common.{sym, ap, arith}
use Rattle.teco_messages.specs.Stop.{is_opening}
use Rattle.teco_messages.proofs.PastEnd.{past_end}
use Rattle.teco_messages.proofs.stop.is_opening.Goals as goal

pub returns-then-at-text : goal.returns-then-at-text
returns-then-at-text c = sym (ap is_opening (past_end c.args.profile c.args.text.now c.args.at (omega (arith, c.if-at-text.true))))
