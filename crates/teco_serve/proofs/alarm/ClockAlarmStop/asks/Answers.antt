use Rattle.std.proofs.Common.{rules}
use Rattle.teco_serve.proofs.alarm.ClockAlarmStop.asks.Goals as goal

pub returns-then-done-self-clause-answers : goal.returns-then-done-self-clause-answers
returns-then-done-self-clause-answers g c = search rules
