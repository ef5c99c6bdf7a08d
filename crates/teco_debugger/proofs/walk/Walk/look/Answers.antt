use Rattle.std.proofs.Common.{ap}
use Rattle.teco_session.specs.History.{present}
use Rattle.teco_debugger.proofs.walk.Walk.look.Goals as goal

pub look_on-requires : goal.look_on-requires
look_on-requires c = ap present c.in_ok-session.ensures

pub returns-clause-place : goal.returns-clause-place
returns-clause-place c = c.look_on.ensures.place

pub returns-clause-told : goal.returns-clause-told
returns-clause-told c = c.look_on.ensures.told

pub returns-clause-steps : goal.returns-clause-steps
returns-clause-steps c = c.look_on.ensures.steps

pub returns-clause-code : goal.returns-clause-code
returns-clause-code c = c.look_on.ensures.code

pub returns-clause-typed : goal.returns-clause-typed
returns-clause-typed c = c.look_on.ensures.typed
