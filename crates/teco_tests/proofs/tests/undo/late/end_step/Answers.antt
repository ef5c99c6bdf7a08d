use Rattle.teco_tests.proofs.Stepping.{ends_step}
use Rattle.teco_tests.proofs.tests.undo.late.end_step.Goals as goal

pub returns : goal.returns
returns c = λ n next has_done. ends_step c.args.recorder.now c.step_done.new.self n c.args.steps next c.step_done.ensures.follows has_done
