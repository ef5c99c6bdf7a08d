use Rattle.std.proofs.Common.{refl, arith}
use Rattle.teco_store.specs.State.{state_of}
use Rattle.teco_store.specs.Trail.{Trail}
use Rattle.teco_tests.proofs.tests.undo.late.recorder_after.Goals as goal

pub returns : goal.returns
returns c =
    let trail : Trail = record {
      states = λ i. state_of c.new-recorder.result.full;
      loads = λ i. 0;
      steps = 0;
      load = 0;
      changes = 0;
      floor = 0;
    } in
    c.pass.ensures (record {
      trail = trail;
      follows = c.begin.ensures.follows trail refl refl (omega arith);
      count = refl;
      few = omega arith;
    })
