use Rattle.teco_exec.proofs.Placings.{place_told, told_exactly}
use Rattle.teco_exec.proofs.watch.Watched.into_place.Goals as goal

pub returns-clause-told : goal.returns-clause-told
returns-clause-told c s text outcome knows =
    let kept = c.kept.ensures in
    record {
      place = place_told c.args.self c.kept.result kept.none kept.some s text outcome.steps outcome.code knows;
      exactly = told_exactly c.args.self c.kept.result kept.none kept.some s text outcome.steps outcome.code knows;
    }
