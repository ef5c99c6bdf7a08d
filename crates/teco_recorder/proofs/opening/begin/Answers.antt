use Rattle.std.proofs.Common.{subst}
use Rattle.teco_fs.specs.State.{FilesPass}
use Rattle.teco_recorder.specs.Recording.{IsBegun}
use Rattle.teco_recorder.proofs.opening.begin.Goals as goal

pub returns-in-Ok-clause-moments : goal.returns-in-Ok-clause-moments
returns-in-Ok-clause-moments g c =
    subst (λ bytes. FilesPass (g.D.Disk.seen c.args.disk.now) (g.D.Disk.seen c.begin.new.disk) (IsBegun c.args.file.name bytes))
    c.in_ok-head.ensures.bytes c.begin.ensures.moments

pub returns-in-Err-clause-moments : goal.returns-in-Err-clause-moments
returns-in-Err-clause-moments g c =
    subst (λ bytes. FilesPass (g.D.Disk.seen c.args.disk.now) (g.D.Disk.seen c.begin.new.disk) (IsBegun c.args.file.name bytes))
    c.in_ok-head.ensures.bytes c.begin.ensures.moments
