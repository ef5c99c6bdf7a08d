use Rattle.std.proofs.Common.{List, ℕ, subst}
use Rattle.std.specs.Prelude.{IfErr}
use Rattle.teco_fs.specs.Seen.{disk_seen}
use Rattle.teco_debugger.specs.Kept.{LacksWalk}
use Rattle.teco_debugger.proofs.KeptStrings.{lacks_session}
use Rattle.teco_debugger.proofs.kept.kept_string.Goals as goal

pub returns-in-Ok-clause-lacks : goal.returns-in-Ok-clause-lacks
returns-in-Ok-clause-lacks g c =
    lacks_session (g.D.Disk.seen c.args.disk.now).files (disk_seen g.D.Disk g.D.Input.Source c.read_file.new.disk) c.args.name.now c.in-Ok.bytes.items c.args.number c.walk_in.result
    c.in-Ok.ensures.bytes (subst (λ (b : List ℕ). IfErr c.walk_in.result (LacksWalk b c.args.number)) c.as_slice.ensures.value c.walk_in.ensures.lacks)
