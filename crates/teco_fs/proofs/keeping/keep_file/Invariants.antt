use Rattle.std.proofs.Common.{◌≡◌, ◌++◌}
use Rattle.teco_fs.specs.Disk.{Changes, Passes}
use Rattle.teco_fs.specs.Writing.{AddsDrafts, IsKeeping}
use Rattle.teco_fs.proofs.keeping.keep_file.Given as goal

abbrev pub invariant-drafts : goal.invariant-drafts
invariant-drafts g l = record {
  adds : Changes ((g.D.Disk.seen l.initial.disk).files) ((g.D.Disk.seen l.disk).files) (AddsDrafts l.file);
  streams : (g.D.Disk.seen l.disk).streams ≡ (g.D.Disk.seen l.initial.disk).streams;
  moments : Passes ((g.D.Disk.seen l.initial.disk).files) ((g.D.Disk.seen l.initial.disk).left) ((g.D.Disk.seen l.disk).left) (IsKeeping l.file (l.file ++ l.suffix));
}
