use Rattle.std.proofs.Common.{◌≡◌, true}
use Rattle.teco_fs.specs.Disk.{Changes, Passes}
use Rattle.teco_fs.specs.Writing.{AddsDrafts, IsWriting}
use Rattle.teco_store.specs.Slices.{bytes_in}
use Rattle.teco_fs.proofs.output.replace_file.Given as goal

abbrev pub invariant-drafts : goal.invariant-drafts
invariant-drafts g l = record {
  adds : Changes ((g.D.Disk.seen l.initial.disk).files) ((g.D.Disk.seen l.disk).files) (AddsDrafts l.file);
  streams : (g.D.Disk.seen l.disk).streams ≡ (g.D.Disk.seen l.initial.disk).streams;
  moments : l.drafts.synced ≡ true → Passes ((g.D.Disk.seen l.initial.disk).files) ((g.D.Disk.seen l.initial.disk).left) ((g.D.Disk.seen l.disk).left) (IsWriting l.file (bytes_in l.bytes));
}
