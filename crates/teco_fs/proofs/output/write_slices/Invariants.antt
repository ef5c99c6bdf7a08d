use Rattle.std.proofs.Common.{◌≡◌, ◌++◌, List, ℕ}
use Rattle.teco_store.specs.Slices.{bytes_in, most_slices}
use Rattle.teco_fs.specs.Disk.{Appends, Changes, Passes, SameBut}
use Rattle.teco_fs.proofs.output.write_slices.Given as goal

abbrev pub invariant-loop-slice : goal.invariant-loop-slice
invariant-loop-slice g l = record {
  made : g.D.Disk.is_of l.draft l.name;
  given : (given : List ℕ) × (bytes_in l.bytes ≡ given ++ bytes_in l.left) × Changes ((g.D.Disk.seen l.initial.disk).files) ((g.D.Disk.seen l.disk).files) (Appends l.name given);
  moments : Passes ((g.D.Disk.seen l.initial.disk).files) ((g.D.Disk.seen l.initial.disk).left) ((g.D.Disk.seen l.disk).left) (SameBut l.name);
  streams : (g.D.Disk.seen l.disk).streams ≡ (g.D.Disk.seen l.initial.disk).streams;
  count : (g.D.Disk.seen l.disk).failures ≡ (g.D.Disk.seen l.initial.disk).failures;
}

abbrev pub decreases-loop-slice : goal.decreases-loop-slice
decreases-loop-slice g l = most_slices l.left
