use Rattle.std.proofs.Common.{◌≡◌, ◌++◌, List, ℕ}
use Rattle.teco_store.specs.Slices.{bytes_in, most_slices}
use Rattle.teco_fs.specs.Disk.{Appends}
use Rattle.teco_fs.specs.FileLog.{files_of}
use Rattle.teco_fs.proofs.memory_disk.log.Log.written_slices.Given as goal

abbrev pub invariant-loop-slice : goal.invariant-loop-slice
invariant-loop-slice l = (given : List ℕ) × (bytes_in l.bytes ≡ given ++ bytes_in l.left) × Appends l.name given (files_of l.initial.self) (files_of l.self)

abbrev pub decreases-loop-slice : goal.decreases-loop-slice
decreases-loop-slice l = most_slices l.left
