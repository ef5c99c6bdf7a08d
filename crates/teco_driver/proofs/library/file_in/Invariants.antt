use Rattle.std.proofs.Common.{ℕ, List, drop, map}
use Rattle.std.specs.String.{string_bytes}
use Rattle.teco_fs.specs.Seen.{KeepsDisk, disk_seen}
use Rattle.teco_driver.specs.Library.{IsFirst, names_in}
use Rattle.teco_driver.proofs.library.file_in.Given as goal

-- what is the first in the other folders is the first in all
abbrev pub invariant-loop-folder : goal.invariant-loop-folder
invariant-loop-folder g l =
    let seen = disk_seen g.D.Disk g.D.Input.Source in
    ((new : g.row.D.Denot) (file : List ℕ)
    → IsFirst seen l.name (names_in (map string_bytes (drop l.folder-index l.folders)) l.name) l.disk new file
    → IsFirst seen l.name (names_in (map string_bytes l.folders) l.name) l.fn.disk new file)
    × KeepsDisk (seen l.fn.disk) (seen l.disk)
