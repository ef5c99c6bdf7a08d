use Rattle.std.proofs.Common.{map, take}
use Rattle.std.specs.String.{string_bytes}
use Rattle.teco_fs.specs.Seen.{KeepsDisk, disk_seen}
use Rattle.teco_driver.specs.Library.{AreFound}
use Rattle.teco_driver.proofs.library.files_of.Given as goal

-- those of the names so far
abbrev pub invariant-loop-name : goal.invariant-loop-name
invariant-loop-name g l =
    let seen = disk_seen g.D.Disk g.D.Input.Source in
    AreFound seen (map string_bytes l.folders) (take l.name-index l.names) l.fn.disk l.disk l.files.items
    × KeepsDisk (seen l.fn.disk) (seen l.disk)
