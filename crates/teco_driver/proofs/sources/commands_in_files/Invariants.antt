use Rattle.std.proofs.Common.{take}
use Rattle.teco_fs.specs.Seen.{KeepsDisk, disk_seen}
use Rattle.teco_driver.specs.Sources.{AreCommandsIn}
use Rattle.teco_driver.proofs.sources.commands_in_files.Given as goal

-- those of the files so far
abbrev pub invariant-loop-at : goal.invariant-loop-at
invariant-loop-at g l =
    let seen = disk_seen g.D.Disk g.D.Input.Source in
    AreCommandsIn g.S.Source (g.D.Disk.seen l.fn.disk).files (take l.at l.names) l.fn.stream l.stream l.made.items
    × KeepsDisk (seen l.fn.disk) (seen l.disk)
