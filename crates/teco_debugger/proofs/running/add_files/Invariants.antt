use Rattle.std.proofs.Common.{take}
use Rattle.teco_fs.specs.Seen.{KeepsDisk, disk_seen}
use Rattle.teco_debugger.specs.Reading.{AddsFiles}
use Rattle.teco_debugger.proofs.running.add_files.Given as goal

-- those of the files so far
abbrev pub invariant-loop-number : goal.invariant-loop-number
invariant-loop-number g l =
    let seen = disk_seen g.D.Disk g.D.Input.Source in
    AddsFiles (g.D.Disk.seen l.fn.disk).files (take l.number l.names) l.fn.given l.given
    × KeepsDisk (seen l.fn.disk) (seen l.disk)
