use Rattle.std.proofs.Common.{refl}
use Rattle.teco_cli.specs.StreamNames.{is_standard_input}
use Rattle.teco_fs.specs.Seen.{disk_seen}
use Rattle.teco_driver.proofs.CommandSources.{unread_by}
use Rattle.teco_driver.proofs.sources.bytes_of.Goals as goal

pub returns-in-Err-clause-unread : goal.returns-in-Err-clause-unread
returns-in-Err-clause-unread g c =
    let seen = disk_seen g.D.Disk g.D.Input.Source in
    let source = g.S.Source in
    let name = c.args.name.now in
    rw c.fault_by.ensures (unread_by source (seen c.args.disk.now) (seen c.whole_of.new.disk) name c.args.stream.now c.whole_of.new.stream c.args.at (is_standard_input name) c.in-Err.fate refl c.in-Err.ensures.fails)
