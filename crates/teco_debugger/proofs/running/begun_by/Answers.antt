use Rattle.std.proofs.Common.{subst}
use Rattle.std.specs.Prelude.{option_map}
use Rattle.std.specs.String.{string_bytes}
use Rattle.teco_fs.specs.Seen.{disk_seen}
use Rattle.teco_debugger.specs.Begun.{CannotRead}
use Rattle.teco_debugger.specs.Kept.{LacksSession}
use Rattle.teco_debugger.specs.Reading.{IsOfBytes, IsOfSources, LacksSources}
use Rattle.teco_debugger.specs.declared.line.Origin.TheVariants.{Session, Sources}
use Rattle.teco_debugger.proofs.FilesRead.{cannot_read, input_lacks, over_bytes, over_sources, passed_up}
use Rattle.teco_debugger.proofs.running.begun_by.Goals as goal

pub returns-in_err-given-in-Sources-clause-lacks : goal.returns-in_err-given-in-Sources-clause-lacks
returns-in_err-given-in-Sources-clause-lacks g c =
    let files = (g.D.Disk.seen c.args.disk.now).files in
    let new = disk_seen g.D.Disk g.D.Input.Source c.string_of_sources.new.disk in
    let line = c.args.line.now in
    let word = c.in-Sources.word in
    let ending = c.in_err-given-in-Sources.field-0.0 in
    passed_up c.from_residual.result ending (CannotRead files new line) c.from_residual.ensures.1
    (cannot_read files new line (Sources c.in-Sources.names word) ending c.in-Sources.is
    (subst (λ names. LacksSources files new names (option_map string_bytes word) ending) c.deref.ensures.value c.in_err-given-in-Sources.ensures.lacks))

pub returns-in_err-kept-in-Session-clause-lacks : goal.returns-in_err-kept-in-Session-clause-lacks
returns-in_err-kept-in-Session-clause-lacks g c =
    let files = (g.D.Disk.seen c.args.disk.now).files in
    let new = disk_seen g.D.Disk g.D.Input.Source c.kept_string.new.disk in
    let line = c.args.line.now in
    let number = c.in-Session.number in
    let ending = c.in_err-kept-in-Session.field-0.0 in
    passed_up c.from_residual-in_err-kept-in-Session.result ending (CannotRead files new line) c.from_residual-in_err-kept-in-Session.ensures.1
    (cannot_read files new line (Session c.in-Session.name number) ending c.in-Session.is
    (subst (λ name. LacksSession files new name number ending) c.as_str-in-Session.ensures.value c.in_err-kept-in-Session.ensures.lacks))

pub returns-in_ok-given-in-Sources-clause-begins : goal.returns-in_ok-given-in-Sources-clause-begins
returns-in_ok-given-in-Sources-clause-begins g c =
    let files = (g.D.Disk.seen c.args.disk.now).files in
    let line = c.args.line.now in
    let word = c.in-Sources.word in
    let given = c.in_ok-given-in-Sources.given in
    over_sources line.profile files (g.D.Disk.seen c.string_of_sources.new.disk).files line.origin c.in-Sources.names word line.input given c.begun_with.result c.in-Sources.is
    c.string_of_sources.ensures.keeps.files
    (subst (λ names. IsOfSources files names (option_map string_bytes word) given) c.deref.ensures.value c.in_ok-given-in-Sources.ensures.string)
    c.begun_with.ensures.walk

pub returns-in_ok-given-in-Sources-clause-lacks : goal.returns-in_ok-given-in-Sources-clause-lacks
returns-in_ok-given-in-Sources-clause-lacks g c =
    input_lacks (g.D.Disk.seen c.args.disk.now).files (g.D.Disk.seen c.string_of_sources.new.disk).files
    (disk_seen g.D.Disk g.D.Input.Source c.begun_with.new.disk) c.args.line.now c.begun_with.result c.string_of_sources.ensures.keeps.files c.begun_with.ensures.lacks

pub returns-in_ok-given-in-Bytes-clause-begins : goal.returns-in_ok-given-in-Bytes-clause-begins
returns-in_ok-given-in-Bytes-clause-begins g c =
    let files = (g.D.Disk.seen c.args.disk.now).files in
    let line = c.args.line.now in
    let given = c.in_ok-given-in-Bytes.given in
    over_bytes line.profile files (g.D.Disk.seen c.string_of_bytes.new.disk).files line.origin c.in-Bytes.name line.input given c.begun_with-in-Bytes.result c.in-Bytes.is
    c.string_of_bytes.ensures.keeps.files
    (subst (λ name. IsOfBytes files name given) c.as_str.ensures.value c.in_ok-given-in-Bytes.ensures.string)
    c.begun_with-in-Bytes.ensures.walk

pub returns-in_ok-given-in-Bytes-clause-lacks : goal.returns-in_ok-given-in-Bytes-clause-lacks
returns-in_ok-given-in-Bytes-clause-lacks g c =
    input_lacks (g.D.Disk.seen c.args.disk.now).files (g.D.Disk.seen c.string_of_bytes.new.disk).files
    (disk_seen g.D.Disk g.D.Input.Source c.begun_with-in-Bytes.new.disk) c.args.line.now c.begun_with-in-Bytes.result c.string_of_bytes.ensures.keeps.files
    c.begun_with-in-Bytes.ensures.lacks
