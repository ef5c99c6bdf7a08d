use Rattle.std.proofs.Common.{refl}
use Rattle.teco_core.specs.declared.limits.TheConstants.{FILE_LIMIT}
use Rattle.teco_journal.specs.Events.{events_of}
use Rattle.teco_journal.specs.Heads.{beginning_in}
use Rattle.teco_debugger.specs.Kept.{LacksWalk}
use Rattle.teco_debugger.proofs.FilesRead.{passed_up}
use Rattle.teco_debugger.proofs.Lengths.{input_fits}
use Rattle.teco_debugger.proofs.kept.walk_in.Goals as goal

pub returns-in_err-file-clause-lacks : goal.returns-in_err-file-clause-lacks
returns-in_err-file-clause-lacks c =
    passed_up c.from_residual.result c.in_err-file.field-0.0 (LacksWalk c.args.bytes.now c.args.number) c.from_residual.ensures.1 (c.in_err-file.ensures.lacks c.args.number)

pub session_in-requires : goal.session_in-requires
session_in-requires c =
    let file = c.in_ok-file.file in
    input_fits c.args.bytes.now c.args.bytes.now _ (beginning_in file.start) (events_of file.journal.records.items) FILE_LIMIT refl c.in_ok-file.ensures.lines.2.front c.requires

pub walk_at-requires-clause-small : goal.walk_at-requires-clause-small
walk_at-requires-clause-small c =
    let file = c.in_ok-file.file in
    input_fits c.args.bytes.now c.args.bytes.now _ (beginning_in file.start) (events_of file.journal.records.items) FILE_LIMIT refl c.in_ok-file.ensures.lines.2.front c.requires
