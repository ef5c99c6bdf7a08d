use Rattle.std.proofs.Common.{◌∙◌, ap, sym}
use Rattle.std.specs.String.{string_bytes}
use Rattle.teco_cli.specs.StreamNames.{is_standard_output}
use Rattle.teco_fs.specs.Seen.{disk_seen}
use Rattle.teco_session.specs.History.{present}
use Rattle.teco_session.specs.Kept.{history_of}
use Rattle.teco_driver.specs.Backups.{replacing_of}
use Rattle.teco_driver.specs.Run.{replaces_input}
use Rattle.teco_driver.proofs.Doings.{finishes_in_file, finishes_on_terminal, finishes_otherwise}
use Rattle.teco_driver.proofs.Backups.{kept_over}
use Rattle.teco_driver.proofs.editing.finish.Goals as goal

pub put_in_file-requires : goal.put_in_file-requires
put_in_file-requires g c = λ none. c.suffix_of-suffix.ensures ∙ kept_over c.args.line.now (sym c.replaces_input-over.ensures ∙ none)

pub returns-in_default-clause-ends : goal.returns-in_default-clause-ends
returns-in_default-clause-ends g c =
    let seen = disk_seen g.D.Disk g.D.Input.Source in
    finishes_otherwise (present (history_of c.args.work.now.session)).output (string_bytes c.args.work.now.to) (replaces_input c.args.line.now) (replacing_of c.args.line.now) (seen c.args.host.now.disk) g.T.Terminal.screen c.args.host.now.terminal
    (is_standard_output (string_bytes c.args.work.now.to)) c.args.served c.in_default.not-Exit

pub returns-then-is_standard_output-clause-ends : goal.returns-then-is_standard_output-clause-ends
returns-then-is_standard_output-clause-ends g c =
    let seen = disk_seen g.D.Disk g.D.Input.Source in
    let named = c.as_str-name.ensures.value in
    finishes_on_terminal (present (history_of c.args.work.now.session)).output (string_bytes c.args.work.now.to) (replaces_input c.args.line.now) (replacing_of c.args.line.now) (seen c.args.host.now.disk) g.T.Terminal.screen c.args.host.now.terminal c.put_on_terminal.new.term c.put_on_terminal.result c.in-Exit.is
    (ap is_standard_output (sym named) ∙ (sym c.is_standard_output.ensures ∙ c.if-is_standard_output.true))
    (rw (c.output-output.ensures.joined ∙ ap (λ s. s.output) c.editor.ensures.present) at c.put_on_terminal.ensures)

pub returns-clause-ends : goal.returns-clause-ends
returns-clause-ends g c =
    let seen = disk_seen g.D.Disk g.D.Input.Source in
    let named = c.as_str-name.ensures.value in
    finishes_in_file (present (history_of c.args.work.now.session)).output (string_bytes c.args.work.now.to) (replaces_input c.args.line.now) (replacing_of c.args.line.now) (seen c.args.host.now.disk) (seen c.put_in_file.new.disk) g.T.Terminal.screen c.args.host.now.terminal c.put_in_file.result c.in-Exit.is
    (ap is_standard_output (sym named) ∙ (sym c.is_standard_output.ensures ∙ c.if-is_standard_output.false))
    (rw (named, c.output-output.ensures.joined ∙ ap (λ s. s.output) c.editor.ensures.present, c.replaces_input-over.ensures, c.suffix_of-suffix.ensures) at c.put_in_file.ensures)
