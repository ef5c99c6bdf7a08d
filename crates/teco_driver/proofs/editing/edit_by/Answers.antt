use Rattle.std.proofs.Common.{◌≡◌, ◌∙◌, ap, inl, length, refl, rules}
use Rattle.teco_cli.specs.StreamNames.{is_standard_input}
use Rattle.teco_fs.specs.Seen.{disk_seen}
use Rattle.teco_driver.specs.Run.{bounds_of}
use Rattle.teco_driver.proofs.Doings.{idle_ends, lacks_either, over_work, read_before}
use Rattle.teco_driver.proofs.editing.edit_by.Goals as goal

pub returns-in-Err-clause-edits : goal.returns-in-Err-clause-edits
returns-in-Err-clause-edits g c =
    let seen = disk_seen g.D.Disk g.D.Input.Source in
    lacks_either (is_standard_input c.args.name.now) g.S.Source c.args.host.now.commands c.input_at.new.stream (seen c.args.host.now.disk) (seen c.input_at.new.disk) c.in-Err.ensures.fault refl c.in-Err.ensures.keeps

pub returns-in_default-clause-edits : goal.returns-in_default-clause-edits
returns-in_default-clause-edits g c = idle_ends _ _ _ _ _ _ _ _ _ _ (λ term place quiet keeps. inl ((refl, quiet), keeps)) refl c.input_at.ensures.keeps

pub returns : goal.returns
returns g c =
    let seen = disk_seen g.D.Disk g.D.Input.Source in
    let given = read_before (is_standard_input c.args.name.now) g.S.Source c.args.host.now.commands c.input_at.new.stream (seen c.args.host.now.disk) (seen c.input_at.new.disk) (seen c.finish-fate.new.host.disk) c.args.name.now c.in-Ok.input.items
    c.finish-fate.ensures.still c.in-Ok.ensures.input in
    let size : c.len.result ≡ length c.in-Ok.input.items = search rules in
    let bounds = c.settings_of-settings.ensures.bounds ∙ ap (bounds_of c.args.line.now) size in
    record {
      edits = over_work _ _ _ _ _ _ _ _ _ _ _ _ c.input_at.ensures.keeps given c.in-Ok-work_over.ensures.to c.in-Ok-work_over.ensures.history (rw (bounds, c.settings_of-settings.ensures.manner) at c.serve-served.ensures.serves) c.finish-fate.ensures.ends;
      still = λ apart. c.finish-fate.ensures.still ∙ c.input_at.ensures.still apart;
    }
