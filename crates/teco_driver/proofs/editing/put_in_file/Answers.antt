use Rattle.std.proofs.Common.{◌∙◌, refl, sym, inl, IsTrue, true≢false}
use Rattle.teco_cli.specs.Values.{text_behind}
use Rattle.teco_fs.specs.Seen.{disk_seen}
use Rattle.teco_driver.specs.Backups.{replacing}
use Rattle.teco_driver.specs.Run.{doings_after, named_output}
use Rattle.teco_serve.specs.declared.served.Served.TheVariants.{Exit}
use Rattle.teco_driver.proofs.Backups.{leaves_plain, writes_plain}
use Rattle.teco_driver.proofs.Doings.{failed_write, written}
use Rattle.teco_store.specs.Slices.{bytes_in}
use Rattle.teco_driver.proofs.editing.put_in_file.Goals as goal

pub returns-then-over : goal.returns-then-over
returns-then-over g c = rw c.if-over.true c.put_over_input.ensures

pub returns-in-Ok-Whole : goal.returns-in-Ok-Whole
returns-in-Ok-Whole g c =
    let seen = disk_seen g.D.Disk g.D.Input.Source in
    let old = seen c.args.disk.now in
    let new = seen c.write_output_by.new.disk in
    let run = doings_after Exit (bytes_in c.args.output) (IsTrue c.args.over) (named_output old new c.args.name.now (replacing (text_behind c.args.suffix) c.args.drafts.synced)) in
    let ok = rw c.in-Ok-Whole.field-0-is at c.in-Ok-Whole.ensures in
    rw c.fate_written.ensures (written run (bytes_in c.args.output) c.in-Ok-Whole.unkept (refl, refl) (
      (λ over. absurd (true≢false (sym over ∙ c.if-over.false))),
      writes_plain {old = old} {new = new} (c.requires c.if-over.false) ok.moments ok.ok ok.streams,
    ) ok.unkept)

pub returns-in-Err : goal.returns-in-Err
returns-in-Err g c =
    let seen = disk_seen g.D.Disk g.D.Input.Source in
    let old = seen c.args.disk.now in
    let new = seen c.write_output_by.new.disk in
    let run = doings_after Exit (bytes_in c.args.output) (IsTrue c.args.over) (named_output old new c.args.name.now (replacing (text_behind c.args.suffix) c.args.drafts.synced)) in
    failed_write run (bytes_in c.args.output) c.no_output.result c.no_output.ensures (refl, refl) (inl (record {
      leaves = leaves_plain {old = old} {new = new} (c.requires c.if-over.false) c.in-Err.ensures.moments c.in-Err.ensures.err c.in-Err.ensures.streams;
      error = c.in-Err.error;
      given = c.in-Err.ensures.error;
      fate_is = c.no_output.ensures;
    }))
