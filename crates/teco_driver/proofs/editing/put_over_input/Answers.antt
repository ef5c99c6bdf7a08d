use Rattle.std.proofs.Common.{refl, inl, inr, IsTrue, true, ap}
use Rattle.teco_cli.specs.Values.{text_behind}
use Rattle.teco_fs.specs.Disk.{Files}
use Rattle.teco_fs.specs.Seen.{disk_seen}
use Rattle.teco_driver.specs.Backups.{replacing}
use Rattle.teco_driver.specs.Run.{doings_after, named_output}
use Rattle.teco_serve.specs.declared.served.Served.TheVariants.{Exit}
use Rattle.teco_driver.proofs.Backups.{asked_kept, leaves_kept, writes_kept}
use Rattle.teco_driver.proofs.Doings.{as_read_after, change_after, failed_keeping, failed_write, fails_after, keep_fails_after, writes_after, written}
use Rattle.teco_store.specs.Slices.{bytes_in}
use Rattle.teco_driver.proofs.editing.put_over_input.Goals as goal

pub returns-then-has_bytes : goal.returns-then-has_bytes
returns-then-has_bytes g c = (bytes_in c.args.output, (refl, refl), (refl, c.has_bytes.ensures.same c.if-has_bytes.true), c.has_bytes.ensures.keeps)

pub returns-in-Err : goal.returns-in-Err
returns-in-Err g c =
    let seen = disk_seen g.D.Disk g.D.Input.Source in
    let run = doings_after Exit (bytes_in c.args.output) (IsTrue true) (named_output (seen c.args.disk.now) (seen c.keep_old.new.disk) c.args.name.now (replacing (text_behind c.args.suffix) c.args.drafts.synced)) in
    let fails = c.in-Err.ensures.err in
    failed_keeping run (bytes_in c.args.output) c.in-Err.fate fails.fate_is (refl, refl) (inr (keep_fails_after {old = seen c.args.disk.now} {mid = seen c.has_bytes.new.disk} c.has_bytes.ensures.keeps {new = seen c.keep_old.new.disk} fails))

pub returns-in-Ok-Whole : goal.returns-in-Ok-Whole
returns-in-Ok-Whole g c =
    let seen = disk_seen g.D.Disk g.D.Input.Source in
    let old = seen c.args.disk.now in
    let looked = seen c.has_bytes.new.disk in
    let new = seen c.write_output_by.new.disk in
    let suffix = text_behind c.args.suffix in
    let how = replacing suffix c.args.drafts.synced in
    let run = doings_after Exit (bytes_in c.args.output) (IsTrue true) (named_output old new c.args.name.now how) in
    let keeps = c.has_bytes.ensures.keeps in
    let kept = c.in_default.ensures.ok in
    let ok = rw c.in-Ok-Whole.field-0-is at c.in-Ok-Whole.ensures in
    rw c.fate_written.ensures (written run (bytes_in c.args.output) c.in-Ok-Whole.unkept (refl, refl) (
      (λ over. as_read_after {old = old} {mid = looked} keeps new c.args.name.now how (bytes_in c.args.output)
          (asked_kept suffix kept.files (ap (λ (streams : Files). streams c.args.name.now) kept.streams) ok.asked)),
      writes_after {old = old} {mid = looked} keeps {new = new} (writes_kept {old = looked} {mid = seen c.keep_old.new.disk} kept {new = new} ok.ok ok.streams ok.moments),
    ) ok.unkept)

pub returns-in-Ok-Changed : goal.returns-in-Ok-Changed
returns-in-Ok-Changed g c =
    let seen = disk_seen g.D.Disk g.D.Input.Source in
    let looked = seen c.has_bytes.new.disk in
    let new = seen c.write_output_by.new.disk in
    let ok = rw c.in-Ok-Changed.field-0-is at c.in-Ok-Changed.ensures in (
      bytes_in c.args.output,
      (refl, refl),
      (
        refl,
        change_after {old = seen c.args.disk.now} {mid = looked} c.has_bytes.ensures.keeps {new = new} (record {
          changed = ok.changed;
          leaves = leaves_kept {old = looked} {mid = seen c.keep_old.new.disk} c.in_default.ensures.ok {new = new} ok.err ok.streams ok.moments;
        }),
      ),
    )

pub returns-in-Err-write_output_by : goal.returns-in-Err-write_output_by
returns-in-Err-write_output_by g c =
    let seen = disk_seen g.D.Disk g.D.Input.Source in
    let old = seen c.args.disk.now in
    let looked = seen c.has_bytes.new.disk in
    let new = seen c.write_output_by.new.disk in
    let suffix = text_behind c.args.suffix in
    let how = replacing suffix c.args.drafts.synced in
    let run = doings_after Exit (bytes_in c.args.output) (IsTrue true) (named_output old new c.args.name.now how) in
    let failed = c.in-Err-write_output_by.ensures in
    failed_write run (bytes_in c.args.output) c.no_output.result c.no_output.ensures (refl, refl)
    (fails_after {old = old} {mid = looked} c.has_bytes.ensures.keeps {new = new} {name = c.args.name.now} {how = how} {output = bytes_in c.args.output} (inl (record {
      leaves = leaves_kept {old = looked} {mid = seen c.keep_old.new.disk} c.in_default.ensures.ok {new = new} failed.err failed.streams failed.moments;
      error = c.in-Err-write_output_by.error;
      given = failed.error;
      fate_is = c.no_output.ensures;
    })))
