use Rattle.std.proofs.Common.{List, ℕ, Ok, rules, sym, subst, ◌∙◌}
use Rattle.teco_fs.specs.Disk.{Changes, Passes}
use Rattle.teco_cli.specs.StreamNames.{is_standard_output}
use Rattle.teco_fs.specs.Seen.{disk_seen}
use Rattle.teco_fs.specs.Writing.{IsPut, IsWriting}
use Rattle.tecol_driver.specs.Keeping.{PutsOut, output_to}
use Rattle.tecol_driver.proofs.Outputs.{fails_in, writes_in}
use Rattle.tecol_driver.proofs.running.put.Goals as goal

pub returns-in-Ok-Whole : goal.returns-in-Ok-Whole
returns-in-Ok-Whole g c =
    let seen = disk_seen g.D.Disk g.D.Input.Source in
    let old = c.args.disk.now in
    let new = c.write_output.new.disk in
    let name = c.as_str-name.result.now in
    let whole = c.of.ensures in
    let ok = rw c.in-Ok-Whole.field-0-is at c.in-Ok-Whole.ensures in
    subst (λ (n : List ℕ). PutsOut (output_to (is_standard_output n) g.T.Terminal.screen n (seen old) (seen new) c.args.term.now c.args.term.now) c.args.bytes.now (Ok c.in-Ok-Whole.unkept)) c.as_str-name.ensures.value
    (writes_in g.T.Terminal.screen name c.args.bytes.now (seen old) (seen new) c.args.term.now (sym c.is_standard_output.ensures ∙ c.if-is_standard_output.false) c.in-Ok-Whole.unkept (record {
      files = subst (λ (bytes : List ℕ). Changes (g.D.Disk.seen old).files (g.D.Disk.seen new).files (IsPut name bytes ((g.D.Disk.seen old).streams name) ((g.D.Disk.seen new).streams name))) whole ok.ok;
      streams = ok.streams;
      moments = subst (λ (bytes : List ℕ). Passes (g.D.Disk.seen old).files (g.D.Disk.seen old).left (g.D.Disk.seen new).left (IsWriting name bytes)) whole ok.moments;
    }) ok.unkept)

pub returns-in-Err-write_output : goal.returns-in-Err-write_output
returns-in-Err-write_output g c =
    let seen = disk_seen g.D.Disk g.D.Input.Source in
    let old = c.args.disk.now in
    let new = c.write_output.new.disk in
    let name = c.as_str-name.result.now in
    let fate = c.no_output.result in
    subst (λ (n : List ℕ). (output_to (is_standard_output n) g.T.Terminal.screen n (seen old) (seen new) c.args.term.now c.args.term.now).fails c.args.bytes.now fate) c.as_str-name.ensures.value
    (fails_in g.T.Terminal.screen name c.args.bytes.now (seen old) (seen new) c.args.term.now (sym c.is_standard_output.ensures ∙ c.if-is_standard_output.false) fate (record {
      files = c.in-Err-write_output.ensures.err;
      streams = c.in-Err-write_output.ensures.streams;
      moments = subst (λ (bytes : List ℕ). Passes (g.D.Disk.seen old).files (g.D.Disk.seen old).left (g.D.Disk.seen new).left (IsWriting name bytes)) c.of.ensures c.in-Err-write_output.ensures.moments;
      error = c.in-Err-write_output.error;
      given = c.in-Err-write_output.ensures.error;
      fate_is = c.no_output.ensures;
    }))

pub returns-in-Err : goal.returns-in-Err
returns-in-Err g c = search rules
