use Rattle.std.proofs.Common.{◌∙◌, subst, ℕ}
use Rattle.teco_fs.proofs.Disks.{others_appended}
use Rattle.teco_fs.specs.Disk.{Counts}
use Rattle.teco_fs.proofs.Writings.{appends_still, is_error, on_err_by, on_ok_by}
use Rattle.teco_fs.proofs.output.fill.Goals as goal

pub returns : goal.returns
returns g c =
    let written = appends_still (c.settle.ensures.still.files ∙ c.make_like.ensures.still.files) c.in_ok-write_slices.ensures.ok in
    let passed = c.write_slices.ensures.moments in
    record {
      ok = on_ok_by c.settle.result written;
      kept = c.settle.ensures.kept;
      err = on_err_by c.settle.result (others_appended written);
      moments = λ before told files left. passed before told files (c.make_like.ensures.still.moments files (c.settle.ensures.still.moments files left));
      still = record {
        streams = c.settle.ensures.still.streams ∙ (c.make_like.ensures.still.streams ∙ c.write_slices.ensures.still.streams);
        count = subst (λ (n : ℕ). Counts c.settle.result n ((g.D.Disk.seen c.settle.new.disk).failures)) (c.make_like.ensures.still.count ∙ c.in_ok-write_slices.ensures.still.count) c.settle.ensures.still.count;
        error = c.settle.ensures.still.error;
      };
    }

pub returns-in_err-write_slices : goal.returns-in_err-write_slices
returns-in_err-write_slices g c =
    let failed = is_error c.from_residual.result c.in_err-write_slices.field-0.0 c.from_residual.ensures.1 in
    record {
      ok = rw failed tt;
      kept = rw failed tt;
      err = on_err_by c.from_residual.result c.in_err-write_slices.ensures.err;
      moments = c.write_slices.ensures.moments;
      still = record {
        streams = c.write_slices.ensures.still.streams;
        count = rw failed c.in_err-write_slices.ensures.still.count;
        error = rw failed c.in_err-write_slices.ensures.still.error;
      };
    }
