use Rattle.std.proofs.Common.{◌∙◌, ap, inl, true}
use Rattle.teco_fs.proofs.Disks.{but_then, creates_written, leaves_draft, others_created, passes_then, removed_or}
use Rattle.teco_io.specs.Terminal.{count_after}
use Rattle.teco_fs.proofs.Writings.{is_error, leaves_same, on_err_by}
use Rattle.teco_fs.proofs.output.create.Goals as goal

pub returns-in-Err : goal.returns-in-Err
returns-in-Err g c = record {
  ok = tt;
  kept = tt;
  err = leaves_draft c.in_ok-draft.ensures.ok c.in-Err.ensures.err c.remove.ensures.others;
  removed = removed_or c.remove.result c.in_ok-draft.ensures.ok c.in-Err.ensures.err c.remove.ensures.ok c.remove.ensures.err;
  moments = let made = others_created c.in_ok-draft.ensures.ok in
      passes_then (passes_then c.make.ensures.moments made c.fill.ensures.moments) (but_then made c.in-Err.ensures.err) c.remove.ensures.moments;
  still = record {
    streams = c.remove.ensures.still.streams ∙ (c.fill.ensures.still.streams ∙ c.make.ensures.still.streams);
    count = c.remove.ensures.still.count ∙ (c.in-Err.ensures.still.count ∙ ap (count_after true) c.in_ok-draft.ensures.still.count);
    error = c.remove.ensures.still.errors _ c.in-Err.ensures.still.error;
  };
}

pub returns : goal.returns
returns g c = record {
  ok = creates_written c.in_ok-draft.ensures.ok c.in_default.ensures.ok;
  kept = c.in_default.ensures.kept;
  err = tt;
  removed = tt;
  moments = passes_then c.make.ensures.moments (others_created c.in_ok-draft.ensures.ok) c.fill.ensures.moments;
  still = record {
    streams = c.fill.ensures.still.streams ∙ c.make.ensures.still.streams;
    count = c.in_default.ensures.still.count ∙ c.in_ok-draft.ensures.still.count;
    error = tt;
  };
}

pub returns-in_err-draft : goal.returns-in_err-draft
returns-in_err-draft g c =
    let failed = is_error c.from_residual.result c.in_err-draft.field-0.0 c.from_residual.ensures.1 in
    record {
      ok = rw failed tt;
      kept = rw failed tt;
      err = on_err_by c.from_residual.result (leaves_same c.in_err-draft.ensures.err);
      removed = on_err_by c.from_residual.result (inl c.in_err-draft.ensures.err);
      moments = c.make.ensures.moments;
      still = record {
        streams = c.make.ensures.still.streams;
        count = rw failed c.in_err-draft.ensures.still.count;
        error = rw failed c.in_err-draft.ensures.still.error;
      };
    }
