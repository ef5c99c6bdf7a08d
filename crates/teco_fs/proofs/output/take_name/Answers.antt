use Rattle.std.proofs.Common.{◌∙◌}
use Rattle.teco_fs.proofs.Writings.{passes_discarding, passes_taking, removes_then, same_but_then}
use Rattle.teco_fs.proofs.output.take_name.Goals as goal

pub returns-in-Ok : goal.returns-in-Ok
returns-in-Ok g c = record {
  ok = c.in-Ok.ensures.ok;
  unkept = c.in-Ok.ensures.unkept;
  unchanged = tt;
  err = tt;
  removed = tt;
  moments = λ kept. passes_taking (c.rename.ensures.moments kept);
  still = record {
    streams = c.rename.ensures.still.streams;
    count = c.in-Ok.ensures.still.count;
    error = tt;
  };
}

pub returns-in-Err : goal.returns-in-Err
returns-in-Err g c = record {
  ok = tt;
  unkept = tt;
  unchanged = tt;
  err = same_but_then c.in-Err.ensures.err c.discard.ensures.others;
  removed = removes_then c.in-Err.ensures.err c.discard.ensures.removed;
  moments = λ kept. passes_discarding (c.rename.ensures.moments kept) c.in-Err.ensures.err c.discard.ensures.moments;
  still = record {
    streams = c.discard.ensures.still.streams ∙ c.rename.ensures.still.streams;
    count = c.discard.ensures.still.count ∙ c.in-Err.ensures.still.count;
    error = c.discard.ensures.still.errors _ c.in-Err.ensures.still.error;
  };
}
