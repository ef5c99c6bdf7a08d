use Rattle.std.proofs.Common.{◌∙◌, subst, ℕ}
use Rattle.teco_fs.proofs.Disks.{passes_making}
use Rattle.teco_fs.specs.Disk.{Counts}
use Rattle.teco_fs.proofs.Writings.{asked_whole, is_error, leaves_by, passes_whole, removed_by, replaces_by, unless_weaker, whole_by, whole_weaker}
use Rattle.teco_fs.proofs.output.replace.Goals as goal

pub returns-in_err-create : goal.returns-in_err-create
returns-in_err-create g c =
    let failed = is_error c.from_residual.result c.in_err-create.field-0.0 c.from_residual.ensures.1 in
    record {
      ok = rw failed tt;
      unkept = rw failed tt;
      asked = rw failed tt;
      changed = rw failed tt;
      err = rw failed c.in_err-create.ensures.err;
      removed = rw failed c.in_err-create.ensures.removed;
      moments = λ synced. passes_making c.requires c.create.ensures.moments;
      still = record {
        streams = c.create.ensures.still.streams;
        count = rw failed c.in_err-create.ensures.still.count;
        error = rw failed c.in_err-create.ensures.still.error;
      };
    }

pub returns-in-Some : goal.returns-in-Some
returns-in-Some g c = record {
  ok = whole_weaker c.take_name_as_read.result (replaces_by c.in_ok-create.ensures.ok) c.take_name_as_read.ensures.ok;
  unkept = c.take_name_as_read.ensures.unkept;
  asked = rw c.in-Some.is (whole_weaker c.take_name_as_read.result (asked_whole c.in_ok-create.ensures.ok) c.take_name_as_read.ensures.asked);
  changed = rw c.in-Some.is c.take_name_as_read.ensures.changed;
  err = unless_weaker c.take_name_as_read.result (leaves_by c.in_ok-create.ensures.ok) c.take_name_as_read.ensures.err;
  removed = unless_weaker c.take_name_as_read.result (removed_by c.in_ok-create.ensures.ok) c.take_name_as_read.ensures.removed;
  moments = λ synced. passes_whole c.requires c.create.ensures.moments c.in_ok-create.ensures.ok (c.take_name_as_read.ensures.moments (c.in_ok-create.ensures.kept synced));
  still = record {
    streams = c.take_name_as_read.ensures.still.streams ∙ c.create.ensures.still.streams;
    count = subst (λ (n : ℕ). Counts c.take_name_as_read.result n ((g.D.Disk.seen c.take_name_as_read.new.disk).failures)) c.in_ok-create.ensures.still.count c.take_name_as_read.ensures.still.count;
    error = c.take_name_as_read.ensures.still.error;
  };
}

pub returns-in-None : goal.returns-in-None
returns-in-None g c = record {
  ok = whole_weaker c.take_name.result (replaces_by c.in_ok-create.ensures.ok) c.take_name.ensures.ok;
  unkept = c.take_name.ensures.unkept;
  asked = rw c.in-None.is (whole_by c.take_name.result tt);
  changed = rw c.in-None.is c.take_name.ensures.unchanged;
  err = unless_weaker c.take_name.result (leaves_by c.in_ok-create.ensures.ok) c.take_name.ensures.err;
  removed = unless_weaker c.take_name.result (removed_by c.in_ok-create.ensures.ok) c.take_name.ensures.removed;
  moments = λ synced. passes_whole c.requires c.create.ensures.moments c.in_ok-create.ensures.ok (c.take_name.ensures.moments (c.in_ok-create.ensures.kept synced));
  still = record {
    streams = c.take_name.ensures.still.streams ∙ c.create.ensures.still.streams;
    count = subst (λ (n : ℕ). Counts c.take_name.result n ((g.D.Disk.seen c.take_name.new.disk).failures)) c.in_ok-create.ensures.still.count c.take_name.ensures.still.count;
    error = c.take_name.ensures.still.error;
  };
}
