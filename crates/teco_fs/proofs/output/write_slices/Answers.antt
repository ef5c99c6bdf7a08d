use Rattle.std.proofs.Common.{◌≡◌, ◌∙◌, ◌++◌, ap, append_assoc, append-nil, refl, subst, sym, true, List, [], ℕ}
use Rattle.teco_io.specs.Terminal.{count_after}
use Rattle.teco_store.specs.Slices.{bytes_in}
use Rattle.teco_fs.specs.Disk.{Appends, Changes, SameBut}
use Rattle.teco_fs.proofs.Disks.{appends_then, but_then, changes_none, others_appended, others_front, passes_front, passes_then}
use Rattle.teco_fs.proofs.Writings.{is_error, on_err_by, passes_none}
use Rattle.teco_fs.proofs.output.write_slices.Goals as goal

pub loop-slice-init : goal.loop-slice-init
loop-slice-init g c = record {
  made = c.requires;
  given = ([], refl, changes_none c.args.name.now ((g.D.Disk.seen c.args.disk.now).files));
  moments = passes_none (SameBut c.args.name.now) ((g.D.Disk.seen c.args.disk.now).files) ((g.D.Disk.seen c.args.disk.now).left);
  streams = refl;
  count = refl;
}

pub loop-slice-preserved : goal.loop-slice-preserved
loop-slice-preserved g c =
    let so_far = c.loop-slice.invariant in
    let given = so_far.given.0 in
    let slice = c.in-Some.slice.now in
    record {
      made = c.write.ensures.draft;
      given = (
        given ++ slice,
        so_far.given.1 ∙ ap (λ (l : List ℕ). given ++ l) c.in-Some.ensures.bytes ∙ sym (append_assoc given slice (bytes_in c.in-Some.others)),
        appends_then so_far.given.2 c.in_ok-write.ensures.ok,
      );
      moments = passes_then so_far.moments (others_appended so_far.given.2) (passes_front c.write.ensures.moments);
      streams = c.write.ensures.still.streams ∙ so_far.streams;
      count = c.in_ok-write.ensures.still.count ∙ so_far.count;
    }

pub returns : goal.returns
returns g c =
    let so_far = c.loop-slice.invariant in
    let given = so_far.given.0 in
    let all : given ≡ bytes_in c.args.bytes = sym (so_far.given.1 ∙ ap (λ (l : List ℕ). given ++ l) c.in_default.ensures.bytes ∙ append-nil given) in
    record {
      ok = subst (λ (l : List ℕ). Changes ((g.D.Disk.seen c.args.disk.now).files) ((g.D.Disk.seen c.loop-slice.disk).files) (Appends c.args.name.now l)) all so_far.given.2;
      draft = so_far.made;
      err = tt;
      moments = so_far.moments;
      still = record { streams = so_far.streams; count = so_far.count; error = tt };
    }

pub returns-in_err-write : goal.returns-in_err-write
returns-in_err-write g c =
    let so_far = c.loop-slice.invariant in
    let failed = is_error c.from_residual.result c.in_err-write.field-0.0 c.from_residual.ensures.1 in
    record {
      ok = rw failed tt;
      draft = c.write.ensures.draft;
      err = on_err_by c.from_residual.result (but_then (others_appended so_far.given.2) (others_front c.in_err-write.ensures.err));
      moments = passes_then so_far.moments (others_appended so_far.given.2) (passes_front c.write.ensures.moments);
      still = record {
        streams = c.write.ensures.still.streams ∙ so_far.streams;
        count = rw failed (c.in_err-write.ensures.still.count ∙ ap (count_after true) so_far.count);
        error = rw failed c.in_err-write.ensures.still.error;
      };
    }
