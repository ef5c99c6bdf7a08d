use Rattle.std.proofs.Common.{◌≡◌, ◌≢◌, ◌∙◌, inl, inr, refl, sym}
use Rattle.std.proofs.lemmas.Result.{IfErr-weaker, err_from_is_err_and}
use Rattle.teco_fs.specs.Writing.{IsWriting}
use Rattle.teco_fs.specs.Draft.{draft_beside}
use Rattle.teco_fs.proofs.Writings.{adds_more, adds_none, asked_later, passes_more, passes_none, some_weaker, unless_weaker, whole_weaker, writes_after}
use Rattle.teco_store.specs.Slices.{bytes_in}
use Rattle.teco_fs.proofs.output.replace_file.Goals as goal
use Rattle.teco_fs.proofs.output.replace_file.Goals.{in_default-via-in-Err+else-eq, in_default-via-in-Ok-1}

pub returns-in_err-draft : goal.returns-in_err-draft
returns-in_err-draft g c =
    let failed = err_from_is_err_and c.from_residual.result c.from_residual.ensures.1 in
    record {
      ok = rw failed.1 tt;
      unkept = rw failed.1 tt;
      asked = rw failed.1 tt;
      changed = rw failed.1 tt;
      err = rw failed.1 c.drafts.invariant.adds;
      streams = c.drafts.invariant.streams;
      moments = c.drafts.invariant.moments;
      error = rw failed.1 (inr (inl failed.2));
    }

pub returns-in_default : goal.returns-in_default
returns-in_default g c =
    let named : c.as_str.result.now ≡ draft_beside c.args.file.now c.drafts.number = c.as_str.ensures.value ∙ c.in_ok-draft.ensures.named in
    let differ : c.as_str.result.now ≢ c.args.file.now = λ e. c.in_ok-draft.ensures.another (sym c.as_str.ensures.value ∙ e) in
    record {
      ok = elim c.in_default-1.branch [
        | in_default-via-in-Err+else-eq w ↦ rw w.done-is tt
        | in_default-via-in-Ok-1 w ↦ rw w.done-is (whole_weaker c.replace.result (writes_after c.drafts.number named differ c.drafts.invariant.adds) c.replace.ensures.ok)
      ];
      unkept = elim c.in_default-1.branch [
        | in_default-via-in-Err+else-eq w ↦ rw w.done-is tt
        | in_default-via-in-Ok-1 w ↦ rw w.done-is c.replace.ensures.unkept
      ];
      asked = elim c.in_default-1.branch [
        | in_default-via-in-Err+else-eq w ↦ rw w.done-is tt
        | in_default-via-in-Ok-1 w ↦ rw w.done-is (whole_weaker c.replace.result (some_weaker c.args.read (λ read. asked_later c.drafts.number named c.drafts.invariant.adds)) c.replace.ensures.asked)
      ];
      changed = elim c.in_default-1.branch [
        | in_default-via-in-Err+else-eq w ↦ rw w.done-is tt
        | in_default-via-in-Ok-1 w ↦ rw w.done-is c.replace.ensures.changed
      ];
      err = elim c.in_default-1.branch [
        | in_default-via-in-Err+else-eq w ↦ rw w.done-is (adds_more c.drafts.number named differ c.drafts.invariant.adds w.in-Err.ensures.err)
        | in_default-via-in-Ok-1 w ↦ rw w.done-is (unless_weaker c.replace.result (adds_more c.drafts.number named differ c.drafts.invariant.adds) c.replace.ensures.err)
      ];
      streams = c.replace.ensures.still.streams ∙ c.drafts.invariant.streams;
      moments = λ synced. passes_more c.drafts.number named differ c.drafts.invariant.adds (c.drafts.invariant.moments synced) (c.replace.ensures.moments synced);
      error = elim c.in_default-1.branch [
        | in_default-via-in-Err+else-eq w ↦ rw w.done-is (inl w.in-Err.ensures.still.error)
        | in_default-via-in-Ok-1 w ↦ rw w.done-is (IfErr-weaker c.replace.result ((g.D.Disk.seen c.replace.new.disk).gave) _ (λ _ given. inl given) c.replace.ensures.still.error)
      ];
    }

pub returns : goal.returns
returns g c = record {
  ok = tt;
  unkept = tt;
  asked = tt;
  changed = tt;
  err = c.drafts.invariant.adds;
  streams = c.drafts.invariant.streams;
  moments = c.drafts.invariant.moments;
  error = inr (inr c.from.ensures);
}

pub drafts-preserved : goal.drafts-preserved
drafts-preserved g c =
    let named : c.as_str.result.now ≡ draft_beside c.args.file.now c.drafts.number = c.as_str.ensures.value ∙ c.in_ok-draft.ensures.named in
    let differ : c.as_str.result.now ≢ c.args.file.now = λ e. c.in_ok-draft.ensures.another (sym c.as_str.ensures.value ∙ e) in
    record {
      adds = adds_more c.drafts.number named differ c.drafts.invariant.adds c.in-Err.ensures.err;
      streams = c.replace.ensures.still.streams ∙ c.drafts.invariant.streams;
      moments = λ synced. passes_more c.drafts.number named differ c.drafts.invariant.adds (c.drafts.invariant.moments synced) (c.replace.ensures.moments synced);
    }

pub drafts-init : goal.drafts-init
drafts-init g c = record {
  adds = adds_none c.args.file.now ((g.D.Disk.seen c.args.disk.now).files);
  streams = refl;
  moments = λ synced. passes_none (IsWriting c.args.file.now (bytes_in c.args.bytes)) ((g.D.Disk.seen c.args.disk.now).files) ((g.D.Disk.seen c.args.disk.now).left);
}
