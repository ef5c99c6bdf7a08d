use Rattle.std.proofs.Common.{◌≡◌, ◌≢◌, ◌∙◌, ◌++◌, inl, inr, refl, sym}
use Rattle.std.proofs.lemmas.Result.{IfErr-weaker, err_from_is_err_and, on_ok_weaker, on_err_weaker}
use Rattle.teco_fs.specs.Writing.{IsKeeping}
use Rattle.teco_fs.specs.Draft.{draft_beside}
use Rattle.teco_fs.proofs.Keepings.{keeps_after, keeping_more}
use Rattle.teco_fs.proofs.Writings.{adds_more, adds_none, passes_none}
use Rattle.teco_fs.proofs.keeping.keep_file.Goals as goal
use Rattle.teco_fs.proofs.keeping.keep_file.Goals.{in_default-via-in-Err+else-eq, in_default-via-in-Ok-1}

pub returns-in_err-backup : goal.returns-in_err-backup
returns-in_err-backup g c =
    let failed = err_from_is_err_and c.from_residual.result c.from_residual.ensures.1 in
    record {
      ok = rw failed.1 tt;
      err = rw failed.1 (adds_none c.args.file.now ((g.D.Disk.seen c.args.disk.now).files));
      streams = refl;
      moments = passes_none (IsKeeping c.args.file.now (c.args.file.now ++ c.args.suffix.now)) ((g.D.Disk.seen c.args.disk.now).files) ((g.D.Disk.seen c.args.disk.now).left);
      error = rw failed.1 (inr (inl failed.2));
    }

pub returns-in_err-draft : goal.returns-in_err-draft
returns-in_err-draft g c =
    let failed = err_from_is_err_and c.from_residual-in_err-draft.result c.from_residual-in_err-draft.ensures.1 in
    record {
      ok = rw failed.1 tt;
      err = rw failed.1 c.drafts.invariant.adds;
      streams = c.drafts.invariant.streams;
      moments = c.drafts.invariant.moments;
      error = rw failed.1 (inr (inl failed.2));
    }

pub returns : goal.returns
returns g c = record {
  ok = tt;
  err = c.drafts.invariant.adds;
  streams = c.drafts.invariant.streams;
  moments = c.drafts.invariant.moments;
  error = inr (inr c.from.ensures);
}

pub drafts-init : goal.drafts-init
drafts-init g c = record {
  adds = adds_none c.args.file.now ((g.D.Disk.seen c.args.disk.now).files);
  streams = refl;
  moments = passes_none (IsKeeping c.args.file.now (c.args.file.now ++ c.args.suffix.now)) ((g.D.Disk.seen c.args.disk.now).files) ((g.D.Disk.seen c.args.disk.now).left);
}

pub returns-in_default : goal.returns-in_default
returns-in_default g c =
    let adds = c.drafts.invariant.adds in
    let is : c.as_str-in-drafts.result.now ≡ c.args.file.now ++ c.args.suffix.now = c.as_str-in-drafts.ensures.value ∙ c.in_ok-backup.ensures.ok in
    let named : c.as_str.result.now ≡ draft_beside c.args.file.now c.drafts.draft_number = c.as_str.ensures.value ∙ c.in_ok-draft.ensures.named in
    let differ : c.as_str.result.now ≢ c.args.file.now = λ e. c.in_ok-draft.ensures.another (sym c.as_str.ensures.value ∙ e) in
    record {
      ok = elim c.in_default-1.branch [
        | in_default-via-in-Err+else-eq w ↦ rw w.done-is tt
        | in_default-via-in-Ok-1 w ↦ rw w.done-is (on_ok_weaker c.keep.result (keeps_after is adds) c.keep.ensures.ok)
      ];
      err = elim c.in_default-1.branch [
        | in_default-via-in-Err+else-eq w ↦ rw w.done-is (adds_more c.drafts.draft_number named differ adds w.in-Err.ensures.err)
        | in_default-via-in-Ok-1 w ↦ rw w.done-is (on_err_weaker c.keep.result (adds_more c.drafts.draft_number named differ adds) c.keep.ensures.err)
      ];
      streams = c.keep.ensures.still.streams ∙ c.drafts.invariant.streams;
      moments = keeping_more c.drafts.draft_number named is adds c.drafts.invariant.moments c.keep.ensures.moments;
      error = elim c.in_default-1.branch [
        | in_default-via-in-Err+else-eq w ↦ rw w.done-is (inl w.in-Err.ensures.still.error)
        | in_default-via-in-Ok-1 w ↦ rw w.done-is (IfErr-weaker c.keep.result ((g.D.Disk.seen c.keep.new.self).gave) _ (λ _ given. inl given) c.keep.ensures.still.error)
      ];
    }

pub drafts-preserved : goal.drafts-preserved
drafts-preserved g c =
    let adds = c.drafts.invariant.adds in
    let is : c.as_str-in-drafts.result.now ≡ c.args.file.now ++ c.args.suffix.now = c.as_str-in-drafts.ensures.value ∙ c.in_ok-backup.ensures.ok in
    let named : c.as_str.result.now ≡ draft_beside c.args.file.now c.drafts.draft_number = c.as_str.ensures.value ∙ c.in_ok-draft.ensures.named in
    let differ : c.as_str.result.now ≢ c.args.file.now = λ e. c.in_ok-draft.ensures.another (sym c.as_str.ensures.value ∙ e) in
    record {
      adds = adds_more c.drafts.draft_number named differ adds c.in-Err.ensures.err;
      streams = c.keep.ensures.still.streams ∙ c.drafts.invariant.streams;
      moments = keeping_more c.drafts.draft_number named is adds c.drafts.invariant.moments c.keep.ensures.moments;
    }
