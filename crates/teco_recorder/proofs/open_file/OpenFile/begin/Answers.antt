use Rattle.std.proofs.Common.{◌∙◌, ap}
use Rattle.std.proofs.lemmas.Result.{err_from_is_err_and}
use Rattle.teco_recorder.proofs.Beginnings.{appends_front, begun_passes, cut_passes, front_changes, whole_changes}
use Rattle.teco_recorder.proofs.open_file.OpenFile.begin.Goals as goal

pub returns-in_err-cut-clause-moments : goal.returns-in_err-cut-clause-moments
returns-in_err-cut-clause-moments g c = cut_passes _ _ _ _ _ _ (c.as_str.ensures.value ∙ ap (λ f. f.name) c.self.view_is) c.cut.ensures.moments

pub returns-in_err-write-clause-err : goal.returns-in_err-write-clause-err
returns-in_err-write-clause-err g c =
    let failed = err_from_is_err_and c.from_residual-in_err-write.result c.from_residual-in_err-write.ensures.1 in
    rw failed.1 (front_changes _ _ _ _ _ _ _ _ (c.as_str.ensures.value ∙ ap (λ f. f.name) c.self.view_is)
    (c.as_str-2.ensures.value ∙ ap (λ f. f.name) c.self.view_is) c.as_slice.ensures.value c.in_ok-cut.ensures.ok c.in_err-write.ensures.err)

pub returns-in_err-write-clause-moments : goal.returns-in_err-write-clause-moments
returns-in_err-write-clause-moments g c = begun_passes _ _ _ _ _ _ _ _ _ _ (c.as_str.ensures.value ∙ ap (λ f. f.name) c.self.view_is)
    (c.as_str-2.ensures.value ∙ ap (λ f. f.name) c.self.view_is) c.as_slice.ensures.value c.in_ok-cut.ensures.ok c.cut.ensures.moments c.write.ensures.moments

pub returns-in_err-sync-clause-err : goal.returns-in_err-sync-clause-err
returns-in_err-sync-clause-err g c =
    let failed = err_from_is_err_and c.from_residual-in_err-sync.result c.from_residual-in_err-sync.ensures.1 in
    rw failed.1 (front_changes _ _ _ _ _ _ _ _ (c.as_str.ensures.value ∙ ap (λ f. f.name) c.self.view_is)
    (c.as_str-2.ensures.value ∙ ap (λ f. f.name) c.self.view_is) c.as_slice.ensures.value c.in_ok-cut.ensures.ok
    (appends_front _ _ _ _ _ c.in_ok-write.ensures.ok c.sync.ensures.still.files))

pub returns-in_err-sync-clause-moments : goal.returns-in_err-sync-clause-moments
returns-in_err-sync-clause-moments g c before told now left =
    begun_passes _ _ _ _ _ _ _ _ _ _ (c.as_str.ensures.value ∙ ap (λ f. f.name) c.self.view_is)
    (c.as_str-2.ensures.value ∙ ap (λ f. f.name) c.self.view_is) c.as_slice.ensures.value c.in_ok-cut.ensures.ok c.cut.ensures.moments c.write.ensures.moments
    before told now (c.sync.ensures.still.moments now left)

pub returns-clause-ok : goal.returns-clause-ok
returns-clause-ok g c = whole_changes _ _ _ _ _ _ _ _ _ (c.as_str.ensures.value ∙ ap (λ f. f.name) c.self.view_is)
    (c.as_str-2.ensures.value ∙ ap (λ f. f.name) c.self.view_is) c.as_slice.ensures.value c.in_ok-cut.ensures.ok c.in_ok-write.ensures.ok c.sync.ensures.still.files

pub returns-clause-moments : goal.returns-clause-moments
returns-clause-moments g c before told now left =
    begun_passes _ _ _ _ _ _ _ _ _ _ (c.as_str.ensures.value ∙ ap (λ f. f.name) c.self.view_is)
    (c.as_str-2.ensures.value ∙ ap (λ f. f.name) c.self.view_is) c.as_slice.ensures.value c.in_ok-cut.ensures.ok c.cut.ensures.moments c.write.ensures.moments
    before told now (c.sync.ensures.still.moments now left)
