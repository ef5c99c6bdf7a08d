use Rattle.std.proofs.Common.{◌∙◌, [], ap, refl}
use Rattle.std.proofs.lemmas.Result.{err_from_is_err_and}
use Rattle.teco_recorder.proofs.Adding.{front_named, line_is, passes_named}
use Rattle.teco_recorder.proofs.Beginnings.{appends_front}
use Rattle.teco_recorder.proofs.Files.{changes_none, front_first, front_none}
use Rattle.teco_recorder.specs.Recording.{line_in}
use Rattle.teco_journal.specs.Entries.{event_in}
use Rattle.teco_journal.specs.Events.{event_of}
use Rattle.teco_recorder.proofs.open_file.OpenFile.add.Goals as goal
use Rattle.teco_recorder.proofs.open_file.OpenFile.add.Goals.{then-syncs+in_ok-sync, else-syncs}

pub returns-in_err-told-clause-err : goal.returns-in_err-told-clause-err
returns-in_err-told-clause-err g c =
    let failed = err_from_is_err_and c.from_residual.result c.from_residual.ensures.1 in
    rw failed.1 (changes_none _ _ _ (λ f. front_first _ [] (line_in c.args.self.now (event_in c.args.entry)) f f (front_none c.args.self.now.name f)) refl)

pub returns-in_err-push_record-clause-err : goal.returns-in_err-push_record-clause-err
returns-in_err-push_record-clause-err g c =
    let failed = err_from_is_err_and c.from_residual-in_err-push_record.result c.from_residual-in_err-push_record.ensures.1 in
    rw failed.1 (changes_none _ _ _ (λ f. front_first _ [] (line_in c.args.self.now (event_in c.args.entry)) f f (front_none c.args.self.now.name f)) refl)

pub returns-in_err-write-clause-err : goal.returns-in_err-write-clause-err
returns-in_err-write-clause-err g c =
    let named = c.as_str.ensures.value ∙ ap (λ f. f.name) c.self.view_is in
    let whole = line_is c.self.inside.check c.args.self.now.check (event_of c.in_ok-told.told) (event_in c.args.entry) _ _ _ c.as_slice.ensures.value
    c.in_ok-push_record.ensures.line c.new-line.ensures.items c.in_ok-told.ensures (ap (λ f. f.check) c.self.view_is) in
    let failed = err_from_is_err_and c.from_residual-in_err-write.result c.from_residual-in_err-write.ensures.1 in
    rw failed.1 (front_named _ _ _ _ _ _ named whole c.in_err-write.ensures.err)

pub returns-in_err-write-clause-moments : goal.returns-in_err-write-clause-moments
returns-in_err-write-clause-moments g c =
    let named = c.as_str.ensures.value ∙ ap (λ f. f.name) c.self.view_is in
    let whole = line_is c.self.inside.check c.args.self.now.check (event_of c.in_ok-told.told) (event_in c.args.entry) _ _ _ c.as_slice.ensures.value
    c.in_ok-push_record.ensures.line c.new-line.ensures.items c.in_ok-told.ensures (ap (λ f. f.check) c.self.view_is) in
    passes_named _ _ _ _ _ _ _ named whole c.write.ensures.moments

pub returns-in_err-sync-clause-err : goal.returns-in_err-sync-clause-err
returns-in_err-sync-clause-err g c =
    let named = c.as_str.ensures.value ∙ ap (λ f. f.name) c.self.view_is in
    let whole = line_is c.self.inside.check c.args.self.now.check (event_of c.in_ok-told.told) (event_in c.args.entry) _ _ _ c.as_slice.ensures.value
    c.in_ok-push_record.ensures.line c.new-line.ensures.items c.in_ok-told.ensures (ap (λ f. f.check) c.self.view_is) in
    let failed = err_from_is_err_and c.from_residual-in_err-sync.result c.from_residual-in_err-sync.ensures.1 in
    rw failed.1 (front_named _ _ _ _ _ _ named whole (appends_front _ _ _ _ _ c.in_ok-write.ensures.ok c.sync.ensures.still.files))

pub returns-in_err-sync-clause-moments : goal.returns-in_err-sync-clause-moments
returns-in_err-sync-clause-moments g c before told now left =
    let named = c.as_str.ensures.value ∙ ap (λ f. f.name) c.self.view_is in
    let whole = line_is c.self.inside.check c.args.self.now.check (event_of c.in_ok-told.told) (event_in c.args.entry) _ _ _ c.as_slice.ensures.value
    c.in_ok-push_record.ensures.line c.new-line.ensures.items c.in_ok-told.ensures (ap (λ f. f.check) c.self.view_is) in
    passes_named _ _ _ _ _ _ _ named whole c.write.ensures.moments before told now (c.sync.ensures.still.moments now left)

pub returns-clause-moments : goal.returns-clause-moments
returns-clause-moments g c =
    let named = c.as_str.ensures.value ∙ ap (λ f. f.name) c.self.view_is in
    let whole = line_is c.self.inside.check c.args.self.now.check (event_of c.in_ok-told.told) (event_in c.args.entry) _ _ _ c.as_slice.ensures.value
    c.in_ok-push_record.ensures.line c.new-line.ensures.items c.in_ok-told.ensures (ap (λ f. f.check) c.self.view_is) in
    let passes = passes_named _ _ _ _ _ _ _ named whole c.write.ensures.moments in
    elim c.if-syncs.branch [
      | then-syncs+in_ok-sync w ↦ rw w.disk-is (λ before told now left. passes before told now (w.sync.ensures.still.moments now left))
      | else-syncs w ↦ rw w.disk-is passes
    ]
