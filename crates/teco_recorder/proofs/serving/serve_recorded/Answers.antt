use Rattle.std.proofs.Common.{◌∙◌, is_some}
use Rattle.teco_serve.specs.Hearing.{events_in}
use Rattle.teco_recorder.specs.Recording.{recording}
use Rattle.teco_recorder.proofs.Hearings.{same_all}
use Rattle.teco_recorder.proofs.Lines.{lines_of_all, settled_all}
use Rattle.teco_recorder.proofs.serving.serve_recorded.Goals as goal

pub returns-clause-recorded : goal.returns-clause-recorded
returns-clause-recorded g c =
    let h = c.serve-served.ensures.heard in
    record {
      events = events_in h.heard;
      leads = h.leads;
      happen = h.happens;
      lines = settled_all _ _ _ _ (lines_of_all _ _ (λ r. recording (g.D.Disk.seen r.disk.now) r.file.now (is_some r.broken))
          (λ old new heard p. p.3) _ _ h.heard h.by_calls) c.settle.ensures.settles;
    }

pub returns-clause-same_disk : goal.returns-clause-same_disk
returns-clause-same_disk g c =
    let h = c.serve-served.ensures.heard in
    c.settle.ensures.same_disk ∙ same_all _ _ _ (λ r. r.disk.ghost_name) (λ old new heard p. p.0) _ _ h.heard h.by_calls

pub returns-clause-same_listener : goal.returns-clause-same_listener
returns-clause-same_listener g c =
    let h = c.serve-served.ensures.heard in
    c.settle.ensures.same_listener ∙ same_all _ _ _ (λ r. r.listener.ghost_name) (λ old new heard p. p.1) _ _ h.heard h.by_calls

pub returns-clause-same_file : goal.returns-clause-same_file
returns-clause-same_file g c =
    let h = c.serve-served.ensures.heard in
    c.settle.ensures.same_file ∙ same_all _ _ _ (λ r. r.file.ghost_name) (λ old new heard p. p.4) _ _ h.heard h.by_calls
