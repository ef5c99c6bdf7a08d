use Rattle.std.proofs.Common.{◌∙◌, ap, inl, inr, refl, subst, sym}
use Rattle.std.specs.String.{string_bytes}
use Rattle.teco_driver.specs.Given.{host_view}
use Rattle.teco_driver.specs.Seen.{commands_seen}
use Rattle.teco_driver.specs.Sessions.{OpensOver}
use Rattle.teco_driver.proofs.Sessions.{recorded_bare, runs_session}
use Rattle.teco_driver.proofs.keeping.keep_by.Goals as goal
use Rattle.teco_fs.specs.Seen.{disk_seen}
use Rattle.teco_recorder.specs.Opening.{OpenSession}
use Rattle.teco_session.specs.Kept.{history_of}
use Rattle.teco_serve.specs.Exchange.{HasRung}

pub returns-in-Err : goal.returns-in-Err
returns-in-Err g c = record { keeps = inl (c.in-Err.ensures.shut, refl); still = c.open_kept.ensures.stream }

pub returns : goal.returns
returns g c =
    let view = host_view (disk_seen g.D.Disk g.D.Input.Source) g.S.Source g.T.Terminal.screen (HasRung g.A.Stop.answered) in
    let line = c.args.line.now in
    let name = c.args.name.now in
    let old = c.args.host.now in
    let is : OpenSession = record {
      file = c.in-Ok.kept.file;
      history = history_of c.in-Ok.kept.work.session;
      records = c.in-Ok.kept.records;
      torn = c.in-Ok.kept.torn;
    } in
    let given = commands_seen g.C.Source c.args.commands.now c.serve_kept-done.new.commands view.asked line.undo in
    record {
      keeps = inr (runs_session view g.E.Terminal.screen line name given old c.finish_kept.new.host c.args.errors.now c.open_kept.new.errors
          c.open_kept.new.host.disk c.serve_kept-done.new.disk c.serve_kept-done.new.term c.in-Ok.kept.length is c.serve_kept-done.ensures.recorded.0
          _ _ _ _ _
          (subst (λ (s : g.row.S.Denot). OpensOver view g.E.Terminal.screen line name old s c.open_kept.new.host.disk c.args.errors.now c.open_kept.new.errors c.in-Ok.kept.length is)
          (sym c.finish_kept.ensures.still) c.in-Ok.ensures.opens)
          (rw c.open_kept.ensures.still at c.serve_kept-done.ensures.serves)
          (recorded_bare _ _ _ _ _ _ _ _ c.serve_kept-done.ensures.recorded.1)
          (ap string_bytes c.serve_kept-done.ensures.to ∙ c.in-Ok.ensures.to)
          c.finish_kept.ensures.ends);
      still = λ apart. c.finish_kept.ensures.still ∙ c.open_kept.ensures.stream apart;
    }
