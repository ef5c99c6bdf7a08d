use Rattle.std.proofs.Common.{◌∙◌, ap, inl, inr}
use Rattle.std.specs.String.{string_bytes}
use Rattle.teco_driver.specs.Given.{host_view}
use Rattle.teco_driver.specs.Seen.{commands_seen}
use Rattle.teco_driver.proofs.Sessions.{opens_apart, recorded_bare, runs_session}
use Rattle.teco_driver.proofs.keeping.keep_by_stream.Goals as goal
use Rattle.teco_fs.specs.Seen.{disk_seen}
use Rattle.teco_serve.specs.Exchange.{HasRung}

pub returns-in-Err : goal.returns-in-Err
returns-in-Err g c = inl (c.in-Err.ensures.shut, c.open_kept.ensures.stream c.requires.apart)

pub returns : goal.returns
returns g c =
    let view = host_view (disk_seen g.D.Disk g.D.Input.Source) g.S.Source g.T.Terminal.screen (HasRung g.A.Stop.answered) in
    let line = c.args.line.now in
    let name = c.args.name.now in
    let old = c.args.host.now in
    let given = commands_seen g.S.Source old.commands c.finish_kept.new.host.commands view.asked line.undo in
    inr (runs_session view g.E.Terminal.screen line name given old c.finish_kept.new.host c.args.errors.now c.open_kept.new.errors
    c.open_kept.new.host.disk c.serve_kept-done.new.disk c.serve_kept-done.new.term c.in-Ok.kept.length _ c.serve_kept-done.ensures.recorded.0
    _ _ _ _ _
    (opens_apart view g.E.Terminal.screen line name _ _ _ _ _ _ _ _ c.requires.apart c.in-Ok.ensures.opens)
    (rw (c.open_kept.ensures.still, c.open_kept.ensures.stream c.requires.apart, ← c.finish_kept.ensures.still) at c.serve_kept-done.ensures.serves)
    (recorded_bare _ _ _ _ _ _ _ _ c.serve_kept-done.ensures.recorded.1)
    (ap string_bytes c.serve_kept-done.ensures.to ∙ c.in-Ok.ensures.to)
    c.finish_kept.ensures.ends)
