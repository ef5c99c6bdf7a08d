use Rattle.std.proofs.Common.{ℕ, inr, map, subst, sym}
use Rattle.std.specs.String.{string_bytes}
use Rattle.teco_serve.specs.Exchange.{HasRung}
use Rattle.teco_driver.specs.Runs.{RunsFound}
use Rattle.teco_fs.specs.Seen.{disk_seen}
use Rattle.teco_driver.specs.Given.{host_view}
use Rattle.teco_driver.proofs.Runs.{same_notes}
use Rattle.teco_driver.proofs.running.program.Goals as goal

pub returns-in-Ok : goal.returns-in-Ok
returns-in-Ok g c = record {
  run = let view = host_view (disk_seen g.D.Disk g.D.Input.Source) g.S.Source g.T.Terminal.screen (HasRung g.A.Stop.answered) in
      let old = c.args.host.now in
      let new = c.run_over_found-status.new.host in
      inr (record {
        line = c.in-Ok.line;
        line_is = c.in-Ok.ensures.line;
        runs = subst (λ (status : ℕ). RunsFound view g.E.Terminal.screen (map string_bytes c.args.library.now) c.in-Ok.line old new c.args.errors.now c.run_over_found-status.new.errors status)
            (sym c.from.ensures) c.run_over_found-status.ensures.runs;
      });
  silent = λ line is off.
      c.run_over_found-status.ensures.silent (same_notes c.args.words c.in-Ok.line line c.in-Ok.ensures.line is off);
}

pub run_over_found-status-requires : goal.run_over_found-status-requires
run_over_found-status-requires g c = record { depth = c.in-Ok.ensures.fits.depth; fits = c.in-Ok.ensures.fits.fits }
