use Rattle.std.proofs.Common.{sym}
use Rattle.teco_driver.proofs.keeping.serve_kept.Goals as goal

pub returns-clause-recorded : goal.returns-clause-recorded
returns-clause-recorded g c =
    rw (c.disk-1.given.1 (sym c.serve_recorded-served.ensures.same_disk)) (c.serve_recorded-served.new.recorder.file.now, c.serve_recorded-served.ensures.recorded)
