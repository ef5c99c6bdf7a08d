use Rattle.std.proofs.Common.{inl, inr, map, refl}
use Rattle.std.specs.String.{string_bytes}
use Rattle.teco_fs.specs.Seen.{disk_seen}
use Rattle.teco_driver.proofs.FoundFiles.{fits_still, silent_still}
use Rattle.teco_driver.proofs.running.run_over_found.Goals as goal

pub returns-in-Ok : goal.returns-in-Ok
returns-in-Ok g c = record {
  runs = record {
    disk = c.find_files.new.disk;
    kept = c.find_files.ensures.kept;
    runs = inr (c.find_files.new.commands, c.in-Ok.ensures.found, c.run_over.ensures.runs);
  };
  silent = λ off.
      c.run_over.ensures.silent (silent_still (disk_seen g.D.Disk g.D.Input.Source) (map string_bytes c.args.library.now) c.args.line
      c.find_files.new.commands c.args.host.now.disk c.find_files.new.disk c.in-Ok.ensures.found off);
}

pub run_over-requires : goal.run_over-requires
run_over-requires g c = record {
  depth = c.requires.depth;
  fits = fits_still (disk_seen g.D.Disk g.D.Input.Source) (map string_bytes c.args.library.now) c.args.line c.find_files.new.commands
      c.args.host.now.disk c.find_files.new.disk c.in-Ok.ensures.found c.requires.fits;
}

pub returns-clause-runs : goal.returns-clause-runs
returns-clause-runs g c = record {
  disk = c.find_files.new.disk;
  kept = c.find_files.ensures.kept;
  runs = inl (refl, c.no_memory.ensures.status, c.no_memory.ensures.told);
}
