use Rattle.std.proofs.Common.{◌≡◌, ◌≤◌, ◌++◌, length, drop}
use Rattle.tecol_driver.specs.Respelling.{source_places, respelled, respelled_from}
use Rattle.tecol_driver.proofs.respelling.respelled.Given as goal

-- the source so far, with the changes made
abbrev pub invariant-loop-change : goal.invariant-loop-change
invariant-loop-change l = record {
  within : l.done ≤ length l.source.bytes.now;
  so_far : respelled l.source.bytes.now (source_places l.source) l.changes
      ≡ l.out.items ++ respelled_from l.source.bytes.now (source_places l.source) l.done (drop l.change-index l.changes);
}
