use Rattle.std.proofs.Common.{◌≡◌}
use Rattle.teco_journal.specs.declared.reader.Ending.TheVariants.{Whole}
use Rattle.teco_journal.specs.Progress.{progress}
use Rattle.teco_journal.proofs.Progress.{Come}
use Rattle.teco_journal.proofs.reader.read_journal.Given as goal

abbrev pub invariant-loop-at : goal.invariant-loop-at
invariant-loop-at l = record {
  come : Come l.fn.last l.bytes (progress l.journal) l.at;
  ending : l.journal.ending ≡ Whole;
}
