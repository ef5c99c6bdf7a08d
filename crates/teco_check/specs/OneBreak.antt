-- One break of a text, as a run tells it and as a check does.
use Rattle.std.specs.Prelude.{◌≡◌, ℕ}
use Rattle.teco_scan.specs.declared.breaks.ListFault.{ListFault}
use Rattle.teco_scan.specs.Breaks.{broken_so}
use Rattle.teco_scan.specs.Walk.{Break, OpenList}
use Rattle.teco_check.specs.Walk.{told_break}
use Rattle.teco_check.specs.declared.faults.Fault.{Fault}

-- Both are of the same break, at one place, in one list.
pub record IsOneBreak (run : ListFault) (told : Fault) : Type 0 where
  pub at : ℕ
  pub broken : Break
  pub list : OpenList
  pub by_run : run ≡ broken_so at broken list
  pub by_check : told ≡ told_break at broken list
