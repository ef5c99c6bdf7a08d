use Rattle.std.proofs.Common.{◌≡◌, drop}
use Rattle.teco_scan.specs.Scan.{after_fillers}
use Rattle.teco_exec.proofs.cursor.is_leave_first.Given as goal

abbrev pub invariant-loop-byte : goal.invariant-loop-byte
invariant-loop-byte l = after_fillers (drop l.byte-index l.text) ≡ after_fillers l.text
