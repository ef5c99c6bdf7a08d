use Rattle.std.proofs.Common.{◌≡◌, ◌+◌, ◌-◌, ◌≤◌, length, map}
use Rattle.std.specs.String.{string_bytes}
use Rattle.teco_cli.specs.Backups.{with_backups}
use Rattle.teco_cli.proofs.BackupWords.{from}
use Rattle.teco_cli.proofs.line.backups.with_backups.Given as goal

-- what is made, changed from this place on, is all
abbrev pub invariant-words : goal.invariant-words
invariant-words l = (l.at ≤ length l.made.items + 1) × (from l.at l.made.items ≡ with_backups (map string_bytes l.fn.words.items))

abbrev pub decreases-words : goal.decreases-words
decreases-words l = length l.made.items - l.at
