use Rattle.std.proofs.Common.{◌≡◌, ◌+◌, ◌-◌, ◌≤◌, length, map}
use Rattle.std.specs.String.{string_bytes}
use Rattle.teco_cli.specs.Joining.{joined}
use Rattle.teco_cli.proofs.Joinings.{from}
use Rattle.teco_cli.proofs.line.joining.joined.Given as goal

-- what is made, joined from this place on, is all
abbrev pub invariant-words : goal.invariant-words
invariant-words l = (l.at ≤ length l.made.items + 1) × (from l.at l.made.items ≡ joined (map string_bytes l.fn.words.items))

abbrev pub decreases-words : goal.decreases-words
decreases-words l = length l.made.items - l.at
