use Rattle.std.proofs.Common.{◌≡◌, drop}
use Rattle.teco_source.specs.Source.{commands_of, commands_from}
use Rattle.teco_source.specs.Seen.{state_of}
use Rattle.teco_source.proofs.reader.commands.Given as goal

abbrev pub invariant-loop-at : goal.invariant-loop-at
invariant-loop-at l = commands_of l.source ≡ commands_from (state_of l.reader) l.at (drop l.at l.source)
