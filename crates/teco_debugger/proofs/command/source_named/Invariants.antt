use Rattle.std.proofs.Common.{◌≡◌, drop}
use Rattle.teco_debugger.specs.Commands.{source_named}
use Rattle.teco_debugger.proofs.command.source_named.Given as goal

-- no source so far has the name
abbrev pub invariant-loop-number : goal.invariant-loop-number
invariant-loop-number l = source_named (drop l.number l.sources) l.name l.number ≡ source_named l.sources l.name 0
