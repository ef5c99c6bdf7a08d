use Rattle.std.proofs.Common.{◌≡◌, ◌++◌, take}
use Rattle.std.specs.String.{string_bytes}
use Rattle.teco_debugger.specs.Help.{help_shown}
use Rattle.teco_debugger.proofs.help.show_help.Given as goal

abbrev pub invariant-loop-row : goal.invariant-loop-row
invariant-loop-row l = string_bytes l.out ≡ string_bytes l.fn.out ++ help_shown (take l.row-index l.rows)
