use Rattle.std.proofs.Common.{◌≡◌, drop, map}
use Rattle.teco_debugger.specs.Commands.{taken, verb_by}
use Rattle.teco_debugger.proofs.verb.taken_by.Given as goal

-- no row so far is spelled so
abbrev pub invariant-loop-row : goal.invariant-loop-row
invariant-loop-row l = taken (map verb_by (drop l.row-index l.rows)) l.bytes ≡ taken (map verb_by l.rows) l.bytes
