use Rattle.std.proofs.Common.{◌≡◌, drop}
use Rattle.teco_debugger.specs.Moving.{is_any_there}
use Rattle.teco_debugger.proofs.stops.is_any_there.Given as goal

-- none so far is there
abbrev pub invariant-loop-it : goal.invariant-loop-it
invariant-loop-it l = is_any_there (drop l.it-index l.stops) l.number l.here ≡ is_any_there l.stops l.number l.here
