use Rattle.std.proofs.Common.{◌≡◌, drop}
use Rattle.teco_debugger.specs.Moving.{is_one}
use Rattle.teco_debugger.proofs.stops.is_one.Given as goal

-- none so far is there
abbrev pub invariant-loop-it : goal.invariant-loop-it
invariant-loop-it l = is_one l.walk l.n (drop l.it-index l.stops) l.number l.here ≡ is_one l.walk l.n l.stops l.number l.here
