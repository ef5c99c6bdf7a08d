use Rattle.std.proofs.Common.{◌≡◌, take}
use Rattle.teco_session.specs.Kept.{history_of}
use Rattle.teco_debugger.specs.Walk.{led}
use Rattle.teco_debugger.proofs.walk.Walk.session_before.Given as goal

-- so many of the strings before are run again
abbrev pub invariant-loop-i : goal.invariant-loop-i
invariant-loop-i l = history_of l.session ≡ led l.self.first (take l.i l.self.before)
