use Rattle.std.proofs.Common.{◌+◌, ◌∷◌, [], subst}
use Rattle.std.proofs.lemmas.Result.{on_ok_weaker}
use Rattle.teco_debugger.specs.Moving.{IsFound, goal as to_stop}
use Rattle.teco_debugger.specs.declared.stops.Break.{Break}
use Rattle.teco_debugger.proofs.debugger.Debugger.go_on_to.Goals as goal

pub returns-clause-continues : goal.returns-clause-continues
returns-clause-continues c =
    let self = c.args.self.now in
    let found = c.in_ok-found.found in
    let is = subst (λ (s : Break). IsFound self.sources.items self.walk (to_stop (s ∷ []) 0) (self.walk.steps + 1) self.limit found) c.line_break.ensures c.in_ok-found.ensures in
    on_ok_weaker c.go_by.result (λ goes. (found, is, goes)) c.go_by.ensures.goes
