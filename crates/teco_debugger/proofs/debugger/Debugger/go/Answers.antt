use Rattle.std.proofs.Common.{◌∙◌, ◌++◌, ◌∷◌, [], ℕ, ap, refl}
use Rattle.teco_debugger.proofs.Answered.{moves_from}
use Rattle.teco_debugger.proofs.debugger.Debugger.go.Goals as goal

pub returns-clause-moves : goal.returns-clause-moves
returns-clause-moves c =
    moves_from c.arrive.result c.args.n c.args.self.now (record c.args.self.now { moves = c.push.new.self }) c.arrive.new.self _ refl refl refl refl refl
    (c.in_ok-push.ensures.items ∙ ap (λ (k : ℕ). c.args.self.now.moves.items ++ k ∷ []) c.steps.ensures) c.arrive.ensures.moves c.arrive.ensures.arrives
