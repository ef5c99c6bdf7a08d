use Rattle.std.proofs.Common.{◌≡◌, ◌∙◌, [], ap, sym, rules}
use Rattle.teco_debugger.specs.History.{change_steps}
use Rattle.teco_debugger.proofs.Histories.{steps-empty}
use Rattle.teco_debugger.proofs.history.steps_there.Goals as goal

pub returns-in-None : goal.returns-in-None
returns-in-None c =
    let none : c.args.walk.now.changes ≡ [] = search rules in
    c.new.ensures.items ∙ sym (ap (change_steps c.args.part.now) none ∙ steps-empty c.args.part.now)
