use Rattle.std.proofs.Common.{◌≡◌, ◌∙◌, [], ap, sym, rules, arith}
use Rattle.teco_debugger.specs.Finding.{last_change}
use Rattle.teco_debugger.proofs.Findings.{last_change-none}
use Rattle.teco_debugger.proofs.walk.Walk.last_listed.Goals as goal

pub returns-in-None : goal.returns-in-None
returns-in-None c =
    let none : c.args.self.now.changes ≡ [] = search rules in
    sym (ap (last_change c.args.part.now) none ∙ last_change-none c.args.part.now [] 0 (omega arith))
