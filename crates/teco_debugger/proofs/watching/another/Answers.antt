use Rattle.teco_debugger.proofs.Watched.{end_is, same_on}
use Rattle.teco_debugger.proofs.watching.another.Goals as goal

pub returns-clause-string : goal.returns-clause-string
returns-clause-string c = same_on _ _ _ c.in_ok-other.ensures.string c.in_ok-go.ensures.string

pub returns-clause-steps : goal.returns-clause-steps
returns-clause-steps c =
    end_is c.args.walk.now _ c.args.n _ c.in_ok-other.ensures.string c.in_ok-other.ensures.steps c.in_ok-go.ensures.back c.in_ok-go.ensures.on (c.meaning_laws.ensures.within_limit _ _ _)
