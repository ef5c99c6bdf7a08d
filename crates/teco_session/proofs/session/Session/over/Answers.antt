use Rattle.std.proofs.Common.{rules}
use Rattle.teco_session.proofs.Sessions.{session_from}
use Rattle.teco_session.proofs.session.Session.over.Goals as goal

pub invariant_of-result : goal.invariant_of-result
invariant_of-result c = session_from c.args.depth c.args.editor c.new.result.full _ _ (search rules) c.requires.beginning c.new.ensures.full c.in_ok-entries.ensures.none.0 c.in_ok-entries.ensures.none.1
