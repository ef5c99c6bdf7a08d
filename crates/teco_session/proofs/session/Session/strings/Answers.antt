use Rattle.std.proofs.Common.{length, sym, ap, ◌∙◌, subst}
use Rattle.teco_session.specs.Strings.{IsWithinDepth}
use Rattle.teco_session.specs.Kept.{KeptSession, history_of}
use Rattle.teco_session.specs.SessionView.{kept_session}
use Rattle.teco_session.proofs.Turning.{length-notes}
use Rattle.teco_session.proofs.session.Session.strings.Goals as goal

pub returns-clause-history : goal.returns-clause-history
returns-clause-history c =
    c.len.ensures.value ∙ sym (length-notes (kept_session c.self.inside) c.self.invariant.within) ∙ ap (λ (s : KeptSession). length (history_of s).notes) c.self.view_is

pub returns-clause-depth : goal.returns-clause-depth
returns-clause-depth c = subst (λ (s : KeptSession). IsWithinDepth s.depth c.len.result) c.self.view_is c.len.ensures.depth
