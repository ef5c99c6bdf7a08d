use Rattle.std.proofs.Common.{◌∙◌, ap}
use Rattle.teco_session.specs.History.{without_undone}
use Rattle.teco_session.specs.Kept.{KeptSession, forgotten, history_of}
use Rattle.teco_session.specs.Entries.{strings_of, depth_of}
use Rattle.teco_session.specs.SessionView.{kept_session}
use Rattle.teco_session.proofs.Forgetting.{IsForgotten, session_forgotten}
use Rattle.teco_session.proofs.Sessions.{session_with}
use Rattle.teco_session.proofs.session.Session.forget.Goals as goal

forgotten_now : (c : goal.After-truncate)
    → IsForgotten (kept_session c.self.inside) (session_with c.self.inside.recorder.full (strings_of c.truncate.new.self) c.self.inside.cursor (depth_of c.truncate.new.self))
forgotten_now c = session_forgotten (kept_session c.self.inside) _ _ c.self.invariant c.truncate.ensures.strings c.truncate.ensures.depth

pub invariant_of-self : goal.invariant_of-self
invariant_of-self c = (forgotten_now c).holds

pub returns-clause-value : goal.returns-clause-value
returns-clause-value c = (forgotten_now c).value ∙ ap forgotten c.self.view_is

pub returns-clause-history : goal.returns-clause-history
returns-clause-history c = (forgotten_now c).history ∙ ap (λ (s : KeptSession). without_undone (history_of s)) c.self.view_is
