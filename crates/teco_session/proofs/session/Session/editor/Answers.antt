use Rattle.std.proofs.Common.{sym, ap, ◌∙◌}
use Rattle.teco_store.specs.State.{state_of}
use Rattle.teco_session.specs.History.{present}
use Rattle.teco_session.specs.Kept.{KeptSession, history_of}
use Rattle.teco_session.specs.SessionView.{kept_session}
use Rattle.teco_session.proofs.Turning.{present_is}
use Rattle.teco_session.proofs.session.Session.editor.Goals as goal

pub returns-clause-present : goal.returns-clause-present
returns-clause-present c = ap state_of c.editor.ensures ∙ sym (present_is (kept_session c.self.inside) c.self.invariant.within) ∙ ap (λ (s : KeptSession). present (history_of s)) c.self.view_is
