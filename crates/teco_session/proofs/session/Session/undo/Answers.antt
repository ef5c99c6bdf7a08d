use Rattle.std.proofs.Common.{◌-◌, ◌∙◌, ap, set, subst, sym, arith}
use Rattle.teco_store.specs.State.{Full, with_body}
use Rattle.teco_undo.specs.Entry.{FitsBack, body_back}
use Rattle.teco_session.specs.History.{undone}
use Rattle.teco_session.specs.Strings.{string_back}
use Rattle.teco_session.specs.Kept.{KeptSession, history_of, reverted, string_at}
use Rattle.teco_session.specs.Entries.{depth_of, strings_of}
use Rattle.teco_session.specs.SessionView.{kept_session}
use Rattle.teco_session.proofs.Turning.{undo_fits}
use Rattle.teco_session.proofs.Sessions.{IsReverted, at_self, session_reverted, session_with}
use Rattle.teco_session.proofs.session.Session.undo.Goals as goal

pub turn-requires-clause-within : goal.turn-requires-clause-within
turn-requires-clause-within c = let le = c.self.invariant.within in omega arith

pub turn-requires-clause-fits : goal.turn-requires-clause-fits
turn-requires-clause-fits c =
    let s = kept_session c.self.inside in
    let le = c.self.invariant.within in
    subst (λ (f : Full). FitsBack f.room (string_at s (s.cursor - 1)).changes f.body) (sym c.editor_mut.ensures.value)
    (undo_fits s (string_at s (s.cursor - 1)) (s.cursor - 1) (omega arith) c.self.invariant (at_self s (s.cursor - 1) (omega arith)))

reverted_now : (c : goal.After-self-2-1) → IsReverted (kept_session c.self.inside) (session_with c.turn.new.editor (strings_of c.turn.new.self) (c.self.inside.cursor - 1) (depth_of c.turn.new.self))
reverted_now c =
    let s = kept_session c.self.inside in
    let x = string_at s (s.cursor - 1) in
    session_reverted c.record_laws.ensures.back s _ _ _ (omega arith) c.self.invariant (
      c.turn.ensures.editor ∙ ap (λ (f : Full). with_body f (body_back x.changes f.body)) c.editor_mut.ensures.value,
      c.turn.ensures.strings ∙ ap (λ (f : Full). set s.strings (s.cursor - 1) (string_back x f.body)) c.editor_mut.ensures.value,
    )
    c.turn.ensures.depth

pub invariant_of-self : goal.invariant_of-self
invariant_of-self c = (reverted_now c).holds

pub returns-clause-ok : goal.returns-clause-ok
returns-clause-ok c = (reverted_now c).value ∙ ap reverted c.self.view_is

pub returns-clause-history : goal.returns-clause-history
returns-clause-history c = (reverted_now c).history ∙ ap (λ (s : KeptSession). undone (history_of s)) c.self.view_is
