use Rattle.std.proofs.Common.{◌≡◌, ◌≤◌, ◌+◌, length, refl, sym, ◌∙◌, ap, set, subst, arith}
use Rattle.teco_store.specs.State.{Full, with_body}
use Rattle.teco_undo.specs.Entry.{FitsForth, body_forth}
use Rattle.teco_session.specs.History.{redone}
use Rattle.teco_session.specs.Strings.{string_forth}
use Rattle.teco_session.specs.Kept.{KeptSession, history_of, applied, string_at}
use Rattle.teco_session.specs.Entries.{depth_of, strings_of}
use Rattle.teco_session.specs.SessionView.{kept_session}
use Rattle.teco_session.specs.declared.session.Session.TheInside.{Inside}
use Rattle.teco_session.proofs.Turning.{length-notes, redo_fits}
use Rattle.teco_session.proofs.Sessions.{IsApplied, at_self, session_applied, session_with}
use Rattle.teco_session.proofs.session.Session.redo.Goals as goal

-- where the cursor is, and how many strings there are
record Counts (s : KeptSession) (inside : Inside) : Type 0 where
  pub cursor : s.cursor ≡ inside.cursor
  pub notes : length (history_of s).notes ≡ length (kept_session inside).strings
  pub within : inside.cursor ≤ length (kept_session inside).strings

counts : (s : KeptSession) (inside : Inside) → kept_session inside ≡ s → inside.cursor ≤ length (kept_session inside).strings → Counts s inside
counts s inside e le = record {
  cursor = ap (λ (t : KeptSession). t.cursor) (sym e);
  notes = ap (λ (t : KeptSession). length (history_of t).notes) (sym e) ∙ length-notes (kept_session inside) le;
  within = le;
}

pub returns-then-i-len-clause-offers : goal.returns-then-i-len-clause-offers
returns-then-i-len-clause-offers c =
    let n = counts c.args.self.now c.self.inside c.self.view_is c.self.invariant.within in
    (λ e. cc, λ h. absurd (omega (arith, n.cursor, n.notes)))

pub returns-then-i-len-clause-err : goal.returns-then-i-len-clause-err
returns-then-i-len-clause-err c =
    let n = counts c.args.self.now c.self.inside c.self.view_is c.self.invariant.within in
    (refl, omega (arith, n.cursor, n.notes))

pub returns-clause-offers : goal.returns-clause-offers
returns-clause-offers c =
    let n = counts c.args.self.now c.self.inside c.self.view_is c.self.invariant.within in
    (λ e. omega (arith, n.cursor, n.notes, n.within), λ h. refl)

pub turn-requires-clause-within : goal.turn-requires-clause-within
turn-requires-clause-within c = let le = c.self.invariant.within in omega arith

pub turn-requires-clause-fits : goal.turn-requires-clause-fits
turn-requires-clause-fits c =
    let s = kept_session c.self.inside in
    let le = c.self.invariant.within in
    subst (λ (f : Full). FitsForth f.room (length f.stored) (string_at s s.cursor).changes f.body) (sym c.editor_mut.ensures.value)
    (redo_fits s (string_at s s.cursor) (omega arith) c.self.invariant (at_self s s.cursor (omega arith)))

applied_now : (c : goal.After-self-2-1) → IsApplied (kept_session c.self.inside) (session_with c.turn.new.editor (strings_of c.turn.new.self) (c.self.inside.cursor + 1) (depth_of c.turn.new.self))
applied_now c =
    let s = kept_session c.self.inside in
    let x = string_at s s.cursor in
    let le = c.self.invariant.within in
    session_applied c.record_laws.ensures.forth s _ _ _ (omega arith) c.self.invariant (
      c.turn.ensures.editor ∙ ap (λ (f : Full). with_body f (body_forth x.changes f.body)) c.editor_mut.ensures.value,
      c.turn.ensures.strings ∙ ap (λ (f : Full). set s.strings s.cursor (string_forth x f.body)) c.editor_mut.ensures.value,
    )
    c.turn.ensures.depth

pub invariant_of-self : goal.invariant_of-self
invariant_of-self c = (applied_now c).holds

pub returns-clause-ok : goal.returns-clause-ok
returns-clause-ok c = (applied_now c).value ∙ ap applied c.self.view_is

pub returns-clause-history : goal.returns-clause-history
returns-clause-history c = (applied_now c).history ∙ ap (λ (s : KeptSession). redone (history_of s)) c.self.view_is
