use Rattle.std.proofs.Common.{◌-◌, take, min, set, ◌∙◌, ap, subst, sym, arith}
use Rattle.teco_store.specs.State.{Full, with_body}
use Rattle.teco_undo.specs.Entry.{FitsBack, body_back, since}
use Rattle.teco_session.specs.History.{rewound}
use Rattle.teco_session.specs.Strings.{KeptString, string_cut}
use Rattle.teco_session.specs.Kept.{KeptSession, HasRun, history_of, cut_to, string_at}
use Rattle.teco_session.specs.Entries.{strings_of, depth_of}
use Rattle.teco_session.specs.SessionView.{kept_session}
use Rattle.teco_session.proofs.Rewinding.{has_run}
use Rattle.teco_session.proofs.Sessions.{IsRewoundTo, at_self, session_rewound, session_with}
use Rattle.teco_session.proofs.session.Session.rewind.Goals as goal

pub get-requires : goal.get-requires
get-requires c = let le = c.self.invariant.within in omega arith

pub turn-requires-clause-within : goal.turn-requires-clause-within
turn-requires-clause-within c = let le = c.self.invariant.within in omega arith

ran_now : (c : goal.After-editor_mut) → HasRun c.self.inside.recorder.full (string_at (kept_session c.self.inside) (c.self.inside.cursor - 1))
ran_now c =
    let s = kept_session c.self.inside in
    let le = c.self.invariant.within in
    has_run s (string_at s (s.cursor - 1)) (s.cursor - 1) (omega arith) c.self.invariant (at_self s (s.cursor - 1) (omega arith))

pub turn-requires-clause-fits : goal.turn-requires-clause-fits
turn-requires-clause-fits c =
    let s = kept_session c.self.inside in
    (subst (λ (f : Full). FitsBack f.room (string_at s (s.cursor - 1)).changes f.body) (sym c.editor_mut.ensures.value) (ran_now c).turns.fits, (_, (ran_now c).turns.marked))

rewound_now : (c : goal.After-truncate)
    → IsRewoundTo c.args.n (kept_session c.self.inside) (session_with c.turn.new.editor (strings_of c.truncate.new.self) c.self.inside.cursor (depth_of c.truncate.new.self))
rewound_now c =
    let s = kept_session c.self.inside in
    let few = c.min-n.ensures ∙ ap (min c.args.n) (ap (λ (x : KeptString). x.steps) c.get.ensures) in
    session_rewound c.record_laws.ensures.back c.record_laws.ensures.extended c.record_laws.ensures.cut c.args.n s c.turn.new.editor _ _ (omega arith) c.self.invariant (
      c.turn.ensures.editor ∙ ap (λ (f : Full). with_body f (body_back (since c.min-n.result (string_at s (s.cursor - 1)).changes) f.body)) c.editor_mut.ensures.value ∙ ap (λ k. with_body s.editor (body_back (since k (string_at s (s.cursor - 1)).changes) s.editor.body)) few,
      c.truncate.ensures.strings ∙ ap (take s.cursor) (c.turn.ensures.strings ∙ ap (λ k. set s.strings (s.cursor - 1) (string_cut k (string_at s (s.cursor - 1)))) few),
    )
    (c.truncate.ensures.depth ∙ c.turn.ensures.depth)

pub invariant_of-self : goal.invariant_of-self
invariant_of-self c = (rewound_now c).holds

pub returns-clause-ok : goal.returns-clause-ok
returns-clause-ok c = (rewound_now c).value ∙ ap (cut_to c.args.n) c.self.view_is

pub returns-clause-history : goal.returns-clause-history
returns-clause-history c = (rewound_now c).history ∙ ap (λ (s : KeptSession). rewound c.args.n (history_of s)) c.self.view_is
