use Rattle.std.proofs.Common.{◌≡◌, ℕ, inl, arith, Option, List, [], ◌++◌, ◌∷◌, take, sym, ap, ◌∙◌, subst, refl, true, false}
use Rattle.std.proofs.lemmas.Bool.{false≢true}
use Rattle.teco_exec.specs.StringMeaning.{string_meaning}
use Rattle.teco_exec.specs.Runs.{Answers, Runs, RunsWithin, StillSays}
use Rattle.teco_exec.specs.declared.outcome.Outcome.{Outcome}
use Rattle.teco_undo.specs.Follows.{LeadsBack}
use Rattle.teco_store.specs.State.{State, Full, state_of}
use Rattle.teco_store.specs.Turn.{Note as Change}
use Rattle.teco_session.specs.History.{History, NotedString, present, noted}
use Rattle.teco_session.specs.Strings.{KeptString, newest}
use Rattle.teco_session.specs.Kept.{KeptSession, HasRun, IsSession, history_of, noted_as}
use Rattle.teco_session.specs.Entries.{kept_string, strings_of, depth_of}
use Rattle.teco_session.specs.SessionView.{kept_session}
use Rattle.teco_session.specs.declared.entry.Entry.{Entry}
use Rattle.teco_io.proofs.Shown.{Shows-nil}
use Rattle.teco_session.proofs.Records.{kept_run}
use Rattle.teco_session.proofs.Turning.{present_is}
use Rattle.teco_session.proofs.Sessions.{Ran, Went, session_noted, session_went, session_with}
use Rattle.teco_session.proofs.session.Session.run_with.Given as given
use Rattle.teco_session.proofs.session.Session.run_with.Goals as goal

-- What is not begun is not broken off.
whole : {answered : Answers} {limit : ℕ} {outcome : Outcome} (P : ℕ → Type 0) → outcome.steps ≡ 0 → P limit → RunsWithin answered limit outcome P
whole {limit = limit} P none so = record { under = limit; within = omega arith; stays = inl refl; heard = λ k before. absurd (omega (arith, none)); so = so }

-- the history is the same where only a place was found
same_history : (f : Full) (xs ys : List KeptString) (c : ℕ) (d e : Option ℕ) (s : KeptSession) → ys ≡ xs → e ≡ d → session_with f xs c d ≡ s → history_of (session_with f ys c e) ≡ history_of s
same_history f xs ys c d e s same depth view = ap (λ (zs : List KeptString). history_of (session_with f zs c e)) same ∙ ap (λ (k : Option ℕ). history_of (session_with f xs c k)) depth ∙ ap history_of view

-- and so is the session
same_session : (f : Full) (xs ys : List KeptString) (c : ℕ) (d e : Option ℕ) (s : KeptSession) → ys ≡ xs → e ≡ d → session_with f xs c d ≡ s → session_with f ys c e ≡ s
same_session f xs ys c d e s same depth view = ap (λ (zs : List KeptString). session_with f zs c e) same ∙ ap (λ (k : Option ℕ). session_with f xs c k) depth ∙ view

pub invariant_of-self-then-is_err : goal.invariant_of-self-then-is_err
invariant_of-self-then-is_err g c =
    let same = same_session c.self.inside.recorder.full _ _ c.self.inside.cursor _ _ (kept_session c.self.inside) c.reserve.ensures.strings c.reserve.ensures.depth refl in
    subst IsSession (sym same) c.self.invariant

pub returns-then-done-clause-unbegun : goal.returns-then-done-clause-unbegun
returns-then-done-clause-unbegun g c unbegun = refl

pub returns-in_default-clause-unbegun : goal.returns-in_default-clause-unbegun
returns-in_default-clause-unbegun g c unbegun = refl

pub returns-then-is_err-clause-unbegun : goal.returns-then-is_err-clause-unbegun
returns-then-is_err-clause-unbegun g c unbegun = refl

pub returns-then-keeps_none-clause-unbegun : goal.returns-then-keeps_none-clause-unbegun
returns-then-keeps_none-clause-unbegun g c begun = absurd (false≢true begun)

pub returns-clause-unbegun : goal.returns-clause-unbegun
returns-clause-unbegun g c begun = absurd (false≢true begun)

-- Of a string that is not begun the stop is not asked.
unasked : {answered : Answers} → StillSays answered answered
unasked = record { span = refl; said = λ k b said. said }

pub returns-then-done-clause-still : goal.returns-then-done-clause-still
returns-then-done-clause-still g c = unasked

pub returns-in_default-clause-still : goal.returns-in_default-clause-still
returns-in_default-clause-still g c = unasked

pub returns-then-is_err-clause-still : goal.returns-then-is_err-clause-still
returns-then-is_err-clause-still g c = unasked

-- What is not begun leaves the watch as it was, and is told of nothing.
pub returns-then-done-clause-told : goal.returns-then-done-clause-told
returns-then-done-clause-told g c knows = tt

pub returns-in_default-clause-told : goal.returns-in_default-clause-told
returns-in_default-clause-told g c knows = tt

pub returns-then-is_err-clause-told : goal.returns-then-is_err-clause-told
returns-then-is_err-clause-told g c knows = tt

pub returns-then-done-clause-visits : goal.returns-then-done-clause-visits
returns-then-done-clause-visits g c wanted from follows = tt

pub returns-in_default-clause-visits : goal.returns-in_default-clause-visits
returns-in_default-clause-visits g c wanted from follows = tt

pub returns-then-is_err-clause-visits : goal.returns-then-is_err-clause-visits
returns-then-is_err-clause-visits g c wanted from follows = tt

-- A string that is not begun changes nothing.
pub returns-then-done-clause-run : goal.returns-then-done-clause-run
returns-then-done-clause-run g c =
    let done : (present (history_of c.args.self.now)).is_done ≡ true = ap (λ (s : State). s.is_done) (sym c.editor.ensures.present) ∙ sym c.done.ensures ∙ c.if-done.true in
    whole _ refl (record {
      step = ([], (done, refl, refl), Shows-nil _);
      exit = λ going over. absurd (false≢true (sym going ∙ over));
      same = λ unbegun. refl;
    })

pub returns-in_default-clause-run : goal.returns-in_default-clause-run
returns-in_default-clause-run g c =
    let going : (present (history_of c.args.self.now)).is_done ≡ false = ap (λ (s : State). s.is_done) (sym c.editor.ensures.present) ∙ sym c.done.ensures ∙ c.if-done.false in
    whole _ refl (record {
      step = ([], (going, refl, refl), Shows-nil _);
      exit = λ going over. absurd (false≢true (sym going ∙ over));
      same = λ unbegun. refl;
    })

pub returns-then-is_err-clause-run : goal.returns-then-is_err-clause-run
returns-then-is_err-clause-run g c =
    let going : (present (history_of c.args.self.now)).is_done ≡ false = ap (λ (s : State). s.is_done) (sym c.editor.ensures.present) ∙ sym c.done.ensures ∙ c.if-done.false in
    let same = same_history c.self.inside.recorder.full _ _ c.self.inside.cursor _ _ c.args.self.now c.reserve.ensures.strings c.reserve.ensures.depth c.self.view_is in
    whole _ refl (record {
      step = ([], (going, refl, same), Shows-nil _);
      exit = λ going over. absurd (false≢true (sym going ∙ sym (ap (λ (h : History). (present h).is_done) same) ∙ over));
      same = λ unbegun. same_session c.self.inside.recorder.full _ _ c.self.inside.cursor _ _ c.args.self.now c.reserve.ensures.strings c.reserve.ensures.depth c.self.view_is;
    })

-- the entry that is added
abbrev entry_now : (g : given.Over) (c : goal.After-result-2-1 g) → Entry
entry_now g c = record { text = c.in-Ok.kept; steps = c.record_run-changes.result.1.outcome.steps; changes = c.of.result }

-- the session with it
abbrev session_now : (g : given.Over) (c : goal.After-result-2-1 g) → KeptSession
session_now g c = session_with c.record_run-changes.new.recorder.full (strings_of c.note.new.self) c.len-self-inside.result (depth_of c.note.new.self)

ran_now : (g : given.Over) (c : goal.After-result-2-1 g) → Ran (kept_session c.self.inside) (session_now g c) (kept_string (entry_now g c))
ran_now g c =
    let r = c.record_run-changes.ensures in
    let new = c.record_run-changes.new.recorder.full in
    let k = c.record_run-changes.result.1.outcome.steps in
    let kept = sym c.in-Ok.ensures.value in
    let changes = sym c.of.ensures in
    let depth : depth_of c.truncate.new.self ≡ depth_of c.self.inside.entries = c.truncate.ensures.depth ∙ c.reserve.ensures.depth in
    let front : strings_of c.truncate.new.self ≡ take c.self.inside.cursor (strings_of c.self.inside.entries) = c.truncate.ensures.strings ∙ ap (take c.self.inside.cursor) c.reserve.ensures.strings in
    session_noted c.record_laws.ensures.back c.record_laws.ensures.extended (kept_session c.self.inside) new (strings_of c.note.new.self) (kept_string (entry_now g c)) c.len-self-inside.result (depth_of c.note.new.self)
    c.self.invariant (subst (λ (cs : List Change). LeadsBack c.self.inside.recorder.full new cs) changes r.leads)
    (subst (λ (t : List ℕ). HasRun new (kept_run t k c.of.result)) kept (subst (λ (cs : List Change). HasRun new (kept_run c.args.text.now k cs)) changes r.ran))
    (r.again ∙ ap (λ (t : List ℕ). (string_meaning (state_of c.self.inside.recorder.full) t k).state) kept)
    (c.note.ensures.strings ∙ ap (λ (d : Option ℕ). newest d (strings_of c.truncate.new.self ++ kept_string (entry_now g c) ∷ [])) depth
    ∙ ap (λ (l : List KeptString). newest (depth_of c.self.inside.entries) (l ++ kept_string (entry_now g c) ∷ [])) front)
    c.len-self-inside.ensures.value (c.note.ensures.depth ∙ depth)

-- the editor's state is the present one, before the string and after it
state_now : (g : given.Over) (c : goal.After-result-2-1 g) → state_of c.self.inside.recorder.full ≡ present (history_of c.args.self.now)
state_now g c = sym (present_is (kept_session c.self.inside) c.self.invariant.within) ∙ ap (λ (s : KeptSession). present (history_of s)) c.self.view_is

pub invariant_of-self-2 : goal.invariant_of-self-2
invariant_of-self-2 g c = (ran_now g c).holds

pub returns-clause-run : goal.returns-clause-run
returns-clause-run g c =
    let under = c.record_run-changes.ensures.run in
    let ran = under.so in
    let old = history_of c.args.self.now in
    let new = state_of c.record_run-changes.new.recorder.full in
    let k = c.record_run-changes.result.1.outcome.steps in
    let here = state_now g c in
    let done = λ (s : State). s.is_done in
    let last = present_is (session_now g c) (ran_now g c).holds.within in
    let going : (present old).is_done ≡ false = ap (λ (s : State). s.is_done) (sym c.editor.ensures.present) ∙ sym c.done.ensures ∙ c.if-done.false in
    let run = subst (λ (s : State). Runs s c.args.text.now under.under c.record_run-changes.result.1.outcome ran.0 new) here ran.1 in
    let text = ap (λ (t : List ℕ). noted old (record { text = t; steps = k; state = new })) c.in-Ok.ensures.value in
    record {
      under = under.under;
      within = under.within;
      stays = under.stays;
      heard = under.heard;
      so = record {
        step = (ran.0, (new, going, run, (ran_now g c).history ∙ ap (λ (s : KeptSession). noted (history_of s) (noted_as (kept_string (entry_now g c)) new)) c.self.view_is ∙ text), ran.2);
        exit = λ going over. c.record_run-changes.ensures.exit (ap done (state_now g c) ∙ going) (sym (ap done last) ∙ over);
        same = λ begun. absurd (false≢true begun);
      };
    }

pub returns-clause-told : goal.returns-clause-told
returns-clause-told g c knows = rw (sym (state_now g c)) (c.record_run-changes.ensures.told knows)

pub returns-clause-visits : goal.returns-clause-visits
returns-clause-visits g c wanted from follows =
    rw (sym (state_now g c)) (c.record_run-changes.ensures.visits wanted from (rw (state_now g c) follows))

-- With a depth of 0 nothing is noted.
lent_now : (g : given.Over) (c : goal.After-result-1 g) → state_of c.editor_mut-editor.result.now ≡ present (history_of c.args.self.now)
lent_now g c =
    ap state_of c.editor_mut-editor.ensures.value ∙ sym (present_is (kept_session c.self.inside) c.self.invariant.within) ∙ ap (λ (s : KeptSession). present (history_of s)) c.self.view_is

went_now : (g : given.Over) (c : goal.After-result-1 g) → Went (kept_session c.self.inside) (session_with c.run_with-ran.new.desk (strings_of c.self.inside.entries) c.self.inside.cursor (depth_of c.self.inside.entries))
    (record { text = c.args.text.now; steps = c.run_with-ran.result.outcome.steps; state = state_of c.run_with-ran.new.desk })
went_now g c =
    let kept = c.if-keeps_none.true in
    session_went (kept_session c.self.inside) c.run_with-ran.new.desk c.args.text.now c.run_with-ran.result.outcome.steps (sym c.keeps_none.ensures.depth ∙ kept) (c.keeps_none.ensures.none kept)
    c.self.invariant c.editor_laws.ensures.sound
    (c.run_with-ran.ensures.run.so.again ∙ ap (λ (f : Full). (string_meaning (state_of f) c.args.text.now c.run_with-ran.result.outcome.steps).state) c.editor_mut-editor.ensures.value)

pub invariant_of-self : goal.invariant_of-self
invariant_of-self g c = (went_now g c).holds

pub returns-then-keeps_none-clause-run : goal.returns-then-keeps_none-clause-run
returns-then-keeps_none-clause-run g c =
    let under = c.run_with-ran.ensures.run in
    let ran = under.so.run in
    let old = history_of c.args.self.now in
    let new = state_of c.run_with-ran.new.desk in
    let here = lent_now g c in
    let done = λ (s : State). s.is_done in
    let last = present_is (session_with c.run_with-ran.new.desk (strings_of c.self.inside.entries) c.self.inside.cursor (depth_of c.self.inside.entries)) (went_now g c).holds.within in
    let going : (present old).is_done ≡ false = ap (λ (s : State). s.is_done) (sym c.editor.ensures.present) ∙ sym c.done.ensures ∙ c.if-done.false in
    let run = subst (λ (s : State). Runs s c.args.text.now under.under c.run_with-ran.result.outcome ran.0 new) here ran.1 in
    let note : NotedString = record { text = c.args.text.now; steps = c.run_with-ran.result.outcome.steps; state = new } in
    record {
      under = under.under;
      within = under.within;
      stays = under.stays;
      heard = under.heard;
      so = record {
        step = (ran.0, (new, going, run, (went_now g c).history ∙ ap (λ (s : KeptSession). noted (history_of s) note) c.self.view_is), ran.2);
        exit = λ going over. under.so.exit (ap done (lent_now g c) ∙ going) (sym (ap done last) ∙ over);
        same = λ begun. absurd (false≢true begun);
      };
    }

pub returns-then-keeps_none-clause-told : goal.returns-then-keeps_none-clause-told
returns-then-keeps_none-clause-told g c knows = rw (sym (lent_now g c)) (c.run_with-ran.ensures.told knows)

pub returns-then-keeps_none-clause-visits : goal.returns-then-keeps_none-clause-visits
returns-then-keeps_none-clause-visits g c wanted from follows =
    rw (sym (lent_now g c)) (c.run_with-ran.ensures.visits wanted from (rw (lent_now g c) follows))
