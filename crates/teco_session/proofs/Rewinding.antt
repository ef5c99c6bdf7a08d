-- Sessions: the last string that is done is cut.
use Rattle.std.proofs.Common.{◌≡◌, ℕ, ◌+◌, ◌-◌, ◌≤◌, List, [], ◌∷◌, ◌++◌, length, get_or, refl, sym, ◌∙◌, ap, subst, arith}
use Rattle.std.proofs.lemmas.List.{take-set}
use Rattle.teco_store.specs.State.{State, Full, state_at, state_of, with_body}
use Rattle.teco_store.specs.Turn.{Note as Change}
use Rattle.teco_undo.specs.Entry.{body_back, before, since}
use Rattle.teco_undo.specs.Follows.{HasCome, LeadsBack}
use Rattle.teco_undo.specs.RecordLaws.{BackThenForth, ComesSoExtended, ComesSoFarCut}
use Rattle.teco_exec.specs.Runs.{trail_of}
use Rattle.teco_exec.specs.StringMeaning.{string_meaning}
use Rattle.teco_session.specs.History.{History, NotedString, note_at, present, undone, appended, with_steps}
use Rattle.teco_session.specs.Strings.{KeptString, string_back, string_cut}
use Rattle.teco_session.specs.Kept.{KeptSession, noted_as, history_of, HasRun, LeadBack, IsSession, turned_back, cut_back}
use Rattle.teco_session.proofs.Headings.{has_text}
use Rattle.teco_session.proofs.Turning.{Turned, cursor_at, last_done, present_is, session_back}
use Rattle.teco_session.proofs.Running.{Appended, session_appended}

-- the last string that is done has run
pub has_run : (s : KeptSession) (x : KeptString) (i : ℕ) → s.cursor ≡ i + 1 → IsSession s → x ≡ get_or s.strings i x → HasRun s.editor x
has_run s x i n ok is =
    let le = ok.within in
    (subst (λ (zs : List KeptString). LeadBack s.editor.room s.editor.stored zs s.editor.body) (last_done s.strings x s.cursor i n (omega arith) is) ok.back).0

nothing_left : (xs : List Change) → length xs ≤ 0 → xs ≡ []
nothing_left [] h = refl
nothing_left (x ∷ xs) h = absurd (omega arith)

-- A string that is cut is the string that would have been noted, had it ended there.
record IsCutRun (f : Full) (x : KeptString) (n : ℕ) : Type 0 where
  pub leads : LeadsBack (with_body f (body_back x.changes f.body)) (with_body f (body_back (since n x.changes) f.body)) (before n x.changes)
  pub run : HasRun (with_body f (body_back (since n x.changes) f.body)) (string_cut n x)
  pub again : state_of (with_body f (body_back (since n x.changes) f.body)) ≡ (string_meaning (state_of (with_body f (body_back x.changes f.body))) x.text n).state

cut_run : ComesSoFarCut → (f : Full) (x : KeptString) (n : ℕ) → n ≤ x.steps → HasRun f x → IsCutRun f x n
cut_run law f x n le run =
    let s0 : State = state_at f.stored (body_back x.changes f.body) in
    let cut = law n f x.changes x.steps (trail_of s0 x.text 0 x.steps) le run in
    let new : Full = with_body f (body_back (since n x.changes) f.body) in
    let same : s0 ≡ state_at f.stored (body_back (before n x.changes) new.body) = ap (state_at f.stored) (sym cut.first) in
    record {
      leads = record { room = omega arith; sound = cut.come.turns.sound; fits = cut.come.turns.fits; body = cut.first; stored = refl };
      run = subst (λ (s : State). HasCome new (before n x.changes) n (trail_of s x.text 0 n)) same cut.come;
      again = ap (λ (cs : List Change). state_at f.stored (body_back cs new.body)) (sym (nothing_left (since n (before n x.changes)) cut.come.within.present)) ∙ cut.come.leads.states n (omega arith);
    }

-- a session after a rewind
pub record IsRewound (s t : KeptSession) (x : KeptString) (i n : ℕ) : Type 0 where
  pub holds : IsSession t
  pub history : history_of t ≡ appended (undone (history_of s)) (with_steps n (present (undone (history_of s))) (note_at (history_of s) i))

same_note : (text text' : List ℕ) (n : ℕ) (a b : State) → text ≡ text' → a ≡ b → (let x : NotedString = record { text = text; steps = n; state = a } in x) ≡ record { text = text'; steps = n; state = b }
same_note text text' n a b e h = rw (e, h) refl

pub session_cut : BackThenForth → ComesSoExtended → ComesSoFarCut → (s : KeptSession) (x : KeptString) (i n : ℕ) → s.cursor ≡ i + 1 → IsSession s → x ≡ get_or s.strings i x → n ≤ x.steps
    → IsRewound s (cut_back s x i n) x i n
session_cut back more law s x i n at ok is le =
    let t : KeptSession = cut_back s x i n in
    let u : KeptSession = turned_back s x i in
    let h : History = history_of s in
    let within = ok.within in
    let turned : Turned s u i = session_back back s x i at ok is in
    let cut : IsCutRun s.editor x n = cut_run law s.editor x n le (has_run s x i at ok is) in
    let ran : Appended u t (string_cut n x) =
    session_appended back more u t (string_cut n x) turned.holds cut.leads cut.run cut.again (ap (λ (ys : List KeptString). ys ++ string_cut n x ∷ []) (sym (take-set s.strings i (string_back x s.editor.body)))) at refl in
    let before : history_of u ≡ undone h = turned.history ∙ ap (cursor_at h) (let e : i ≡ s.cursor - 1 = omega arith in e) in
    let text : x.text ≡ (note_at h i).text = ap (λ (y : KeptString). y.text) is ∙ sym (has_text s i _ x within (omega arith)) in
    let state : state_of t.editor ≡ (string_meaning (present (undone h)) (note_at h i).text n).state =
    cut.again ∙ ap (λ (z : State). (string_meaning z x.text n).state) (sym (present_is u turned.holds.within) ∙ ap present before)
    ∙ ap (λ (bytes : List ℕ). (string_meaning (present (undone h)) bytes n).state) text in
    record {
      holds = ran.holds;
      history = ran.history ∙ ap (λ (z : History). appended z (noted_as (string_cut n x) (state_of t.editor))) before
          ∙ ap (appended (undone h)) (same_note _ _ n _ _ text state);
    }
