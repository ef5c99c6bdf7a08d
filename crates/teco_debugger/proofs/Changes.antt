-- The changes of a walk, and the last one that is for a part.
use Rattle.std.proofs.Common.{◌≡◌, ℕ, ◌+◌, ◌-◌, ◌<◌, List, [], length, Option, Some, None, refl, sym, ◌∙◌, ap, subst, get_or, arith}
use Rattle.std.specs.Prelude.{IfSome, IfNone}
use Rattle.std.proofs.lemmas.Option.{none-some}
use Rattle.teco_store.specs.State.{State, state_at}
use Rattle.teco_undo.specs.Entry.{body_back}
use Rattle.teco_undo.specs.Follows.{HasCome}
use Rattle.teco_undo.specs.RecordLaws.{BackThenForth}
use Rattle.teco_exec.specs.Runs.{trail_of}
use Rattle.teco_session.specs.History.{History, NotedString, note_at, present, state_after}
use Rattle.teco_session.specs.Kept.{KeptSession, IsSession, HasRun, history_of, string_at, turned_back}
use Rattle.teco_session.proofs.Headings.{has_text, has_steps}
use Rattle.teco_session.proofs.Rewinding.{has_run}
use Rattle.teco_session.proofs.Sessions.{at_self}
use Rattle.teco_session.proofs.Turning.{Turned, present_is, session_back}
use Rattle.teco_debugger.specs.Finding.{IsAsNowFrom, last_change}
use Rattle.teco_debugger.specs.Walk.{IsWalk, after_all, base, before_last, kept_walk, meant, walk_first, walked}
use Rattle.teco_debugger.specs.declared.part.Part.{Part}
use Rattle.teco_debugger.specs.declared.walk.Walk.TheInside.{Inside}
use Rattle.teco_debugger.proofs.Returning.{last_at}
use Rattle.teco_debugger.proofs.Staying.{stays, was_made}
use Rattle.teco_debugger.proofs.Walked.{base_is}

-- The string of the session has come through the steps that are done.
has_come : BackThenForth → (s : KeptSession) (first : State) (before : List NotedString) (text : List ℕ) (n : ℕ) → IsSession s → history_of s ≡ walked first before text n
    → HasCome s.editor (string_at s (s.cursor - 1)).changes n (trail_of (after_all first before) text 0 n)
has_come law s first before text n ok came =
    let i = s.cursor - 1 in
    let cursor : s.cursor ≡ length before + 1 = ap (λ h. h.cursor) came in
    let at : s.cursor ≡ i + 1 = omega (arith, cursor) in
    let lt : i < length s.strings = omega (arith, at, ok.within) in
    let x = string_at s i in
    let is : x ≡ get_or s.strings i x = at_self s i lt in
    let run : HasRun s.editor x = has_run s x i at ok is in
    let t : KeptSession = turned_back s x i in
    let turned : Turned s t i = session_back law s x i at ok is in
    let base : state_at s.editor.stored (body_back x.changes s.editor.body) ≡ after_all first before =
    sym (present_is t turned.holds.within) ∙ ap present turned.history
    ∙ ap (λ (h : History). state_after h.first h.notes i) came
    ∙ base_is first before text n i (omega (arith, cursor)) in
    let other : NotedString = record { text = []; steps = 0; state = (history_of s).first } in
    let last : note_at (history_of s) i ≡ record { text = text; steps = n; state = (meant (after_all first before) text n).state } =
    ap (λ (h : History). get_or h.notes i other) came ∙ last_at first before text n i other (omega (arith, cursor)) in
    let text_is : x.text ≡ text = ap (λ y. y.text) is ∙ sym (has_text s i other x ok.within lt) ∙ ap (λ y. y.text) last in
    let steps_is : x.steps ≡ n = ap (λ y. y.steps) is ∙ sym (has_steps s i other x ok.within lt) ∙ ap (λ y. y.steps) last in
    let so = subst (λ z. HasCome s.editor x.changes x.steps (trail_of z x.text 0 x.steps)) base run in
    let by_text = subst (λ t. HasCome s.editor x.changes x.steps (trail_of (after_all first before) t 0 x.steps)) text_is so in
    subst (λ k. HasCome s.editor x.changes k (trail_of (after_all first before) text 0 k)) steps_is by_text

walk_come : BackThenForth → (w : Inside) → IsWalk w → IsSession w.session
    → HasCome w.session.editor (kept_walk w).changes w.steps (trail_of (base (kept_walk w)) w.text.items 0 w.steps)
walk_come law w walk ok = has_come law w.session (walk_first w) (before_last (history_of w.session)) w.text.items w.steps ok walk.came

pub as_now : BackThenForth → (part : Part) (w : Inside) (r : Option ℕ) → IsWalk w → IsSession w.session → r ≡ last_change part (kept_walk w).changes
    → IfSome r (λ n. IsAsNowFrom (n + 1) part (kept_walk w))
as_now law part w None walk ok e = tt
as_now law part w (Some n) walk ok e = λ i from le.
    stays part w.session.editor (kept_walk w).changes w.steps i (n + 1) (trail_of (base (kept_walk w)) w.text.items 0 w.steps) (walk_come law w walk ok)
    (λ m is. let same : n ≡ m = cc (e, is) in omega (arith, same)) from le

pub as_ever : BackThenForth → (part : Part) (w : Inside) (r : Option ℕ) → IsWalk w → IsSession w.session → r ≡ last_change part (kept_walk w).changes
    → IfNone r (IsAsNowFrom 0 part (kept_walk w))
as_ever law part w (Some n) walk ok e = tt
as_ever law part w None walk ok e = λ i from le.
    stays part w.session.editor (kept_walk w).changes w.steps i 0 (trail_of (base (kept_walk w)) w.text.items 0 w.steps) (walk_come law w walk ok)
    (λ m is. absurd (none-some m (e ∙ is))) from le

pub made : BackThenForth → (part : Part) (w : Inside) (r : Option ℕ) → IsWalk w → IsSession w.session → r ≡ last_change part (kept_walk w).changes
    → IfSome r (λ n. n < w.steps)
made law part w None walk ok e = tt
made law part w (Some n) walk ok e =
    was_made part w.session.editor (kept_walk w).changes w.steps n (trail_of (base (kept_walk w)) w.text.items 0 w.steps) (walk_come law w walk ok) refl (sym e)
