-- Sessions: one string is turned back, or forth.
use Rattle.std.proofs.Common.{◌≡◌, ℕ, suc, ◌+◌, ◌<◌, ◌≤◌, Option, List, [], ◌∷◌, ◌++◌, length, take, drop, reverse, get_or, refl, sym, ◌∙◌, ap, subst, arith, length-drop}
use Rattle.std.proofs.lemmas.List.{reverse-append, length-reverse, drop_more, take_more, take-set, drop-set, take_more_set, drop-set-lt, length-set, length-take-le}
use Rattle.teco_store.specs.State.{State, Body, IsSound, state_at, state_of}
use Rattle.teco_store.specs.Turn.{Note as Change}
use Rattle.teco_undo.specs.Entry.{body_back, notes_back, body_forth, FitsBack, FitsForth}
use Rattle.teco_undo.specs.RecordLaws.{BackThenForth, ForthThenBack}
use Rattle.teco_session.specs.History.{History, NotedString, state_after, present, IsHistory}
use Rattle.teco_session.specs.Strings.{KeptString, string_back, string_forth}
use Rattle.teco_session.specs.Kept.{KeptSession, done_strings, undone_strings, noted_as, first_body, done_notes, undone_notes, history_of, HasRun, editor_at, LeadBack, LeadForth, IsSession, turned_back, turned_forth}

pub length-done_notes : (stored : List ℕ) (xs : List KeptString) (b : Body) (ns : List NotedString) → length (done_notes stored xs b ns) ≡ length xs + length ns
length-done_notes stored [] b ns = omega arith
length-done_notes stored (x ∷ xs) b ns = let e = length-done_notes stored xs (body_back x.changes b) (noted_as x (state_at stored b) ∷ ns) in omega arith

length-undone_notes : (stored : List ℕ) (xs : List KeptString) (b : Body) → length (undone_notes stored xs b) ≡ length xs
length-undone_notes stored [] b = refl
length-undone_notes stored (x ∷ xs) b = ap (λ n. suc n) (length-undone_notes stored xs (body_forth x.changes b))

-- the history has each string
pub length-notes : (s : KeptSession) → s.cursor ≤ length s.strings → length (history_of s).notes ≡ length s.strings
length-notes s le =
    length-done_notes s.editor.stored (done_strings s) s.editor.body (undone_notes s.editor.stored (undone_strings s) s.editor.body)
    ∙ (let n = length-undone_notes s.editor.stored (undone_strings s) s.editor.body in
    omega (arith, length-reverse (take s.cursor s.strings), length-take-le s.cursor s.strings le, length-drop s.cursor s.strings))

-- the present state is the editor's
pub present-done : (stored : List ℕ) (xs : List KeptString) (b : Body) (ns : List NotedString) (first : State) (j : ℕ) → first ≡ state_at stored (first_body xs b)
    → state_after first (done_notes stored xs b ns) (length xs + j) ≡ state_after (state_at stored b) ns j
present-done stored [] b ns first j e = let n : 0 + j ≡ j = omega arith in ap (state_after first ns) n ∙ ap (λ s. state_after s ns j) e
present-done stored (x ∷ xs) b ns first j e =
    let n : suc (length xs) + j ≡ length xs + suc j = omega arith in
    let more : List NotedString = noted_as x (state_at stored b) ∷ ns in
    ap (state_after first (done_notes stored xs (body_back x.changes b) more)) n ∙ present-done stored xs (body_back x.changes b) more first (suc j) e

pub present_is : (s : KeptSession) → s.cursor ≤ length s.strings → present (history_of s) ≡ state_of s.editor
present_is s le =
    let n : s.cursor ≡ length (done_strings s) + 0 = omega (arith, length-reverse (take s.cursor s.strings), length-take-le s.cursor s.strings le) in
    ap (state_after (history_of s).first (history_of s).notes) n
    ∙ present-done s.editor.stored (done_strings s) s.editor.body (undone_notes s.editor.stored (undone_strings s) s.editor.body) (history_of s).first 0 refl

-- the last string that is done, turned back
record StepsBack (room : ℕ) (stored : List ℕ) (x : KeptString) (ys : List KeptString) (b : Body) : Type 0 where
  pub forth : LeadForth room stored (string_back x b ∷ ys) (body_back x.changes b)
  pub notes : undone_notes stored (string_back x b ∷ ys) (body_back x.changes b) ≡ noted_as x (state_at stored b) ∷ undone_notes stored ys b
  pub sound : IsSound room (length stored) (body_back x.changes b)

steps_back : BackThenForth → (room : ℕ) (stored : List ℕ) (x : KeptString) (ys : List KeptString) (b : Body) → IsSound room (length stored) b
    → HasRun (editor_at room stored b) x → LeadForth room stored ys b → StepsBack room stored x ys b
steps_back law room stored x ys b sound run forth =
    let again = law room (length stored) x.changes b run.turns.fits sound in
    let same : string_forth (string_back x b) (body_back x.changes b) ≡ x = ap (λ (cs : List Change). let y : KeptString = record x { changes = cs } in y) again.notes in
    let here = subst (λ (y : KeptString). HasRun (editor_at room stored (body_forth (notes_back x.changes b) (body_back x.changes b))) y) (sym same)
    (subst (λ (z : Body). HasRun (editor_at room stored z) x) (sym again.body) run) in
    record {
      forth = ((again.fits, here), subst (λ (z : Body). LeadForth room stored ys z) (sym again.body) forth);
      notes = ap (λ (z : Body). noted_as x (state_at stored z) ∷ undone_notes stored ys z) again.body;
      sound = again.sound;
    }

-- and the first undone one, forth
record StepsForth (room : ℕ) (stored : List ℕ) (x : KeptString) (xs : List KeptString) (b : Body) (ns : List NotedString) : Type 0 where
  pub back : LeadBack room stored (string_forth x b ∷ xs) (body_forth x.changes b)
  pub first : first_body (string_forth x b ∷ xs) (body_forth x.changes b) ≡ first_body xs b
  pub notes : done_notes stored (string_forth x b ∷ xs) (body_forth x.changes b) ns ≡ done_notes stored xs b (noted_as x (state_at stored (body_forth x.changes b)) ∷ ns)
  pub sound : IsSound room (length stored) (body_forth x.changes b)

steps_forth : ForthThenBack → (room : ℕ) (stored : List ℕ) (x : KeptString) (xs : List KeptString) (b : Body) (ns : List NotedString) → IsSound room (length stored) b
    → FitsForth room (length stored) x.changes b → HasRun (editor_at room stored (body_forth x.changes b)) (string_forth x b) → LeadBack room stored xs b → StepsForth room stored x xs b ns
steps_forth law room stored x xs b ns sound fits run back =
    let again = law room (length stored) x.changes b fits sound in
    record {
      back = (run, subst (λ (z : Body). LeadBack room stored xs z) (sym again.body) back);
      first = ap (first_body xs) again.body;
      notes = ap (λ (z : Body). done_notes stored xs z (noted_as x (state_at stored (body_forth x.changes b)) ∷ ns)) again.body;
      sound = again.sound;
    }

-- a history of these strings on the two sides of the editor's body
abbrev pub history_at : (stored : List ℕ) (xs ys : List KeptString) (b : Body) (c : ℕ) (depth : Option ℕ) → History
history_at stored xs ys b c depth = record { first = state_at stored (first_body xs b); notes = done_notes stored xs b (undone_notes stored ys b); cursor = c; depth = depth }

pub history_is : (s : KeptSession) (xs ys : List KeptString) → done_strings s ≡ xs → undone_strings s ≡ ys → history_of s ≡ history_at s.editor.stored xs ys s.editor.body s.cursor s.depth
history_is s xs ys e f = ap (λ (zs : List KeptString). history_at s.editor.stored zs (undone_strings s) s.editor.body s.cursor s.depth) e
    ∙ ap (λ (zs : List KeptString). history_at s.editor.stored xs zs s.editor.body s.cursor s.depth) f

-- the same history with its cursor at another place
abbrev pub cursor_at : History → ℕ → History
cursor_at h i = record h { cursor = i }

-- a session after an undo or a redo
pub record Turned (s t : KeptSession) (i : ℕ) : Type 0 where
  pub holds : IsSession t
  pub history : history_of t ≡ cursor_at (history_of s) i

same_history : (h : History) (first : State) (notes : List NotedString) (i : ℕ) → first ≡ h.first → notes ≡ h.notes → (let t : History = record { first = first; notes = notes; cursor = i; depth = h.depth } in t) ≡ cursor_at h i
same_history h first notes i e f = rw (e, f) refl

moved_history : (h t : History) (i : ℕ) → IsHistory h → i ≤ length h.notes → t ≡ cursor_at h i → IsHistory t
moved_history h t i ok le e = subst IsHistory (sym e) (record { begins = ok.begins; states = ok.states; within = le })

pub last_done : (xs : List KeptString) (x : KeptString) (c i : ℕ) → c ≡ i + 1 → i < length xs → x ≡ get_or xs i x → reverse (take c xs) ≡ x ∷ reverse (take i xs)
last_done xs x c i n lt is = ap (λ j. reverse (take j xs)) n ∙ ap reverse (take_more xs i x lt ∙ ap (λ y. take i xs ++ y ∷ []) (sym is)) ∙ reverse-append (take i xs) (x ∷ [])

pub undo_fits : (s : KeptSession) (x : KeptString) (i : ℕ) → s.cursor ≡ i + 1 → IsSession s → x ≡ get_or s.strings i x → FitsBack s.editor.room x.changes s.editor.body
undo_fits s x i n ok is =
    let le = ok.within in
    let all = subst (λ (zs : List KeptString). LeadBack s.editor.room s.editor.stored zs s.editor.body) (last_done s.strings x s.cursor i n (omega arith) is) ok.back in
    all.0.turns.fits

pub session_back : BackThenForth → (s : KeptSession) (x : KeptString) (i : ℕ) → s.cursor ≡ i + 1 → IsSession s → x ≡ get_or s.strings i x → Turned s (turned_back s x i) i
session_back law s x i n ok is =
    let le = ok.within in
    let lt : i < length s.strings = omega arith in
    let t : KeptSession = turned_back s x i in
    let room = s.editor.room in let stored = s.editor.stored in let b = s.editor.body in
    let before : done_strings s ≡ x ∷ reverse (take i s.strings) = last_done s.strings x s.cursor i n lt is in
    let behind : undone_strings s ≡ drop (i + 1) s.strings = ap (λ j. drop j s.strings) n in
    let before' : done_strings t ≡ reverse (take i s.strings) = ap reverse (take-set s.strings i (string_back x b)) in
    let behind' : undone_strings t ≡ string_back x b ∷ drop (i + 1) s.strings = drop-set s.strings i (string_back x b) lt in
    let all : LeadBack room stored (x ∷ reverse (take i s.strings)) b = subst (λ (zs : List KeptString). LeadBack room stored zs b) before ok.back in
    let z = steps_back law room stored x (drop (i + 1) s.strings) b ok.sound all.0 (subst (λ (zs : List KeptString). LeadForth room stored zs b) behind ok.forth) in
    let old = history_is s _ _ before behind in
    let same : history_of t ≡ cursor_at (history_of s) i =
    history_is t _ _ before' behind'
    ∙ same_history (history_of s) _ _ i (ap (λ (h : History). h.first) (sym old)) (ap (done_notes stored (reverse (take i s.strings)) (body_back x.changes b)) z.notes ∙ ap (λ (h : History). h.notes) (sym old)) in
    record {
      holds = record {
        within = let k = length-set s.strings i (string_back x b) in omega arith;
        sound = z.sound;
        back = subst (λ (zs : List KeptString). LeadBack room stored zs (body_back x.changes b)) (sym before') all.1;
        forth = subst (λ (zs : List KeptString). LeadForth room stored zs (body_back x.changes b)) (sym behind') z.forth;
        history = moved_history (history_of s) (history_of t) i ok.history (let m = ok.history.within in omega arith) same;
      };
      history = same;
    }

first_undone : (xs : List KeptString) (x : KeptString) (i : ℕ) → i < length xs → x ≡ get_or xs i x → drop i xs ≡ x ∷ drop (i + 1) xs
first_undone xs x i lt is = drop_more xs i x lt ∙ ap (λ y. y ∷ drop (i + 1) xs) (sym is)

pub redo_fits : (s : KeptSession) (x : KeptString) → s.cursor < length s.strings → IsSession s → x ≡ get_or s.strings s.cursor x → FitsForth s.editor.room (length s.editor.stored) x.changes s.editor.body
redo_fits s x lt ok is =
    let all = subst (λ (zs : List KeptString). LeadForth s.editor.room s.editor.stored zs s.editor.body) (first_undone s.strings x s.cursor lt is) ok.forth in
    all.0.0

pub session_forth : ForthThenBack → (s : KeptSession) (x : KeptString) → s.cursor < length s.strings → IsSession s → x ≡ get_or s.strings s.cursor x → Turned s (turned_forth s x s.cursor) (s.cursor + 1)
session_forth law s x lt ok is =
    let i = s.cursor in
    let t : KeptSession = turned_forth s x i in
    let room = s.editor.room in let stored = s.editor.stored in let b = s.editor.body in
    let behind : undone_strings s ≡ x ∷ drop (i + 1) s.strings = first_undone s.strings x i lt is in
    let before' : done_strings t ≡ string_forth x b ∷ reverse (take i s.strings) = ap reverse (take_more_set s.strings i (string_forth x b) lt) ∙ reverse-append (take i s.strings) (string_forth x b ∷ []) in
    let behind' : undone_strings t ≡ drop (i + 1) s.strings = drop-set-lt (i + 1) s.strings i (string_forth x b) (omega arith) in
    let all : LeadForth room stored (x ∷ drop (i + 1) s.strings) b = subst (λ (zs : List KeptString). LeadForth room stored zs b) behind ok.forth in
    let z = steps_forth law room stored x (reverse (take i s.strings)) b (undone_notes stored (drop (i + 1) s.strings) (body_forth x.changes b)) ok.sound all.0.0 all.0.1 ok.back in
    let old = history_is s _ _ refl behind in
    let same : history_of t ≡ cursor_at (history_of s) (i + 1) =
    history_is t _ _ before' behind'
    ∙ same_history (history_of s) _ _ (i + 1) (ap (state_at stored) z.first ∙ ap (λ (h : History). h.first) (sym old)) (z.notes ∙ ap (λ (h : History). h.notes) (sym old)) in
    record {
      holds = record {
        within = let k = length-set s.strings i (string_forth x b) in omega arith;
        sound = z.sound;
        back = subst (λ (zs : List KeptString). LeadBack room stored zs (body_forth x.changes b)) (sym before') z.back;
        forth = subst (λ (zs : List KeptString). LeadForth room stored zs (body_forth x.changes b)) (sym behind') all.1;
        history = moved_history (history_of s) (history_of t) (i + 1) ok.history (let m = length-notes s ok.within in omega arith) same;
      };
      history = same;
    }
