-- Sessions: a string is run.
use Rattle.std.proofs.Common.{◌≡◌, ℕ, ◌+◌, ◌≤◌, Option, Some, None, IfSome, List, [], ◌∷◌, ◌++◌, length, take, drop, reverse, refl, sym, ◌∙◌, ap, subst, arith, append_assoc, length-append}
use Rattle.std.proofs.lemmas.List.{reverse-append, length-reverse, length-take-le, drop_all, take_all, take_at, take-take, take-append-drop}
use Rattle.teco_store.specs.State.{State, Body, IsSound, Extends, state_at, state_of}
use Rattle.teco_undo.specs.Entry.{body_back}
use Rattle.teco_undo.specs.Follows.{HasCome, LeadsBack}
use Rattle.teco_undo.specs.RecordLaws.{BackThenForth, ComesSoExtended}
use Rattle.teco_exec.specs.Runs.{trail_of}
use Rattle.teco_exec.specs.StringMeaning.{string_meaning}
use Rattle.teco_session.specs.History.{History, NotedString, IsHistory, appended}
use Rattle.teco_session.specs.Strings.{KeptString}
use Rattle.teco_session.specs.Kept.{KeptSession, done_strings, undone_strings, noted_as, first_body, done_notes, undone_notes, history_of, HasRun, editor_at, LeadBack, LeadForth, IsSession}
use Rattle.teco_session.proofs.Histories.{IsHistory-appended}
use Rattle.teco_session.proofs.Turning.{history_is, length-done_notes, present_is}

-- a state is the same over any stored output that begins with the same bytes
state_same : (st st' : List ℕ) (m : ℕ) (b : Body) → b.output ≤ m → take m st ≡ take m st' → state_at st' b ≡ state_at st b
state_same st st' m b h e =
    ap (λ (xs : List ℕ). let s : State = record (state_at st b) { output = xs } in s)
    (sym (take-take b.output m st' h) ∙ ap (take b.output) (sym e) ∙ take-take b.output m st h)

-- what stays where the stored output only grows beyond the output's end, and the capacity is no less
record Stays (room : ℕ) (st st' : List ℕ) (xs : List KeptString) (b : Body) (ns : List NotedString) : Type 0 where
  pub back : LeadBack room st' xs b
  pub notes : done_notes st' xs b ns ≡ done_notes st xs b ns
  pub first : state_at st' (first_body xs b) ≡ state_at st (first_body xs b)

-- what is visible is stored where as much is stored the same
still_stored : (st st' : List ℕ) (m n : ℕ) → n ≤ m → take m st ≡ take m st' → n ≤ length st → n ≤ length st'
still_stored st st' m n h e within =
    let same : length (take n st') ≡ length (take n st) = ap length (sym (take-take n m st' h) ∙ ap (take n) (sym e) ∙ take-take n m st h) in
    let whole : length (take n st' ++ drop n st') ≡ length st' = ap length (take-append-drop n st') in
    omega (arith, same, whole, length-append (take n st') (drop n st'), length-take-le n st within)

-- a string that has run, at an editor that is extended
ran_extended : ComesSoExtended → (room room' m : ℕ) (st st' : List ℕ) (x : KeptString) (b : Body) → room ≤ room' → b.output ≤ m → take m st ≡ take m st'
    → b.output ≤ length st → state_at st (body_back x.changes b) ≡ state_at st' (body_back x.changes b) → HasRun (editor_at room st b) x → HasRun (editor_at room' st' b) x
ran_extended law room room' m st st' x b r h same within here run =
    let extends : Extends (editor_at room st b) (editor_at room' st' b) = record {
      body = refl;
      stored = sym (take-take b.output m st' h) ∙ ap (take b.output) (sym same) ∙ take-take b.output m st h;
      top = still_stored st st' m b.output h same within;
      room = r;
    } in
    subst (λ (s : State). HasCome (editor_at room' st' b) x.changes x.steps (trail_of s x.text 0 x.steps)) here
    (law (editor_at room st b) (editor_at room' st' b) x.changes x.steps (trail_of (state_at st (body_back x.changes b)) x.text 0 x.steps) extends run)

stays : BackThenForth → ComesSoExtended → (room room' m : ℕ) (st st' : List ℕ) (xs : List KeptString) (b : Body) (ns : List NotedString) → room ≤ room' → b.output ≤ m
    → take m st ≡ take m st' → IsSound room (length st) b → LeadBack room st xs b → Stays room' st st' xs b ns
stays law more room room' m st st' [] b ns r h same sound f = record { back = tt; notes = refl; first = state_same st st' m b h same }
stays law more room room' m st st' (x ∷ xs) b ns r h same sound f =
    let back : Body = body_back x.changes b in
    let again = law room (length st) x.changes b f.0.turns.fits sound in
    let low : back.output ≤ m = let y = again.output in omega arith in
    let here : state_at st back ≡ state_at st' back = sym (state_same st st' m back low same) in
    let rest = stays law more room room' m st st' xs back (noted_as x (state_at st b) ∷ ns) r low same again.sound f.1 in
    record {
      back = (ran_extended more room room' m st st' x b r h same sound.stored here f.0, rest.back);
      notes = ap (λ (s : State). done_notes st' xs back (noted_as x s ∷ ns)) (state_same st st' m b h same) ∙ rest.notes;
      first = rest.first;
    }

-- the notes that follow stay apart
pub notes_split : (st : List ℕ) (xs : List KeptString) (b : Body) (ns : List NotedString) → done_notes st xs b ns ≡ done_notes st xs b [] ++ ns
notes_split st [] b ns = refl
notes_split st (x ∷ xs) b ns =
    let n : NotedString = noted_as x (state_at st b) in
    notes_split st xs (body_back x.changes b) (n ∷ ns)
    ∙ sym (append_assoc (done_notes st xs (body_back x.changes b) []) (n ∷ []) ns)
    ∙ ap (λ (l : List NotedString). l ++ ns) (sym (notes_split st xs (body_back x.changes b) (n ∷ [])))

pub notes_cut : (st : List ℕ) (xs : List KeptString) (b : Body) (ns : List NotedString) (c : ℕ) → length xs ≡ c → take c (done_notes st xs b ns) ≡ done_notes st xs b []
notes_cut st xs b ns c n =
    let none : List NotedString = [] in
    let size : length (done_notes st xs b none) ≡ length xs + length none = length-done_notes st xs b none in
    ap (take c) (notes_split st xs b ns) ∙ take_at (done_notes st xs b none) ns c (omega arith)

-- a session after a string that has begun, with a string more than before
pub record Appended (s t : KeptSession) (x : KeptString) : Type 0 where
  pub holds : IsSession t
  pub history : history_of t ≡ appended (history_of s) (noted_as x (state_of t.editor))

same_parts : (first first' : State) (notes notes' : List NotedString) (c c' : ℕ) (depth depth' : Option ℕ) → first ≡ first' → notes ≡ notes' → c ≡ c' → depth ≡ depth'
    → (let h : History = record { first = first; notes = notes; cursor = c; depth = depth } in h) ≡ record { first = first'; notes = notes'; cursor = c'; depth = depth' }
same_parts first first' notes notes' c c' depth depth' a b d e = rw (a, b, d, e) refl

pub session_appended : BackThenForth → ComesSoExtended → (s t : KeptSession) (x : KeptString) → IsSession s → LeadsBack s.editor t.editor x.changes → HasRun t.editor x
    → state_of t.editor ≡ (string_meaning (state_of s.editor) x.text x.steps).state → t.strings ≡ take s.cursor s.strings ++ x ∷ [] → t.cursor ≡ s.cursor + 1 → t.depth ≡ s.depth → Appended s t x
session_appended law more s t x ok r run again strings at depth =
    let c = s.cursor in
    let xs : List KeptString = done_strings s in
    let st = s.editor.stored in let st' = t.editor.stored in
    let b = s.editor.body in
    let m : ℕ = b.output in
    let n : length (take c s.strings) ≡ c = length-take-le c s.strings ok.within in
    let nx : length xs ≡ c = length-reverse (take c s.strings) ∙ n in
    let size : length t.strings ≡ c + 1 = ap length strings ∙ length-append (take c s.strings) (x ∷ []) ∙ ap (λ k. k + 1) n in
    let whole : take t.cursor t.strings ≡ take c s.strings ++ x ∷ [] = take_all t.cursor t.strings (omega arith) ∙ strings in
    let before : done_strings t ≡ x ∷ xs = ap reverse whole ∙ reverse-append (take c s.strings) (x ∷ []) in
    let behind : undone_strings t ≡ [] = drop_all t.cursor t.strings (omega arith) in
    let note : NotedString = noted_as x (state_of t.editor) in
    let kept = stays law more s.editor.room t.editor.room m st st' xs b (note ∷ []) r.room (omega arith) (sym r.stored) ok.sound ok.back in
    let first : state_at st' (first_body xs (body_back x.changes t.editor.body)) ≡ (history_of s).first = ap (λ (z : Body). state_at st' (first_body xs z)) r.body ∙ kept.first in
    let notes : done_notes st' xs (body_back x.changes t.editor.body) (note ∷ []) ≡ take c (history_of s).notes ++ note ∷ [] =
    ap (λ (z : Body). done_notes st' xs z (note ∷ [])) r.body ∙ kept.notes ∙ notes_split st xs b (note ∷ [])
    ∙ ap (λ (k : List NotedString). k ++ note ∷ []) (sym (notes_cut st xs b (undone_notes st (undone_strings s) b) c nx)) in
    let same : history_of t ≡ appended (history_of s) note = history_is t (x ∷ xs) [] before behind ∙ same_parts _ _ _ _ _ _ _ _ first notes at depth in
    record {
      holds = record {
        within = omega arith;
        sound = r.sound;
        back = subst (λ (zs : List KeptString). LeadBack t.editor.room st' zs t.editor.body) (sym before)
            (run, subst (λ (z : Body). LeadBack t.editor.room st' xs z) (sym r.body) kept.back);
        forth = subst (λ (zs : List KeptString). LeadForth t.editor.room st' zs t.editor.body) (sym behind) tt;
        history = subst IsHistory (sym same) (IsHistory-appended (history_of s) note ok.history (again ∙ ap (λ (z : State). (string_meaning z x.text x.steps).state) (sym (present_is s ok.within))));
      };
      history = same;
    }

-- What follows of a value follows of the one that there is.
pub each_some : {A : Type 0} (P Q : A → Type 0) → ((x : A) → P x → Q x) → (o : Option A) → IfSome o P → IfSome o Q
each_some P Q f None h = tt
each_some P Q f (Some x) h = f x h
