-- Sessions: the first strings are dropped.
use Rattle.std.proofs.Common.{◌≡◌, ℕ, zero, suc, ◌+◌, ◌-◌, ◌≤◌, Option, None, Some, List, [], ◌∷◌, ◌++◌, length, take, drop, reverse, refl, sym, ◌∙◌, ap, subst, arith}
use Rattle.std.proofs.lemmas.List.{reverse-append, length-reverse, length-take-le, length-drop, drop-drop}
use Rattle.std.proofs.Math.Seq.{take-add, drop-append_seam}
use Rattle.teco_store.specs.State.{State, Body, state_at}
use Rattle.teco_undo.specs.Entry.{body_back}
use Rattle.teco_session.specs.History.{History, NotedString, state_after, AreMeant, HasBegun, IsHistory, without_first}
use Rattle.teco_session.specs.Strings.{KeptString}
use Rattle.teco_session.specs.Kept.{KeptSession, done_strings, undone_strings, noted_as, first_body, done_notes, undone_notes, history_of, LeadBack, LeadForth, IsSession}
use Rattle.teco_session.proofs.Turning.{history_at, history_is, length-done_notes, present-done}
use Rattle.teco_session.proofs.Running.{notes_split}

AreMeant-append : (s : State) (xs ys : List NotedString) → AreMeant s xs → AreMeant (state_after s xs (length xs)) ys → AreMeant s (xs ++ ys)
AreMeant-append s [] ys m k = k
AreMeant-append s (x ∷ xs) ys m k = (m.0, AreMeant-append x.state xs ys m.1 k)

state_after-append : (s : State) (xs ys : List NotedString) → state_after s (xs ++ ys) (length (xs ++ ys)) ≡ state_after (state_after s xs (length xs)) ys (length ys)
state_after-append s [] ys = refl
state_after-append s (x ∷ xs) ys = state_after-append x.state xs ys

-- The first notes are meant, and so are the others from the state after them.
pub record Parts (s : State) (notes : List NotedString) (n : ℕ) : Type 0 where
  pub first : AreMeant s (take n notes)
  pub last : state_after s (take n notes) (length (take n notes)) ≡ state_after s notes n
  pub rest : AreMeant (state_after s notes n) (drop n notes)

pub parts : (s : State) (notes : List NotedString) (n : ℕ) → AreMeant s notes → Parts s notes n
parts s notes zero m = record { first = tt; last = refl; rest = m }
parts s [] (suc n) m = record { first = tt; last = refl; rest = tt }
parts s (x ∷ notes) (suc n) m = let p = parts x.state notes n m.1 in record { first = (m.0, p.first); last = p.last; rest = p.rest }

-- The first state is where the strings that are dropped now have led, and before them those that were dropped before.
pub has_begun : (depth : Option ℕ) (s : State) (notes : List NotedString) (n : ℕ) → (depth ≡ None → n ≡ 0) → AreMeant s notes → HasBegun depth s → HasBegun depth (state_after s notes n)
has_begun None s notes n none m b = rw (none refl) b
has_begun (Some depth) s notes n none m b =
    let first : State = b.0 in
    let dropped : List NotedString = b.2 in
    let p = parts s notes n m in (
      first,
      b.1,
      dropped ++ take n notes,
      AreMeant-append first dropped (take n notes) b.3 (subst (λ (z : State). AreMeant z (take n notes)) b.4 p.first),
      sym p.last ∙ ap (λ (z : State). state_after z (take n notes) (length (take n notes))) b.4 ∙ sym (state_after-append first dropped (take n notes)),
    )

IsHistory-without_first : (h : History) (n : ℕ) → (h.depth ≡ None → n ≡ 0) → n ≤ h.cursor → IsHistory h → IsHistory (without_first n h)
IsHistory-without_first h n none le ok = record {
  begins = has_begun h.depth h.first h.notes n none ok.states ok.begins;
  states = (parts h.first h.notes n ok.states).rest;
  within = let w = ok.within in omega (arith, length-drop n h.notes);
}

-- the last strings that are done, and what is before them
first_body-append : (xs ys : List KeptString) (b : Body) → first_body (xs ++ ys) b ≡ first_body ys (first_body xs b)
first_body-append [] ys b = refl
first_body-append (x ∷ xs) ys b = first_body-append xs ys (body_back x.changes b)

done_notes-append : (st : List ℕ) (xs ys : List KeptString) (b : Body) (ns : List NotedString) → done_notes st (xs ++ ys) b ns ≡ done_notes st ys (first_body xs b) (done_notes st xs b ns)
done_notes-append st [] ys b ns = refl
done_notes-append st (x ∷ xs) ys b ns = done_notes-append st xs ys (body_back x.changes b) (noted_as x (state_at st b) ∷ ns)

LeadBack-front : (room : ℕ) (st : List ℕ) (xs ys : List KeptString) (b : Body) → LeadBack room st (xs ++ ys) b → LeadBack room st xs b
LeadBack-front room st [] ys b f = tt
LeadBack-front room st (x ∷ xs) ys b f = (f.0, LeadBack-front room st xs ys (body_back x.changes b) f.1)

-- a history without the strings that are the last of those done
history_without : (st : List ℕ) (xs ys zs : List KeptString) (b : Body) (c n : ℕ) (depth : Option ℕ) → length ys ≡ n
    → history_at st xs zs b (c - n) depth ≡ without_first n (history_at st (xs ++ ys) zs b c depth)
history_without st xs ys zs b c n depth e =
    let later : List NotedString = done_notes st xs b (undone_notes st zs b) in
    let here : Body = first_body xs b in
    let notes : done_notes st (xs ++ ys) b (undone_notes st zs b) ≡ done_notes st ys here later = done_notes-append st xs ys b (undone_notes st zs b) in
    let none : List NotedString = [] in
    let size : length (done_notes st ys here none) ≡ n = length-done_notes st ys here none ∙ omega (arith, e) in
    let rest : later ≡ drop n (done_notes st (xs ++ ys) b (undone_notes st zs b)) =
    sym (drop-append_seam (done_notes st ys here none) later) ∙ ap (λ k. drop k (done_notes st ys here none ++ later)) size
    ∙ ap (drop n) (sym (notes ∙ notes_split st ys here later)) in
    let first : State = state_at st (first_body (xs ++ ys) b) in
    let after : state_at st here ≡ state_after first (done_notes st (xs ++ ys) b (undone_notes st zs b)) n =
    sym (present-done st ys here later first 0 (ap (state_at st) (first_body-append xs ys b)))
    ∙ ap (λ (ns : List NotedString). state_after first ns (length ys + 0)) (sym notes)
    ∙ ap (state_after first (done_notes st (xs ++ ys) b (undone_notes st zs b))) (let k : length ys + 0 ≡ n = omega (arith, e) in k) in
    rw (after, rest) refl

-- a session without its first strings
abbrev pub without_oldest : ℕ → KeptSession → KeptSession
without_oldest n s = record s { strings = drop n s.strings; cursor = s.cursor - n }

pub record Dropped (s t : KeptSession) (n : ℕ) : Type 0 where
  pub holds : IsSession t
  pub history : history_of t ≡ without_first n (history_of s)

done_split : (xs : List KeptString) (c n : ℕ) → n ≤ c → reverse (take c xs) ≡ reverse (take (c - n) (drop n xs)) ++ reverse (take n xs)
done_split xs c n le =
    ap (λ k. reverse (take k xs)) (let e : c ≡ n + (c - n) = omega arith in e) ∙ ap reverse (take-add n (c - n) xs) ∙ reverse-append (take n xs) (take (c - n) (drop n xs))

undone_same : (xs : List KeptString) (c n : ℕ) → n ≤ c → drop (c - n) (drop n xs) ≡ drop c xs
undone_same xs c n le = drop-drop (c - n) n xs ∙ ap (λ k. drop k xs) (let e : n + (c - n) ≡ c = omega arith in e)

pub session_dropped : (s : KeptSession) (n : ℕ) → (s.depth ≡ None → n ≡ 0) → n ≤ s.cursor → IsSession s → Dropped s (without_oldest n s) n
session_dropped s n none le ok =
    let t : KeptSession = without_oldest n s in
    let stored = s.editor.stored in let b = s.editor.body in
    let within = ok.within in
    let before : done_strings s ≡ done_strings t ++ reverse (take n s.strings) = done_split s.strings s.cursor n le in
    let behind : undone_strings t ≡ undone_strings s = undone_same s.strings s.cursor n le in
    let gone : length (reverse (take n s.strings)) ≡ n = length-reverse (take n s.strings) ∙ length-take-le n s.strings (omega arith) in
    let same : history_of t ≡ without_first n (history_of s) =
    history_is t (done_strings t) (undone_strings s) refl behind
    ∙ history_without stored (done_strings t) (reverse (take n s.strings)) (undone_strings s) b s.cursor n s.depth gone
    ∙ ap (without_first n) (sym (history_is s (done_strings t ++ reverse (take n s.strings)) (undone_strings s) before refl)) in
    record {
      holds = record {
        within = omega (arith, length-drop n s.strings);
        sound = ok.sound;
        back = LeadBack-front s.editor.room stored (done_strings t) (reverse (take n s.strings)) b (subst (λ (zs : List KeptString). LeadBack s.editor.room stored zs b) before ok.back);
        forth = subst (λ (zs : List KeptString). LeadForth s.editor.room stored zs b) (sym behind) ok.forth;
        history = subst IsHistory (sym same) (IsHistory-without_first (history_of s) n none le ok.history);
      };
      history = same;
    }
