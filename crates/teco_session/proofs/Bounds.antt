-- What an entry holds: no more changes than its steps may make, and no more bytes than its string has moved.
use Rattle.std.proofs.Common.{◌≡◌, ℕ, zero, suc, ◌<◌, ◌≤◌, List, [], ◌∷◌, ◌++◌, length, take, reverse, get_or, refl, sym, ◌∙◌, ap, subst, arith, append_assoc}
use Rattle.std.proofs.lemmas.List.{reverse-reverse, reverse-append, take-append-drop}
use Rattle.teco_store.specs.State.{State, Body, IsSound, state_at}
use Rattle.teco_store.specs.Turn.{Note as Change, body_after}
use Rattle.teco_undo.specs.Entry.{body_back, body_forth, notes_forth, held_in, load_back}
use Rattle.teco_undo.specs.RecordLaws.{ForthThenBack, HoldsAtMostItsLoad}
use Rattle.teco_exec.specs.StringMeaning.{string_meaning}
use Rattle.teco_session.specs.History.{NotedString, state_after}
use Rattle.teco_session.specs.Strings.{KeptString}
use Rattle.teco_session.specs.Kept.{KeptSession, done_strings, undone_strings, noted_as, first_body, done_notes, undone_notes, history_of, LeadBack, LeadForth, IsSession, IsSmall}

-- each string's entry is small against what the string does in the state before it
AreSmallFrom : State → List KeptString → List NotedString → Type 0
AreSmallFrom s [] ns = Unit {0}
AreSmallFrom s (x ∷ xs) [] = Unit {0}
AreSmallFrom s (x ∷ xs) (n ∷ ns) = IsSmall x s × AreSmallFrom n.state xs ns

-- these strings in reverse, before others
onto : List KeptString → List KeptString → List KeptString
onto [] ys = ys
onto (x ∷ xs) ys = onto xs (x ∷ ys)

onto_is : (xs ys : List KeptString) → onto xs ys ≡ reverse xs ++ ys
unfolding onto
onto_is [] ys = refl
onto_is (x ∷ xs) ys = onto_is xs (x ∷ ys) ∙ sym (append_assoc (reverse xs) (x ∷ []) ys) ∙ ap (λ zs. zs ++ ys) (sym (reverse-append (x ∷ []) xs))

small_back : HoldsAtMostItsLoad → (room : ℕ) (st : List ℕ) (xs ys : List KeptString) (b : Body) (ns : List NotedString) → LeadBack room st xs b → AreSmallFrom (state_at st b) ys ns
    → AreSmallFrom (state_at st (first_body xs b)) (onto xs ys) (done_notes st xs b ns)
unfolding onto AreSmallFrom
small_back held room st [] ys b ns f s = s
small_back held room st (x ∷ xs) ys b ns f s =
    let h = (held x.changes b).now in
    let l = f.0.within.load in
    let count = f.0.within.count in
    small_back held room st xs (x ∷ ys) (body_back x.changes b) (noted_as x (state_at st b) ∷ ns) f.1 (record { changes = omega arith; held = omega arith }, s)

length-notes_forth : (cs : List Change) (b : Body) → length (notes_forth cs b) ≡ length cs
length-notes_forth [] b = refl
length-notes_forth (c ∷ cs) b = ap (λ n. suc n) (length-notes_forth cs (body_after c.turn b))

small_forth : ForthThenBack → HoldsAtMostItsLoad → (room : ℕ) (st : List ℕ) (ys : List KeptString) (b : Body) → IsSound room (length st) b → LeadForth room st ys b
    → AreSmallFrom (state_at st b) ys (undone_notes st ys b)
unfolding AreSmallFrom
small_forth law held room st [] b sound f = tt
small_forth law held room st (x ∷ xs) b sound f =
    let again = law room (length st) x.changes b f.0.0 sound in
    let turned = notes_forth x.changes b in let after = body_forth x.changes b in
    let n = length-notes_forth x.changes b in
    let count = f.0.1.within.count in
    let l = subst (λ (z : Body). load_back turned after ≤ (string_meaning (state_at st z) x.text x.steps).load) again.body f.0.1.within.load in
    let h = subst (λ (cs : List Change). held_in cs ≤ load_back turned after) again.notes (held turned after).turned in
    (record { changes = omega arith; held = omega arith }, small_forth law held room st xs after again.sound f.1)

small_at : (s : State) (xs : List KeptString) (ns : List NotedString) (i : ℕ) (d : KeptString) → i < length xs → length ns ≡ length xs → AreSmallFrom s xs ns → IsSmall (get_or xs i d) (state_after s ns i)
unfolding AreSmallFrom
small_at s [] ns i d lt e f = absurd (omega arith)
small_at s (x ∷ xs) [] i d lt e f = absurd (omega arith)
small_at s (x ∷ xs) (n ∷ ns) zero d lt e f = f.0
small_at s (x ∷ xs) (n ∷ ns) (suc i) d lt e f = small_at n.state xs ns i d (omega arith) (omega arith) f.1

pub entry_small : ForthThenBack → HoldsAtMostItsLoad → (s : KeptSession) (i : ℕ) (d : KeptString) → IsSession s → i < length s.strings → length (history_of s).notes ≡ length s.strings
    → IsSmall (get_or s.strings i d) (state_after (history_of s).first (history_of s).notes i)
entry_small law held s i d ok lt n =
    let stored = s.editor.stored in let room = s.editor.room in let b = s.editor.body in
    let later = undone_notes stored (undone_strings s) b in
    let all : AreSmallFrom (history_of s).first (onto (done_strings s) (undone_strings s)) (history_of s).notes =
    small_back held room stored (done_strings s) (undone_strings s) b later ok.back (small_forth law held room stored (undone_strings s) b ok.sound ok.forth) in
    let whole : onto (done_strings s) (undone_strings s) ≡ s.strings =
    onto_is (done_strings s) (undone_strings s) ∙ ap (λ zs. zs ++ undone_strings s) (reverse-reverse (take s.cursor s.strings)) ∙ take-append-drop s.cursor s.strings in
    small_at (history_of s).first s.strings (history_of s).notes i d lt n (subst (λ (xs : List KeptString). AreSmallFrom (history_of s).first xs (history_of s).notes) whole all)
