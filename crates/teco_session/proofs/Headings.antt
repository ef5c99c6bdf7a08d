-- The history has the text and the steps of each string that is kept.
use Rattle.std.proofs.Common.{◌≡◌, ℕ, ◌<◌, ◌≤◌, List, [], ◌∷◌, ◌++◌, length, take, reverse, map, get_or, refl, sym, ◌∙◌, ap, arith, append_assoc}
use Rattle.std.proofs.lemmas.List.{get_or-map, map-append, reverse-append, reverse-reverse, take-append-drop}
use Rattle.teco_store.specs.State.{State, Body, state_at}
use Rattle.teco_undo.specs.Entry.{body_back, body_forth}
use Rattle.teco_session.specs.History.{NotedString}
use Rattle.teco_session.specs.Strings.{KeptString}
use Rattle.teco_session.specs.Kept.{KeptSession, done_strings, undone_strings, noted_as, done_notes, undone_notes, history_of}
use Rattle.teco_session.proofs.Turning.{length-notes}

-- what a note has of its string, whatever the state
Has : {A : Type 0} → (NotedString → A) → (KeptString → A) → Type 0
Has f g = (x : KeptString) (s : State) → f (noted_as x s) ≡ g x

map-done_notes : {A : Type 0} (f : NotedString → A) (g : KeptString → A) → Has f g → (stored : List ℕ) (xs : List KeptString) (b : Body) (ns : List NotedString)
    → map f (done_notes stored xs b ns) ≡ map g (reverse xs) ++ map f ns
unfolding Has
map-done_notes f g has stored [] b ns = refl
map-done_notes f g has stored (x ∷ xs) b ns =
    map-done_notes f g has stored xs (body_back x.changes b) (noted_as x (state_at stored b) ∷ ns)
    ∙ ap (λ y. map g (reverse xs) ++ (y ∷ map f ns)) (has x (state_at stored b))
    ∙ sym (append_assoc (map g (reverse xs)) (g x ∷ []) (map f ns))
    ∙ ap (λ ys. ys ++ map f ns) (sym (ap (map g) (reverse-append (x ∷ []) xs) ∙ map-append g (reverse xs) (x ∷ [])))

map-undone_notes : {A : Type 0} (f : NotedString → A) (g : KeptString → A) → Has f g → (stored : List ℕ) (xs : List KeptString) (b : Body) → map f (undone_notes stored xs b) ≡ map g xs
unfolding Has
map-undone_notes f g has stored [] b = refl
map-undone_notes f g has stored (x ∷ xs) b =
    ap (λ y. y ∷ map f (undone_notes stored xs (body_forth x.changes b))) (has x (state_at stored (body_forth x.changes b)))
    ∙ ap (λ ys. g x ∷ ys) (map-undone_notes f g has stored xs (body_forth x.changes b))

map-notes : {A : Type 0} (f : NotedString → A) (g : KeptString → A) → Has f g → (s : KeptSession) → map f (history_of s).notes ≡ map g s.strings
map-notes f g has s =
    let stored = s.editor.stored in let b = s.editor.body in
    map-done_notes f g has stored (done_strings s) b (undone_notes stored (undone_strings s) b)
    ∙ ap (λ ys. map g (reverse (done_strings s)) ++ ys) (map-undone_notes f g has stored (undone_strings s) b)
    ∙ ap (λ xs. map g xs ++ map g (undone_strings s)) (reverse-reverse (take s.cursor s.strings))
    ∙ sym (map-append g (take s.cursor s.strings) (undone_strings s))
    ∙ ap (map g) (take-append-drop s.cursor s.strings)

has_at : {A : Type 0} (f : NotedString → A) (g : KeptString → A) → Has f g → (s : KeptSession) (i : ℕ) (n : NotedString) (x : KeptString) → s.cursor ≤ length s.strings → i < length s.strings
    → f (get_or (history_of s).notes i n) ≡ g (get_or s.strings i x)
has_at f g has s i n x within lt =
    let count = length-notes s within in
    sym (get_or-map f (history_of s).notes i n (g x) (omega arith)) ∙ ap (λ ys. get_or ys i (g x)) (map-notes f g has s) ∙ get_or-map g s.strings i x (g x) lt

pub has_text : (s : KeptSession) (i : ℕ) (n : NotedString) (x : KeptString) → s.cursor ≤ length s.strings → i < length s.strings → (get_or (history_of s).notes i n).text ≡ (get_or s.strings i x).text
unfolding Has
has_text = has_at (λ n. n.text) (λ x. x.text) (λ x s. refl)

pub has_steps : (s : KeptSession) (i : ℕ) (n : NotedString) (x : KeptString) → s.cursor ≤ length s.strings → i < length s.strings → (get_or (history_of s).notes i n).steps ≡ (get_or s.strings i x).steps
unfolding Has
has_steps = has_at (λ n. n.steps) (λ x. x.steps) (λ x s. refl)
