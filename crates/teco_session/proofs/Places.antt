-- Strings, as their entries lie in a vector or a ring.
use Rattle.std.proofs.Common.{◌≡◌, ℕ, ◌-◌, ◌<◌, List, [], ◌∷◌, ◌++◌, Option, Some, None, length, take, drop, map, get_or, set, sym, ◌∙◌, ap, arith}
use Rattle.std.proofs.lemmas.List.{get_or-map, map-set, map-append, take-map, drop-map, length-map}
use Rattle.circular_buffer.specs.Buffer.{keep_last}
use Rattle.teco_session.specs.Strings.{KeptString, entry_at, newest}
use Rattle.teco_session.specs.Entries.{kept_string}
use Rattle.teco_session.specs.declared.entry.Entry.{Entry}

-- what is read at a place
pub string_read : (xs : List KeptString) (vs : List Entry) (v : Entry) (i : ℕ) → xs ≡ map kept_string vs → i < length xs → v ≡ get_or vs i v → entry_at xs i ≡ kept_string v
string_read xs vs v i e lt is =
    let n = length-map vs kept_string in
    let size : length xs ≡ length (map kept_string vs) = ap length e in
    ap (λ (ys : List KeptString). entry_at ys i) e ∙ get_or-map kept_string vs i v _ (omega arith) ∙ ap kept_string (sym is)

-- a string is put in its place
pub string_set : (f : KeptString → KeptString) (xs : List KeptString) (vs : List Entry) (v w : Entry) (i : ℕ) → xs ≡ map kept_string vs → i < length xs → v ≡ get_or vs i v
    → kept_string w ≡ f (kept_string v) → map kept_string (set vs i w) ≡ set xs i (f (entry_at xs i))
string_set f xs vs v w i e lt is ew =
    map-set kept_string vs i w ∙ ap (set (map kept_string vs) i) (ew ∙ ap f (sym (string_read xs vs v i e lt is))) ∙ ap (λ (ys : List KeptString). set ys i (f (entry_at xs i))) (sym e)

pub strings_taken : (n : ℕ) (xs : List KeptString) (vs ws : List Entry) → xs ≡ map kept_string vs → ws ≡ take n vs → map kept_string ws ≡ take n xs
strings_taken n xs vs ws e k = ap (map kept_string) k ∙ sym (take-map kept_string n vs) ∙ ap (take n) (sym e)

-- a ring keeps the last ones
pub strings_kept : (depth : ℕ) (d : Option ℕ) (xs : List KeptString) (vs ws : List Entry) (v : Entry) → d ≡ Some depth → xs ≡ map kept_string vs → ws ≡ keep_last depth (vs ++ v ∷ [])
    → map kept_string ws ≡ newest d (xs ++ kept_string v ∷ [])
strings_kept depth d xs vs ws v ed e k =
    let all : map kept_string (vs ++ v ∷ []) ≡ xs ++ kept_string v ∷ [] = map-append kept_string vs (v ∷ []) ∙ ap (λ (ys : List KeptString). ys ++ kept_string v ∷ []) (sym e) in
    ap (map kept_string) k ∙ sym (drop-map kept_string (length (vs ++ v ∷ []) - depth) (vs ++ v ∷ []))
    ∙ ap (λ n. drop (n - depth) (map kept_string (vs ++ v ∷ []))) (sym (length-map (vs ++ v ∷ []) kept_string))
    ∙ ap (newest (Some depth)) all ∙ ap (λ (o : Option ℕ). newest o (xs ++ kept_string v ∷ [])) (sym ed)

-- With no depth an entry that is noted is one more.
pub strings_grown : (d : Option ℕ) (xs : List KeptString) (vs ws : List Entry) (v : Entry) → d ≡ None → xs ≡ map kept_string vs → ws ≡ vs ++ v ∷ [] → map kept_string ws ≡ newest d (xs ++ kept_string v ∷ [])
strings_grown d xs vs ws v ed e k =
    ap (map kept_string) k ∙ map-append kept_string vs (v ∷ []) ∙ ap (λ (ys : List KeptString). ys ++ kept_string v ∷ []) (sym e)
    ∙ ap (λ (o : Option ℕ). newest o (xs ++ kept_string v ∷ [])) (sym ed)
