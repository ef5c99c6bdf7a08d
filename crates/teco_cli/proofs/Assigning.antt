-- Which words are assignments, and lists of them.
use Rattle.std.proofs.Common.{◌≡◌, ◌≢◌, ◌∙◌, ◌<◌, ◌++◌, ◌+◌, ℕ, suc, true, false, true≢false, refl, sym, ap, subst, arith, List, [], ◌∷◌, length, get_or, map, take, Some, None, Result, Ok, Err, add-one}
use Rattle.std.proofs.Math.Seq.{take-suc}
use Rattle.std.proofs.lemmas.List.{get_or-map, get_or_default, length-map, map-append}
use Rattle.std.specs.Borrow.{Bor}
use Rattle.std.specs.List.{All, AllZip, slice_index_or}
use Rattle.std.specs.Prelude.{drop}
use Rattle.std.specs.Result.{is_err, is_ok}
use Rattle.clap.specs.Words.{Text}
use Rattle.teco_core.specs.Register.{register_of}
use Rattle.teco_cli.specs.CommandLine.{IsWordFault, IsWordsFault}
use Rattle.teco_cli.specs.Assignments.{HasNoMark, IsAssignment, IsNoAssignment, Assigns, AssignsNothing}
use Rattle.teco_cli.specs.declared.assignment.AssignedValue.{AssignedValue}
use Rattle.teco_cli.specs.declared.assignment.AssignedValue.TheVariants as value
use Rattle.teco_cli.specs.declared.assignment.Assignment.{Assignment}
use Rattle.teco_cli.specs.declared.fault.LineFault.{LineFault}
use Rattle.teco_cli.specs.declared.fault.LineFault.TheVariants.{NoMemory, Refused}

abbrev first : Text → ℕ
first word = slice_index_or word 0 0

abbrev second : Text → ℕ
second word = slice_index_or word 1 0

abbrev rest_of : Text → Text
rest_of word = drop 1 word

-- ---- what is put

-- other bytes before = put nothing
pub assigns_nothing : (before text : Text) → All (λ byte. byte ≢ 61) before → (before ≡ [] → ⊥) → (before ≡ 58 ∷ [] → ⊥) → AssignsNothing (before ++ (61 ∷ text))
assigns_nothing [] text apart some other put is = absurd (some refl)
assigns_nothing (b ∷ bs) text apart some other (value.Text put) is = absurd (apart 0 0 (omega arith) (ap first is))
assigns_nothing (b ∷ []) text apart some other (value.Number number) is = absurd (other (ap (λ t. first t ∷ []) is.1))
assigns_nothing (b ∷ c ∷ bs) text apart some other (value.Number number) is = absurd (apart 1 0 (omega arith) (ap second is.1))

-- ---- which words assign

-- what follows the first of bytes that are not = has none of them
pub tail_free : (front before : Text) (name : ℕ) → front ≡ name ∷ before → ((i : ℕ) → i < length front → get_or front i 0 ≢ 61) → HasNoMark before
tail_free front before name is free k d lt e =
    free (suc k) (omega (arith, lt, ap length is)) (ap (λ f. get_or f (suc k) 0) is ∙ (get_or_default before k 0 d lt ∙ e))

-- the name of a register, and what follows it
pub named_by : (word front before text : Text) (name : ℕ) → word ≡ front ++ (61 ∷ text) → front ≡ name ∷ before → word ≡ name ∷ (before ++ (61 ∷ text))
named_by word front before text name parts is = parts ∙ ap (λ f. f ++ (61 ∷ text)) is

-- one without = assigns nothing
pub no_mark : (word : Text) → ((i : ℕ) → i < length word → get_or word i 0 ≢ 61) → IsNoAssignment word
no_mark word free assignment h = go assignment.value h.4
  where
    go : (put : AssignedValue) → Assigns h.1 put → ⊥
    go (value.Text text) is =
        let all : word ≡ h.0 ∷ 61 ∷ text.items = h.2 ∙ ap (λ r. h.0 ∷ r) is in
        free 1 (omega (arith, ap length all)) (ap second all)
    go (value.Number number) is =
        let all : word ≡ h.0 ∷ 58 ∷ 61 ∷ is.0 = h.2 ∙ ap (λ r. h.0 ∷ r) is.1 in
        free 2 (omega (arith, ap length all)) (ap (λ w. slice_index_or w 2 0) all)

-- nor does one that begins with no name of a register
pub no_register : (word rest : Text) (name : ℕ) → word ≡ name ∷ rest → register_of name ≡ None → IsNoAssignment word
no_register word rest name is none assignment h =
    let same : name ≡ h.0 = ap first (sym is ∙ h.2) in
    let bad : None ≡ Some assignment.register = sym none ∙ ap register_of same ∙ h.3 in
    cc

-- nor one whose name is followed by what puts nothing
pub no_value : (word rest : Text) (name : ℕ) → word ≡ name ∷ rest → AssignsNothing rest → IsNoAssignment word
no_value word rest name is none assignment h =
    let same : h.1 ≡ rest = ap rest_of (sym h.2 ∙ is) in
    none assignment.value (subst (λ r. Assigns r assignment.value) same h.4)

-- ---- several

zip_snoc : {A B : Type 0} (R : A → B → Type 0) (xs : List A) (ys : List B) (x : A) (y : B) → AllZip R xs ys → R x y → AllZip R (xs ++ x ∷ []) (ys ++ y ∷ [])
zip_snoc R [] [] x y all one = (one, tt)
zip_snoc R [] (b ∷ ys) x y all one = absurd all
zip_snoc R (a ∷ xs) [] x y all one = absurd all
zip_snoc R (a ∷ xs) (b ∷ ys) x y all one = (all.0, zip_snoc R xs ys x y all.1 one)

abbrev behind : List (Bor Text) → List Text
behind = map (λ word. word.now)

-- a word that is no assignment is one of them
pub word_of_words : (words : List (Bor Text)) (i : ℕ) (d : Bor Text) → i < length words → (fault : LineFault) → IsWordFault (get_or words i d).now fault → IsWordsFault (behind words) fault
word_of_words words i d within NoMemory h = tt
word_of_words words i d within (Refused refusal) h =
    let word = (get_or words i d).now in
    let here : i < length (behind words) = rw (length-map words (λ w. w.now)) within in
    ((i, word, here, get_or-map (λ w. w.now) words i d word within, h.0), h.1)

pub is_kept : {A E : Type 0} (r : Result A E) → is_err r ≡ false → is_ok r ≡ true
is_kept (Ok x) h = refl
is_kept (Err e) h = absurd (true≢false h)

-- one word more, and its assignment
pub one_more : (words : List (Bor Text)) (i : ℕ) (d : Bor Text) (made : List Assignment) (one : Assignment) → i < length words → AllZip IsAssignment (behind (take i words)) made
    → IsAssignment (get_or words i d).now one → AllZip IsAssignment (behind (take (i + 1) words)) (made ++ one ∷ [])
one_more words i d made one within all is =
    let taken : behind (take (i + 1) words) ≡ behind (take i words) ++ (get_or words i d).now ∷ [] =
    ap (λ k. behind (take k words)) (add-one i) ∙ (ap behind (take-suc words i d within) ∙ map-append (λ word. word.now) (take i words) (get_or words i d ∷ [])) in
    subst (λ ws. AllZip IsAssignment ws (made ++ one ∷ [])) (sym taken) (zip_snoc IsAssignment (behind (take i words)) made (get_or words i d).now one all is)
