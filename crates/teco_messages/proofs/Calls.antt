-- The open calls that are shown, one after the other.
use Rattle.std.proofs.Common.{◌≡◌, ◌<◌, ◌≤◌, ℕ, arith, ◌+◌, ◌++◌, List, Result, length, get_or, nat_lt, refl, sym, ap, subst, ◌∙◌, append_assoc, append-nil, add-one}
use Rattle.std.proofs.lemmas.Bool.{ltb-false, ltb-true}
use Rattle.std.proofs.lemmas.Option.{slice_get_past, slice_get_read}
use Rattle.std.specs.List.{slice_get}
use Rattle.std.specs.Prelude.{OnOk, codes, false, true, None, Some, Ok, Err, is_ok, if◌then◌else◌}
use Rattle.teco_core.specs.Register.{Content, register_of}
use Rattle.teco_exec.specs.declared.place.Call.{Call}
use Rattle.teco_exec.specs.declared.place.Place.{Place}
use Rattle.teco_messages.specs.Placed.{call_in_shown, call_of_shown, call_shown, text_under}
use Rattle.teco_messages.specs.Stop.{calls_shown}

pub no_calls : (place : Place) (registers : List Content) (string old : List ℕ) → old ≡ old ++ calls_shown place registers string 0
unfolding calls_shown
no_calls place registers string old = sym (append-nil old)

pub more_calls : (place : Place) (registers : List Content) (string : List ℕ) (k : ℕ) (old so mid new : List ℕ)
    → so ≡ old ++ calls_shown place registers string k → mid ≡ so ++ codes ", " → new ≡ mid ++ call_shown place k registers string
    → new ≡ old ++ calls_shown place registers string (k + 1)
unfolding calls_shown
more_calls place registers string k old so mid new a b c =
    let call : List ℕ = call_shown place k registers string in
    let some : List ℕ = calls_shown place registers string k in
    rw add-one
    (c ∙ ap (λ m. m ++ call) b ∙ ap (λ s. (s ++ codes ", ") ++ call) a ∙ append_assoc (old ++ some) (codes ", ") call ∙ append_assoc old some (codes ", " ++ call))

-- two texts put behind one after the other
pub two : (old one new xs ys : List ℕ) → one ≡ old ++ xs → new ≡ one ++ ys → new ≡ old ++ (xs ++ ys)
two old one new xs ys a b = b ∙ ap (λ o. o ++ ys) a ∙ append_assoc old xs ys

-- no call is open there
pub is_none : (calls given : List Call) (k : ℕ) → given ≡ calls → false ≡ nat_lt k (length given) → slice_get calls k ≡ None
is_none calls given k same past = slice_get_past calls k (subst (λ xs. length xs ≤ k) same (ltb-false k (length given) (sym past)))

-- the call that is open there
pub is_some_call : (calls given : List Call) (k : ℕ) (call : Call) → given ≡ calls → true ≡ nat_lt k (length given) → call ≡ get_or given k call → slice_get calls k ≡ Some call
is_some_call calls given k call same within is = ap (λ xs. slice_get xs k) (sym same) ∙ slice_get_read given (length given) k call refl (ltb-true k (length given) (sym within)) is

pub no_call : (place : Place) (k : ℕ) (registers : List Content) (string old : List ℕ) → slice_get place.calls.items k ≡ None → old ≡ old ++ call_shown place k registers string
no_call place k registers string old none = sym (append-nil old) ∙ ap (λ o. old ++ call_of_shown o (text_under place (k + 1) registers string)) (sym none)

pub call_there : {A E : Type 0} (r : Result A E) (place : Place) (k : ℕ) (registers : List Content) (string old new text : List ℕ) (call : Call)
    → slice_get place.calls.items k ≡ Some call → text ≡ text_under place (k + 1) registers string → OnOk r (new ≡ old ++ call_in_shown call text)
    → OnOk r (new ≡ old ++ call_shown place k registers string)
call_there r place k registers string old new text call some text_is shown =
    subst (λ o. OnOk r (new ≡ old ++ call_of_shown o (text_under place (k + 1) registers string))) (sym some) (subst (λ t. OnOk r (new ≡ old ++ call_in_shown call t)) text_is shown)

-- the name of a register is ASCII
pub name_is_small : (name q : ℕ) → register_of name ≡ Some q → name < 128
name_is_small name q is = grind arith

-- a text that is put behind if there is memory for it
pub put_behind : {A E : Type 0} (r : Result A E) (old new text : List ℕ) → new ≡ (if is_ok r then old ++ text else old) → OnOk r (new ≡ old ++ text)
put_behind (Ok done) old new text e = e
put_behind (Err fault) old new text e = tt
