-- The lines of the open calls, one after the other.
use Rattle.std.proofs.Common.{◌≡◌, ◌≤◌, ℕ, ◌+◌, ◌++◌, List, [], Option, Result, length, get_or, refl, sym, ap, subst, ◌∙◌, append_assoc, append-nil, add-one, nat_lt}
use Rattle.std.proofs.lemmas.Bool.{ltb-false, ltb-true}
use Rattle.std.proofs.lemmas.Option.{slice_get_past, slice_get_read}
use Rattle.std.specs.List.{slice_get}
use Rattle.std.specs.Prelude.{Bool, OnOk, false, true, codes, ◌==◌, if◌then◌else◌}
use Rattle.teco_exec.specs.declared.place.Call.{Call}
use Rattle.teco_exec.specs.declared.place.Place.{Place}
use Rattle.teco_debugger.specs.Walk.{KeptWalk}
use Rattle.teco_debugger.specs.Showing.{call_line, call_lines, each_turn_shown, turns_of_call, turns_shown}

pub no_lines : (w : KeptWalk) (string : List ℕ) (place : Place) (old : List ℕ) → old ≡ old ++ call_lines w string place 0
unfolding call_lines
no_lines w string place old = sym (append-nil old)

pub more_lines : (w : KeptWalk) (string : List ℕ) (place : Place) (k : ℕ) (old so new : List ℕ) → so ≡ old ++ call_lines w string place k → new ≡ so ++ call_line w string place k
    → new ≡ old ++ call_lines w string place (k + 1)
unfolding call_lines
more_lines w string place k old so new a b =
    rw add-one (b ∙ ap (λ s. s ++ call_line w string place k) a ∙ append_assoc old (call_lines w string place k) (call_line w string place k))

-- the turns of some open iterations
pub some_turns : (turns : List (Option ℕ)) (old mid new : List ℕ) → (length turns == 0) ≡ false → mid ≡ old ++ codes "; turns left:" → new ≡ mid ++ each_turn_shown turns
    → new ≡ old ++ turns_shown turns
some_turns turns old mid new some a b =
    b ∙ ap (λ m. m ++ each_turn_shown turns) a ∙ append_assoc old (codes "; turns left:") (each_turn_shown turns)
    ∙ ap (λ (z : Bool). old ++ (if z then [] else codes "; turns left:" ++ each_turn_shown turns)) (sym some)

-- no call is open there
pub no_turns : (calls given : List Call) (k : ℕ) (old : List ℕ) → given ≡ calls → false ≡ nat_lt k (length given)
    → old ≡ old ++ turns_shown (turns_of_call (slice_get calls k))
no_turns calls given k old same past =
    let none = slice_get_past calls k (subst (λ xs. length xs ≤ k) same (ltb-false k (length given) (sym past))) in
    sym (append-nil old) ∙ ap (λ o. old ++ turns_shown (turns_of_call o)) (sym none)

-- the turns of the call that is open there
pub turns_there : {A E : Type 0} (r : Result A E) (calls given : List Call) (call : Call) (turns : List (Option ℕ)) (k : ℕ) (old new : List ℕ) → given ≡ calls
    → true ≡ nat_lt k (length given) → call ≡ get_or given k call → turns ≡ call.turns.items → OnOk r (new ≡ old ++ turns_shown turns)
    → OnOk r (new ≡ old ++ turns_shown (turns_of_call (slice_get calls k)))
turns_there r calls given call turns k old new same within is turns_are shown =
    let some = ap (λ xs. slice_get xs k) (sym same) ∙ slice_get_read given (length given) k call refl (ltb-true k (length given) (sym within)) is in
    subst (λ o. OnOk r (new ≡ old ++ turns_shown (turns_of_call o))) (sym some) (subst (λ t. OnOk r (new ≡ old ++ turns_shown t)) turns_are shown)
