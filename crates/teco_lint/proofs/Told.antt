-- What is told of commands, string by string.
use Rattle.std.proofs.Common.{◌≡◌, ℕ, ◌+◌, ◌-◌, ◌≤◌, Bool, true, false, ◌||◌, List, [], ◌∷◌, length, take, drop, refl, sym, ap, subst, ◌∙◌, arith, length-drop}
use Rattle.std.specs.List.{insert, list_any}
use Rattle.std.proofs.lemmas.List.{length-take-le, take-append-drop}
use Rattle.std.proofs.lemmas.List.Folds.{list_any-append}
use Rattle.teco_lint.specs.declared.remarks.Remark.{Remark}
use Rattle.teco_lint.specs.Told.{IsTold, TellsFirst, is_fault}
use Rattle.teco_lint.specs.Strings.{AreTold, is_request}
use Rattle.teco_core.specs.declared.profile.Profile.{Profile}

-- what is told is still told among remarks that keep it
pub told_later : (p : Profile) (code : List Bool) (now later : List Remark) (from : ℕ) (s : List ℕ) → ((test : Remark → Bool) → IsTold test now → IsTold test later)
    → (is_request s ≡ false → TellsFirst p code now from s) → is_request s ≡ false → TellsFirst p code later from s
told_later p code now later from s keeps told asks =
    let it : TellsFirst p code now from s = told asks in
    record {
      own = λ f is out test passes. keeps test (it.own f is out test passes);
      some = λ is. keeps is_fault (it.some is);
    }

length_cut : (from to : ℕ) (xs : List ℕ) → from ≤ to → to ≤ length xs → length (take (to - from) (drop from xs)) ≡ to - from
length_cut from to xs h l =
    let d : length (drop from xs) ≡ length xs - from = length-drop from xs in
    length-take-le (to - from) (drop from xs) (omega arith)

-- one string more is told
pub one_told : (p : Profile) (code : List Bool) (later : List Remark) (commands : List ℕ) (from to : ℕ) (rest all : List (List ℕ)) → from ≤ to → to ≤ length commands
    → all ≡ take (to - from) (drop from commands) ∷ rest
    → (is_request (take (to - from) (drop from commands)) ≡ false → TellsFirst p code later from (take (to - from) (drop from commands)))
    → AreTold p code later (to + 1) rest → AreTold p code later from all
one_told p code later commands from to rest all h l e told more =
    let long : length (take (to - from) (drop from commands)) ≡ to - from = length_cut from to commands h l in
    let next : to + 1 ≡ from + length (take (to - from) (drop from commands)) + 1 = omega (arith, long, h) in
    subst (λ (strings : List (List ℕ)). AreTold p code later from strings) (sym e) (told, subst (λ (at : ℕ). AreTold p code later at rest) next more)

-- the last string is told
pub last_told : (p : Profile) (code : List Bool) (later : List Remark) (from : ℕ) (string cut : List ℕ) (all : List (List ℕ)) → all ≡ string ∷ [] → cut ≡ string
    → (is_request cut ≡ false → TellsFirst p code later from cut) → AreTold p code later from all
last_told p code later from string cut all e same told =
    subst (λ (strings : List (List ℕ)). AreTold p code later from strings) (sym e)
    (subst (λ (s : List ℕ). is_request s ≡ false → TellsFirst p code later from s) same told, tt)

either_more : (a b c : Bool) → a || b ≡ true → a || (c || b) ≡ true
either_more true b c h = refl
either_more false b true h = refl
either_more false b false h = h

-- what is among the remarks is among them when one more comes
pub any_insert : (test : Remark → Bool) (xs : List Remark) (i : ℕ) (x : Remark) (ys : List Remark) → ys ≡ insert xs i x → list_any test xs ≡ true → list_any test ys ≡ true
any_insert test xs i x ys e h =
    let parts : list_any test (take i xs) || list_any test (drop i xs) ≡ true =
    sym (list_any-append test (take i xs) (drop i xs)) ∙ ap (list_any test) (take-append-drop i xs) ∙ h in
    ap (list_any test) e ∙ list_any-append test (take i xs) (x ∷ drop i xs) ∙ either_more (list_any test (take i xs)) (list_any test (drop i xs)) (test x) parts
