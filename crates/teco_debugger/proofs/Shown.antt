-- What a run shows, with its place as that is shown.
use Rattle.std.proofs.Common.{◌≡◌, ◌∙◌, ◌+◌, ◌<◌, ℕ, zero, suc, List, [], ◌∷◌, length, get_or, Option, Some, None, Bool, true, false, if◌then◌else◌, nat_lt, ap, sym, refl, arith}
use Rattle.std.specs.Prelude.{◌==◌}
use Rattle.std.proofs.lemmas.Bool.{true≢false, eqb-true, ltb-false, ltb-true}
use Rattle.std.proofs.lemmas.Option.{slice_get_past, slice_get_read}
use Rattle.std.specs.Prelude.{slice_get, slice_set}
use Rattle.teco_exec.specs.declared.place.Call.{Call}
use Rattle.teco_debugger.specs.Walk.{KeptWalk, base, meant}
use Rattle.teco_debugger.specs.Sources.{IsShownAt, IsShownSeen, outermost_shown, shown_place}
use Rattle.teco_debugger.specs.declared.sources.SourceText.{SourceText}
use Rattle.teco_debugger.specs.declared.sources.Shown.{Shown}
use Rattle.teco_debugger.specs.declared.walk.Seen.{Seen}

same_typed : (source : Option SourceText) (old new : Seen) → IsShownSeen source old new → new.typed.items ≡ old.typed.items
same_typed None old new is = ap (λ s. s.typed.items) is
same_typed (Some source) old new is = ap (λ t. t.items) is.1

same_steps : (source : Option SourceText) (old new : Seen) → IsShownSeen source old new → new.outcome.steps ≡ old.outcome.steps
same_steps None old new is = ap (λ s. s.outcome.steps) is
same_steps (Some source) old new is = ap (λ o. o.steps) is.0

pub shown_typed : (sources : List SourceText) (walk : KeptWalk) (n : ℕ) (there : Shown) → IsShownAt sources walk n there → there.seen.typed.items ≡ (meant (base walk) walk.text n).typed
shown_typed sources walk n there is = same_typed (slice_get sources there.number) is.0 there.seen is.3 ∙ is.1.typed

pub shown_steps : (sources : List SourceText) (walk : KeptWalk) (n : ℕ) (there : Shown) → IsShownAt sources walk n there → there.seen.outcome.steps ≡ (meant (base walk) walk.text n).steps
shown_steps sources walk n there is = same_steps (slice_get sources there.number) is.0 there.seen is.3 ∙ is.1.steps

-- the source of a number, as it is read
pub source_there : (sources : List SourceText) (source : SourceText) (number : ℕ) → true ≡ nat_lt number (length sources) → source ≡ get_or sources number source
    → slice_get sources number ≡ Some source
source_there sources source number within is = slice_get_read sources (length sources) number source refl (ltb-true number (length sources) (sym within)) is

-- there is none
pub no_source : (sources : List SourceText) (number : ℕ) → false ≡ nat_lt number (length sources) → slice_get sources number ≡ None
no_source sources number past = slice_get_past sources number (ltb-false number (length sources) (sym past))

-- the last of some calls, with its place as that is shown
pub last_shown : (source : SourceText) (calls : List Call) (n : ℕ) (call read : Call) (at : ℕ) → length calls ≡ n + 1 → call ≡ get_or calls n call → read ≡ get_or calls n read
    → at ≡ shown_place source read.at → slice_set calls n (record call { at = at }) ≡ outermost_shown source calls
last_shown source [] n call read at len is same shown = absurd (omega (arith, len))
last_shown source (c ∷ []) zero call read at len is same shown =
    let there : at ≡ shown_place source c.at = shown ∙ ap (λ (k : Call). shown_place source k.at) same in
    ap (λ (k : Call). record k { at = at } ∷ []) is ∙ ap (λ (a : ℕ). record c { at = a } ∷ []) there
last_shown source (c ∷ []) (suc n) call read at len is same shown = absurd (omega (arith, len))
last_shown source (c ∷ d ∷ cs) zero call read at len is same shown = absurd (omega (arith, len))
last_shown source (c ∷ d ∷ cs) (suc n) call read at len is same shown =
    ap (λ (rest : List Call). c ∷ rest) (last_shown source (d ∷ cs) n call read at (omega (arith, len)) is same shown)

pub at_else : (b : Bool) (x y : ℕ) → b ≡ false → y ≡ (if b then x else y)
at_else true x y e = absurd (true≢false e)
at_else false x y e = refl

pub not_none : (n m : ℕ) → n ≡ m → (n ≡ 0 → ⊥) → (m == 0) ≡ false
not_none n m is some = go (m == 0) refl
  where
    go : (b : Bool) → (m == 0) ≡ b → (m == 0) ≡ false
    go true e = absurd (some (is ∙ eqb-true m 0 e))
    go false e = e

pub positive : (n : ℕ) → (n ≡ 0 → ⊥) → 0 < n
positive zero some = absurd (some refl)
positive (suc n) some = omega arith
