-- How a search ends: it goes on or fails, or has a further step where it may; and it leaves the session as done as it was.
use Rattle.std.proofs.Common.{◌≡◌, ◌⊎◌, inl, inr, refl, ℕ, ◌-◌, min, max, List, [], length, Option, None, Some, Result, Ok, Err, Bool, true, false, cond}
use Rattle.std.specs.Prelude.{nat_le}
use Rattle.teco_core.specs.declared.code.Code.{Code}
use Rattle.teco_core.specs.declared.code.Code.TheVariants.{Big, Srh}
use Rattle.teco_core.specs.Refusal.{◌>>=◌}
use Rattle.teco_core.specs.Arguments.{Arguments}
use Rattle.teco_search.specs.Occurrence.{Span}
use Rattle.teco_store.specs.Search.{length_of, noted, replaced_noted}
use Rattle.teco_store.specs.State.{State}
use Rattle.teco_step.specs.Editing.{with_text_in_limit}
use Rattle.teco_core.specs.declared.limits.TheConstants.{TEXT_LIMIT}
use Rattle.teco_step.specs.Searching.{with_search_in_limit, notes, noted_text, answer, answers, end_failed, found, searched, search, matched, compared, compare, search_or_compare, replaces, replaced_or_not, search_and_replace, compared_and_replaced, compare_and_replace, replace, killed_or_not, search_and_kill}
use Rattle.teco_step.specs.declared.next.Setting.{Setting}
use Rattle.teco_step.specs.Step.{Attempt, End, on, again, stop, takes_none}
use Rattle.teco_step.specs.declared.next.Work.{Work}

-- by a further step only where it may have one
abbrev pub EndsSearch : Bool → End → Type 0
EndsSearch further end = (end ≡ on) ⊎ ((end ≡ stop Srh) ⊎ ((further ≡ true) × (work : Work) × (end ≡ again work)))

abbrev pub Searches : Bool → State → Attempt → Type 0
Searches further s (Ok step) = EndsSearch further step.end × (step.state.is_done ≡ s.is_done)
Searches further s (Err c) = Unit {0}

-- a state that is refused past its limit
abbrev pub KeepsDone : State → Result State Code → Type 0
KeepsDone s (Ok t) = t.is_done ≡ s.is_done
KeepsDone s (Err c) = Unit {0}

pub if_keeps : (s t : State) (within : Bool) → t.is_done ≡ s.is_done → KeepsDone s (cond within (Ok t) (Err Big))
if_keeps s t true h = h
if_keeps s t false h = tt

pub text_keeps : (s t : State) → t.is_done ≡ s.is_done → KeepsDone s (with_text_in_limit t)
text_keeps s t h = if_keeps s t (nat_le (length t.text) TEXT_LIMIT) h

search_keeps : (s t : State) → t.is_done ≡ s.is_done → KeepsDone s (with_search_in_limit t)
search_keeps s t h = if_keeps s t (nat_le (length_of t.last_search) TEXT_LIMIT) h

module _ (further : Bool) where
  -- one thing after another, and a choice
  pub then_searches : {A : Type 0} (s : State) (r : Result A Code) (f : A → Attempt) → ((x : A) → Searches further s (f x)) → Searches further s (r >>= f)
  then_searches s (Ok x) f h = h x
  then_searches s (Err c) f h = tt

  pub if_searches : (s : State) (b : Bool) (x y : Attempt) → Searches further s x → Searches further s y → Searches further s (cond b x y)
  if_searches s true x y p q = p
  if_searches s false x y p q = q

  on_or_fails : (b : Bool) → EndsSearch further (cond b on (stop Srh))
  on_or_fails true = inl refl
  on_or_fails false = inr (inl refl)

  pub state_searches : (s : State) (r : Result State Code) (f : State → Attempt) → KeepsDone s r → ((t : State) → t.is_done ≡ s.is_done → Searches further s (f t)) → Searches further s (r >>= f)
  state_searches s (Ok t) f keeps h = h t keeps
  state_searches s (Err c) f keeps h = tt

  pub notes_searches : (text : List ℕ) (is_found : Bool) (place : ℕ) (a : Arguments) (end : End) (s : State) → EndsSearch further end → Searches further s (notes text is_found place a end s)
  notes_searches text is_found place a end s h =
      let t : State = noted s (noted_text text) is_found place in
      state_searches s (with_search_in_limit t) _ (search_keeps s t refl) (λ u keeps. (h, keeps))

  pub searched_searches : (text : List ℕ) (w : Setting) (m : Option Span) (s : State) (a : Arguments) → Searches further s (searched text w m s a)
  searched_searches text w None s a = notes_searches text false 0 (answers w false) (end_failed w) s (on_or_fails _)
  searched_searches text w (Some m) s a = notes_searches text true m.1 (answers w true) on s (inl refl)

  compared_searches : (text : List ℕ) (end : Option ℕ) (s : State) → Searches further s (compared text end s)
  compared_searches text None s = notes_searches text false s.pointer (answer false) on s (inl refl)
  compared_searches text (Some end) s = notes_searches text true end (answer true) on s (inl refl)

  search_searches : (text : List ℕ) (w : Setting) (s : State) (a : Arguments) → Searches further s (search text w s a)
  search_searches text w s a = then_searches s (found text s a) _ (λ m. searched_searches text w m s a)

  compare_searches : (text : List ℕ) (s : State) (a : Arguments) → Searches further s (compare text s a)
  compare_searches text s a =
      then_searches s (takes_none a) _ (λ none. then_searches s (matched text s) _ (λ end. compared_searches text end s))

  pub searches : (text : List ℕ) (w : Setting) (s : State) (a : Arguments) → Searches further s (search_or_compare text w s a)
  searches text w s a = if_searches s _ (compare text s a) (search text w s a) (compare_searches text s a) (search_searches text w s a)

  replaces_searches : (text bytes : List ℕ) (a : Arguments) (from to : ℕ) (s : State) → Searches further s (replaces text bytes a from to s)
  replaces_searches text bytes a from to s =
      let t : State = replaced_noted s (noted_text text) from (to - from) bytes in
      state_searches s (with_text_in_limit t) _ (text_keeps s t refl)
      (λ u keeps. state_searches s (with_search_in_limit u) _ (search_keeps s u keeps) (λ v still. (inl refl, still)))

  replaced_or_not_searches : (text bytes : List ℕ) (w : Setting) (m : Option Span) (s : State) (a : Arguments) → Searches further s (replaced_or_not text bytes w m s a)
  replaced_or_not_searches text bytes w None s a = searched_searches text w None s a
  replaced_or_not_searches text bytes w (Some m) s a = replaces_searches text bytes (answers w true) m.0 m.1 s

  pub replacement_searches : (text bytes : List ℕ) (w : Setting) (s : State) (a : Arguments) → Searches further s (search_and_replace text bytes w s a)
  replacement_searches text bytes w s a = then_searches s (found text s a) _ (λ m. replaced_or_not_searches text bytes w m s a)

  compared_and_replaced_searches : (text bytes : List ℕ) (end : Option ℕ) (s : State) → Searches further s (compared_and_replaced text bytes end s)
  compared_and_replaced_searches text bytes None s = compared_searches text None s
  compared_and_replaced_searches text bytes (Some end) s = replaces_searches text bytes (answer true) s.pointer end s

  compare_and_replace_searches : (text bytes : List ℕ) (s : State) (a : Arguments) → Searches further s (compare_and_replace text bytes s a)
  compare_and_replace_searches text bytes s a =
      then_searches s (takes_none a) _ (λ none. then_searches s (matched text s) _ (λ end. compared_and_replaced_searches text bytes end s))

  pub replace_searches : (text bytes : List ℕ) (w : Setting) (s : State) (a : Arguments) → Searches further s (replace text bytes w s a)
  replace_searches text bytes w s a =
      if_searches s _ (compare_and_replace text bytes s a) (search_and_replace text bytes w s a) (compare_and_replace_searches text bytes s a) (replacement_searches text bytes w s a)

  killed_or_not_searches : (text : List ℕ) (w : Setting) (m : Option Span) (s : State) (a : Arguments) → Searches further s (killed_or_not text w m s a)
  killed_or_not_searches text w None s a = searched_searches text w None s a
  killed_or_not_searches text w (Some m) s a = replaces_searches text [] (answers w true) (min s.pointer m.1) (max s.pointer m.1) s

  pub kill_searches : (text : List ℕ) (w : Setting) (s : State) (a : Arguments) → Searches further s (search_and_kill text w s a)
  kill_searches text w s a = then_searches s (found text s a) _ (λ m. killed_or_not_searches text w m s a)
