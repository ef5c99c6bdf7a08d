-- What a search finds lies in the text.
use Rattle.std.proofs.Common.{◌≡◌, subst, ap, refl, ℕ, zero, suc, ◌<◌, ◌≤◌, Bool, true, false, cond, List, [], ◌∷◌, length, Some, Result, Ok, Err, slice_get, ℤ, pos, negsuc, arith}
use Rattle.std.specs.Prelude.{◌↔◌, ◌==◌}
use Rattle.teco_core.specs.declared.code.Code.{Code}
use Rattle.teco_core.specs.declared.code.Code.TheVariants.{Iss}
use Rattle.teco_core.specs.Refusal.{◌>>=◌}
use Rattle.teco_core.specs.Arguments.{Arguments}
use Rattle.teco_search.specs.declared.element.Element.{Element}
use Rattle.teco_search.specs.Law.{AreBackward, AreBackwardEndingBy, AreForward, MatchesAreLong, MatchesTo}
use Rattle.teco_search.specs.Occurrence.{Sought, Span, backward, forward, looked_for, match_end, occurrence}
use Rattle.teco_search.specs.Reading.{read}
use Rattle.teco_search.specs.Spelling.{Spells, nothing, next}
use Rattle.teco_store.specs.State.{State}
use Rattle.teco_step.specs.Searching.{found, matched, sought, takes_count, text_or_last}

-- One of a list of occurrences is a match.
nth_forward : (q : Sought) (text : List ℕ) (from : ℕ) (ms : List Span) (n : ℕ) (m : Span) → AreForward q text from ms → slice_get ms n ≡ Some m → MatchesTo q text m.0 m.1
unfolding AreForward
nth_forward q text from [] n m h e = absurd cc
nth_forward q text from (x ∷ ms) zero m h e = let here : x ≡ m = cc in subst (λ (o : Span). MatchesTo q text o.0 o.1) here h.0.matches
nth_forward q text from (x ∷ ms) (suc n) m h e = nth_forward q text x.1 ms n m h.1 e

nth_ending_by : (q : Sought) (text : List ℕ) (to : ℕ) (ms : List Span) (n : ℕ) (m : Span) → AreBackwardEndingBy q text to ms → slice_get ms n ≡ Some m → MatchesTo q text m.0 m.1
unfolding AreBackwardEndingBy
nth_ending_by q text to [] n m h e = absurd cc
nth_ending_by q text to (x ∷ ms) zero m h e = let here : x ≡ m = cc in subst (λ (o : Span). MatchesTo q text o.0 o.1) here h.0.matches
nth_ending_by q text to (x ∷ ms) (suc n) m h e = nth_ending_by q text x.0 ms n m h.1 e

nth_backward : (q : Sought) (text : List ℕ) (from : ℕ) (ms : List Span) (n : ℕ) (m : Span) → AreBackward q text from ms → slice_get ms n ≡ Some m → MatchesTo q text m.0 m.1
unfolding AreBackward
nth_backward q text from [] n m h e = absurd cc
nth_backward q text from (x ∷ ms) zero m h e = let here : x ≡ m = cc in subst (λ (o : Span). MatchesTo q text o.0 o.1) here h.0.matches
nth_backward q text from (x ∷ ms) (suc n) m h e = nth_ending_by q text x.0 ms n m h.1 e

-- what spells no elements has no bytes
spells_nothing : (text : List ℕ) (es : List Element) → Spells text es → es ≡ [] → text ≡ []
spells_nothing _ _ nothing e = refl
spells_nothing _ _ (next t u i es one rest) e = absurd cc

-- from the start of what was found to its end, in the text
abbrev pub Lies : State → Span → Type 0
Lies s m = (m.0 ≤ m.1) × (m.1 ≤ length s.text)

-- The laws of teco_search.
abbrev pub Long : Type 0
Long = (q : Sought) (text : List ℕ) → 0 < length q.elements → MatchesAreLong q text

abbrev pub Forward : Type 0
Forward = (q : Sought) (text : List ℕ) (from : ℕ) (ms : List Span) → 0 < length q.elements → AreForward q text from ms ↔ (ms ≡ forward q text from)

abbrev pub Backward : Type 0
Backward = (q : Sought) (text : List ℕ) (from : ℕ) (ms : List Span) → 0 < length q.elements → AreBackward q text from ms ↔ (ms ≡ backward q text from)

abbrev pub Spelled : Type 0
Spelled = (text : List ℕ) (es : List Element) → (read text ≡ Ok es) ↔ Spells text es

module _ (long : Long) (is_forward : Forward) (is_backward : Backward) (spelled : Spelled) where
  matches : (q : Sought) (text : List ℕ) (from : ℕ) (n : ℤ) (m : Span) → 0 < length q.elements → occurrence q text from n ≡ Some m → MatchesTo q text m.0 m.1
  unfolding occurrence
  matches q text from (pos zero) m some e = absurd cc
  matches q text from (pos (suc n)) m some e = nth_forward q text from (forward q text from) n m ((is_forward q text from (forward q text from) some).1 refl) e
  matches q text from (negsuc n) m some e = nth_backward q text from (backward q text from) n m ((is_backward q text from (backward q text from) some).1 refl) e

  occurrence_lies : (q : Sought) (s : State) (n : ℤ) (m : Span) → 0 < length q.elements → occurrence q s.text s.pointer n ≡ Some m → Lies s m
  occurrence_lies q s n m some e =
      let h : (m.0 < m.1) × (m.1 ≤ length s.text) = long q s.text some m.0 m.1 (matches q s.text s.pointer n m some e) in
      (omega arith, h.1)

  -- A text with a byte spells an element.
  some_read : (text : List ℕ) (es : List Element) → (length text == 0) ≡ false → read text ≡ Ok es → 0 < length es
  some_read text [] has e =
      let none : text ≡ [] = spells_nothing text [] ((spelled text []).0 e) refl in
      let zero_long : (length text == 0) ≡ true = ap (λ (t : List ℕ). length t == 0) none in
      absurd cc
  some_read text (x ∷ es) has e = omega arith

  some_sought_by : (s : State) (text : List ℕ) (b : Bool) (q : Sought) → (length text == 0) ≡ b
      → (cond b (Err Iss) (Ok text) >>= (λ some. read some >>= (λ es. Ok (looked_for s.case_mode es)))) ≡ Ok q → 0 < length q.elements
  some_sought_by s text true q has e = absurd cc
  some_sought_by s text false q has e = some_looked_for s text (read text) q refl has e
    where
      some_looked_for : (s : State) (text : List ℕ) (r : Result (List Element) Code) (q : Sought) → read text ≡ r → (length text == 0) ≡ false
          → (r >>= (λ es. Ok (looked_for s.case_mode es))) ≡ Ok q → 0 < length q.elements
      some_looked_for s text (Ok es) q is has e = let same : looked_for s.case_mode es ≡ q = cc in subst (λ (p : Sought). 0 < length p.elements) same (some_read text es has is)
      some_looked_for s text (Err c) q is has e = absurd cc

  some_sought : (text : List ℕ) (s : State) (q : Sought) → sought text s ≡ Ok q → 0 < length q.elements
  some_sought text s q e = some_sought_by s (text_or_last text s) (length (text_or_last text s) == 0) q refl e

  found_by : (s : State) (x : Result ℤ Code) (y : Result Sought Code) (m : Span) → ((q : Sought) → y ≡ Ok q → 0 < length q.elements)
      → (x >>= (λ n. y >>= (λ q. Ok (occurrence q s.text s.pointer n)))) ≡ Ok (Some m) → Lies s m
  found_by s (Ok n) (Ok q) m some e = let is : occurrence q s.text s.pointer n ≡ Some m = cc in occurrence_lies q s n m (some q refl) is
  found_by s (Ok n) (Err c) m some e = absurd cc
  found_by s (Err c) y m some e = absurd cc

  pub found_lies : (text : List ℕ) (s : State) (a : Arguments) (m : Span) → found text s a ≡ Ok (Some m) → Lies s m
  found_lies text s a m e = found_by s (takes_count a) (sought text s) m (λ q is. some_sought text s q is) e

  matched_by : (s : State) (y : Result Sought Code) (end : ℕ) → ((q : Sought) → y ≡ Ok q → 0 < length q.elements)
      → (y >>= (λ q. Ok (match_end q.mode q.elements s.text s.pointer))) ≡ Ok (Some end) → Lies s (s.pointer, end)
  matched_by s (Ok q) end some e =
      let is : match_end q.mode q.elements s.text s.pointer ≡ Some end = cc in
      let h : (s.pointer < end) × (end ≤ length s.text) = long q s.text (some q refl) s.pointer end is in
      (omega (arith, h.0), h.1)
  matched_by s (Err c) end some e = absurd cc

  pub matched_lies : (text : List ℕ) (s : State) (end : ℕ) → matched text s ≡ Ok (Some end) → Lies s (s.pointer, end)
  matched_lies text s end e = matched_by s (sought text s) end (λ q is. some_sought text s q is) e
