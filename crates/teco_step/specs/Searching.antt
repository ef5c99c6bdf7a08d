-- Searches.
use Rattle.std.specs.Prelude.{ℕ, ◌+◌, ◌-◌, Bool, true, false, ◌&&◌, ◌||◌, List, [], length, Option, None, Some, unwrap_or, Result, Ok, Err, ℤ, pos, zero, nat_le, ◌==◌, if◌then◌else◌}
use Rattle.teco_core.specs.declared.code.Code.{Code}
use Rattle.teco_core.specs.declared.code.Code.TheVariants.{Big, Isa, Iss, Srh}
use Rattle.teco_core.specs.declared.limits.TheConstants.{TEXT_LIMIT}
use Rattle.teco_core.specs.Refusal.{◌>>=◌}
use Rattle.teco_core.specs.Number.{truth}
use Rattle.teco_core.specs.Arguments.{Arguments, no_arguments}
use Rattle.teco_search.specs.Occurrence.{Sought, Span, looked_for, match_end, occurrence}
use Rattle.teco_search.specs.Reading.{read}
use Rattle.teco_store.specs.Search.{length_of, noted, note_load, replaced_noted}
use Rattle.teco_store.specs.State.{State}
use Rattle.teco_step.specs.Editing.{with_text_in_limit}
use Rattle.teco_step.specs.Step.{Attempt, End, Range, Setting, alone, on, rising, stop, takes_none, takes_one_or}

-- An empty text means the last one;
abbrev pub text_or_last : List ℕ → State → List ℕ
text_or_last text s = if length text == 0 then unwrap_or s.last_search [] else text

-- where there is none either, it is ISS.
abbrev pub some_text : List ℕ → Result (List ℕ) Code
some_text text = if length text == 0 then Err Iss else Ok text

-- what a search looks for, in the case mode of the state; a text that spells nothing is ICE
abbrev pub sought : List ℕ → State → Result Sought Code
sought text s = do
  some ← some_text (text_or_last text s)
  elements ← read some
  Ok (looked_for s.case_mode elements)

-- No search is made for no occurrence.
abbrev pub not_none : ℤ → Result ℤ Code
not_none (pos zero) = Err Isa
not_none n = Ok n

abbrev pub takes_count : Arguments → Result ℤ Code
takes_count a = do
  n ← takes_one_or (pos 1) a
  not_none n

-- the nth occurrence from the pointer, backward for a negative n; the first where there is no n
abbrev pub found : List ℕ → State → Arguments → Result (Option Span) Code
found text s a = do
  n ← takes_count a
  w ← sought text s
  Ok (occurrence w s.text s.pointer n)

-- A text is noted, but for an empty one, which leaves the last one.
abbrev pub noted_text : List ℕ → Option (List ℕ)
noted_text text = if length text == 0 then None else Some text

-- A state whose last search text is within its limit; else BIG.
abbrev pub with_search_in_limit : State → Result State Code
with_search_in_limit s = if nat_le (length_of s.last_search) TEXT_LIMIT then Ok s else Err Big

-- the result as a value
abbrev pub answer : Bool → Arguments
answer is_found = alone (truth is_found)

-- With a colon a search gives its result.
abbrev pub answers : Setting → Bool → Arguments
answers w is_found = if w.modifiers.colons == 1 then answer is_found else no_arguments

-- The text and the result are noted, and the pointer put at a place.
abbrev pub notes : List ℕ → Bool → ℕ → Arguments → End → State → Attempt
notes text is_found place a end s = do
  t ← with_search_in_limit (noted s (noted_text text) is_found place)
  Ok (record { state = t; arguments = a; typed = []; load = note_load s (noted_text text); end = end })

-- A failed search is SRH; but not with a colon, nor in an iteration where a plain ; comes next.
abbrev pub end_failed : Setting → End
end_failed w = if w.modifiers.colons == 1 || (w.inside && w.before) then on else stop Srh

-- A failed search leaves the pointer at 0.
abbrev pub fails : List ℕ → Setting → State → Arguments → Attempt
fails text w s a = notes text false 0 (answers w false) (end_failed w) s

-- A search that found puts the pointer at this place, which is after what it found.
abbrev pub succeeds : List ℕ → Setting → ℕ → State → Attempt
succeeds text w place s = notes text true place (answers w true) on s

-- What a search leaves, by what it found.
abbrev pub searched : List ℕ → Setting → Option Span → State → Arguments → Attempt
searched text w None s a = fails text w s a
searched text w (Some m) s a = succeeds text w m.1 s

-- nS: looks for the nth occurrence of the text.
abbrev pub search : List ℕ → Setting → State → Arguments → Attempt
search text w s a = do
  m ← found text s a
  searched text w m s a

-- The pointer goes after a match that is there; else it stays.
abbrev pub compared : List ℕ → Option ℕ → State → Attempt
compared text None s = notes text false s.pointer (answer false) on s
compared text (Some end) s = notes text true end (answer true) on s

-- where the text ends that is at the pointer, if it is there
abbrev pub matched : List ℕ → State → Result (Option ℕ) Code
matched text s = do
  w ← sought text s
  Ok (match_end w.mode w.elements s.text s.pointer)

-- ::S: whether the text is at the pointer.
abbrev pub compare : List ℕ → State → Arguments → Attempt
compare text s a = do
  none ← takes_none a
  end ← matched text s
  compared text end s

-- S, and with two colons ::S
abbrev pub search_or_compare : List ℕ → Setting → State → Arguments → Attempt
search_or_compare text w s a = if w.modifiers.colons == 2 then compare text s a else search text w s a

-- The text was found and is noted. The bytes come in for those from one place to another, and the pointer goes after them.
abbrev pub replaces : List ℕ → List ℕ → Arguments → ℕ → ℕ → State → Attempt
replaces text bytes a from to s = do
  t ← with_text_in_limit (replaced_noted s (noted_text text) from (to - from) bytes)
  u ← with_search_in_limit t
  Ok (record {
    state = u;
    arguments = a;
    typed = [];
    load = note_load s (noted_text text) + ((to - from) + length bytes);
    end = on;
  })

abbrev pub replaced_or_not : List ℕ → List ℕ → Setting → Option Span → State → Arguments → Attempt
replaced_or_not text bytes w None s a = fails text w s a
replaced_or_not text bytes w (Some m) s a = replaces text bytes (answers w true) m.0 m.1 s

-- nFS: looks for the nth occurrence of the text, and puts the bytes in its place.
abbrev pub search_and_replace : List ℕ → List ℕ → Setting → State → Arguments → Attempt
search_and_replace text bytes w s a = do
  m ← found text s a
  replaced_or_not text bytes w m s a

-- The bytes come in for a match at the pointer that is there; else the pointer stays.
abbrev pub compared_and_replaced : List ℕ → List ℕ → Option ℕ → State → Attempt
compared_and_replaced text bytes None s = compared text None s
compared_and_replaced text bytes (Some end) s = replaces text bytes (answer true) s.pointer end s

-- ::FS: whether the text is at the pointer, where the bytes then come in for it.
abbrev pub compare_and_replace : List ℕ → List ℕ → State → Arguments → Attempt
compare_and_replace text bytes s a = do
  none ← takes_none a
  end ← matched text s
  compared_and_replaced text bytes end s

-- FS, and with two colons ::FS
abbrev pub replace : List ℕ → List ℕ → Setting → State → Arguments → Attempt
replace text bytes w s a = if w.modifiers.colons == 2 then compare_and_replace text bytes s a
    else search_and_replace text bytes w s a

-- What lies between the pointer and the end of what was found is deleted.
abbrev pub killed_or_not : List ℕ → Setting → Option Span → State → Arguments → Attempt
killed_or_not text w None s a = fails text w s a
killed_or_not text w (Some m) s a = let r = rising s.pointer m.1 in
    replaces text [] (answers w true) r.low r.high s

-- nFK: looks for the nth occurrence of the text, and deletes what lies up to its end.
abbrev pub search_and_kill : List ℕ → Setting → State → Arguments → Attempt
search_and_kill text w s a = do
  m ← found text s a
  killed_or_not text w m s a
