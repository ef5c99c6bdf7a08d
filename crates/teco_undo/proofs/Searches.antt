-- What is noted of the text of a search.
use Rattle.std.proofs.Common.{◌≡◌, ◌+◌, ℕ, Bool, true, false, List, length, Option, Some, None, refl}
use Rattle.std.specs.Prelude.{if◌then◌else◌}
use Rattle.teco_store.specs.Search.{fresh, fresh_load, is_last, length_of, note_load}
use Rattle.teco_store.specs.State.{State}

by_test : (last : Option (List ℕ)) (text : List ℕ) (again : Bool)
    → fresh_load last (if again then None else Some text) ≡ (if again then 0 else length_of last + length text)
by_test last text true = refl
by_test last text false = refl

fresh_load_is : (s : State) (text : Option (List ℕ)) → fresh_load s.last_search (fresh s.last_search text) ≡ note_load s text
fresh_load_is s None = refl
fresh_load_is s (Some text) = by_test s.last_search text (is_last s.last_search text)

pub fresh_load_noted : (s : State) (text last new : Option (List ℕ)) → last ≡ s.last_search → new ≡ fresh s.last_search text → fresh_load last new ≡ note_load s text
fresh_load_noted s text last new e f = rw (e, f) (fresh_load_is s text)
