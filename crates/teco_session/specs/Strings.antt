-- Strings as they are kept: each with its text, its steps and its changes.
use Rattle.std.specs.Prelude.{ℕ, ◌-◌, ◌≤◌, List, [], length, drop, slice_index_or, Bool, false, ◌==◌, Option, Some, None}
use Rattle.teco_store.specs.State.{Body}
use Rattle.teco_store.specs.Turn.{Note as Change}
use Rattle.teco_undo.specs.Entry.{notes_back, notes_forth, before}

-- A string that has begun: its text, the steps that it took, and its changes. They are to be turned back
-- where the string is done, and forth where it is undone.
pub record KeptString : Type 0 where
  pub text : List ℕ
  pub steps : ℕ
  pub changes : List Change

-- a string with its changes turned back, and forth
abbrev pub string_back : KeptString → Body → KeptString
string_back x b = record { text = x.text; steps = x.steps; changes = notes_back x.changes b }

abbrev pub string_forth : KeptString → Body → KeptString
string_forth x b = record { text = x.text; steps = x.steps; changes = notes_forth x.changes b }

-- a string with its first `n` steps alone
abbrev pub string_cut : ℕ → KeptString → KeptString
string_cut n x = record { text = x.text; steps = n; changes = before n x.changes }

-- the string at a place
abbrev pub entry_at : List KeptString → ℕ → KeptString
entry_at strings i = slice_index_or strings i (record { text = []; steps = 0; changes = [] })

-- no more strings than the depth
abbrev pub IsWithinDepth : Option ℕ → ℕ → Type 0
IsWithinDepth None n = Unit {0}
IsWithinDepth (Some depth) n = n ≤ depth

-- whether no string is kept, and none can be undone
abbrev pub keeps_none : Option ℕ → Bool
keeps_none None = false
keeps_none (Some depth) = depth == 0

-- how many of so many strings are beyond a depth
abbrev pub beyond : Option ℕ → ℕ → ℕ
beyond None n = 0
beyond (Some depth) n = n - depth

-- the last strings, as many as a depth
abbrev pub newest : Option ℕ → List KeptString → List KeptString
newest depth strings = drop (beyond depth (length strings)) strings
