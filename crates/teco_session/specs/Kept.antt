-- A session as it is kept: one editor, and of each string the changes that lead from one side of it to the
-- other.
use Rattle.std.specs.Prelude.{ℕ, ◌+◌, ◌-◌, ◌*◌, ◌≤◌, List, [], ◌∷◌, ◌++◌, length, take, drop, min, reverse, slice_index_or, Option}
use Rattle.std.proofs.Common.{set}
use Rattle.teco_store.specs.State.{State, Body, Full, IsSound, state_at, new_paged_full, with_body}
use Rattle.teco_undo.specs.Follows.{HasCome}
use Rattle.teco_store.specs.Trail.{most_changes}
use Rattle.teco_store.specs.Turn.{Note as Change}
use Rattle.teco_undo.specs.Entry.{body_back, notes_back, body_forth, notes_forth, FitsForth, before, since, held_in}
use Rattle.teco_exec.specs.Runs.{trail_of}
use Rattle.teco_exec.specs.StringMeaning.{string_meaning}
use Rattle.teco_session.specs.Strings.{KeptString, string_back, string_forth, string_cut, entry_at}
use Rattle.teco_session.specs.History.{History, NotedString, IsHistory}

-- one editor, the strings in order, how many of them are done, and how many are kept, if there is a bound
pub record KeptSession : Type 0 where
  pub editor : Full
  pub strings : List KeptString
  pub cursor : ℕ
  pub depth : Option ℕ

-- no string yet, over this editor
abbrev pub session_over : Option ℕ → Full → KeptSession
session_over depth editor = record {
  editor = editor;
  strings = [];
  cursor = 0;
  depth = depth;
}

-- the beginning, with this input and pages of so many lines
abbrev pub new_paged_session : ℕ → Option ℕ → List ℕ → KeptSession
new_paged_session lines depth input = session_over depth (new_paged_full lines input)

abbrev pub new_session : Option ℕ → List ℕ → KeptSession
new_session depth input = new_paged_session 0 depth input

-- the strings that are done, the last first, and those that are undone, the first first
abbrev pub done_strings : KeptSession → List KeptString
done_strings s = reverse (take s.cursor s.strings)

abbrev pub undone_strings : KeptSession → List KeptString
undone_strings s = drop s.cursor s.strings

-- a string as the history has it, with the state after it
abbrev pub noted_as : KeptString → State → NotedString
noted_as x s = record { text = x.text; steps = x.steps; state = s }

-- the body before these strings were done, the last first
abbrev pub first_body : List KeptString → Body → Body
first_body [] b = b
first_body (x ∷ xs) b = first_body xs (body_back x.changes b)

-- what the history has of strings that are done, the last first, and then these notes
abbrev pub done_notes : List ℕ → List KeptString → Body → List NotedString → List NotedString
done_notes stored [] b notes = notes
done_notes stored (x ∷ xs) b notes =
    done_notes stored xs (body_back x.changes b) (noted_as x (state_at stored b) ∷ notes)

-- and of those that are undone, the first first
abbrev pub undone_notes : List ℕ → List KeptString → Body → List NotedString
undone_notes stored [] b = []
undone_notes stored (x ∷ xs) b =
    noted_as x (state_at stored (body_forth x.changes b)) ∷ undone_notes stored xs (body_forth x.changes b)

-- The history has every whole state. Each is what the editor comes to where changes are turned.
abbrev pub history_of : KeptSession → History
history_of s = record {
  first = state_at s.editor.stored (first_body (done_strings s) s.editor.body);
  notes = done_notes s.editor.stored (done_strings s) s.editor.body
      (undone_notes s.editor.stored (undone_strings s) s.editor.body);
  cursor = s.cursor;
  depth = s.depth;
}

-- A string that is done at an editor has come there by the steps of its meaning, from the state before it:
-- its changes fit, and lead back to the state after each step; they are no more than its steps may make, and
-- what they hold is within the load.
abbrev pub HasRun : Full → KeptString → Type 0
HasRun f x = HasCome f x.changes x.steps
    (trail_of (state_at f.stored (body_back x.changes f.body)) x.text 0 x.steps)

-- an editor of this body
abbrev pub editor_at : ℕ → List ℕ → Body → Full
editor_at room stored b = record { body = b; stored = stored; room = room }

-- Each string that is done has run to where it would be turned back.
abbrev pub LeadBack : ℕ → List ℕ → List KeptString → Body → Type 0
LeadBack room stored [] b = Unit {0}
LeadBack room stored (x ∷ xs) b = HasRun (editor_at room stored b) x
    × LeadBack room stored xs (body_back x.changes b)

-- Each that is undone fits where it would be turned forth, and has run there once that is done.
abbrev pub LeadForth : ℕ → List ℕ → List KeptString → Body → Type 0
LeadForth room stored [] b = Unit {0}
LeadForth room stored (x ∷ xs) b =
    (FitsForth room (length stored) x.changes b
    × HasRun (editor_at room stored (body_forth x.changes b)) (string_forth x b))
    × LeadForth room stored xs (body_forth x.changes b)

-- The strings on both sides of the cursor lead from the editor through every state of a history.
pub record IsSession (s : KeptSession) : Type 0 where
  pub within : s.cursor ≤ length s.strings
  pub sound : IsSound s.editor.room (length s.editor.stored) s.editor.body
  pub back : LeadBack s.editor.room s.editor.stored (done_strings s) s.editor.body
  pub forth : LeadForth s.editor.room s.editor.stored (undone_strings s) s.editor.body
  pub history : IsHistory (history_of s)

-- the string at a place
abbrev pub string_at : KeptSession → ℕ → KeptString
string_at s i = entry_at s.strings i

-- An undo turns the last string that is done back, and keeps what would do it again. A redo turns the first
-- undone one forth.
abbrev pub turned_back : KeptSession → KeptString → ℕ → KeptSession
turned_back s x i = record {
  editor = with_body s.editor (body_back x.changes s.editor.body);
  strings = set s.strings i (string_back x s.editor.body);
  cursor = i;
  depth = s.depth;
}

abbrev pub turned_forth : KeptSession → KeptString → ℕ → KeptSession
turned_forth s x i = record {
  editor = with_body s.editor (body_forth x.changes s.editor.body);
  strings = set s.strings i (string_forth x s.editor.body);
  cursor = i + 1;
  depth = s.depth;
}

abbrev pub reverted : KeptSession → KeptSession
reverted s = turned_back s (string_at s (s.cursor - 1)) (s.cursor - 1)

abbrev pub applied : KeptSession → KeptSession
applied s = turned_forth s (string_at s s.cursor) s.cursor

-- The undone strings are dropped, and the editor stays.
abbrev pub forgotten : KeptSession → KeptSession
forgotten s = record s { strings = take s.cursor s.strings }

-- A rewind turns the changes after the first steps of the last string that is done back, and drops them and
-- the undone strings.
abbrev pub cut_back : KeptSession → KeptString → ℕ → ℕ → KeptSession
cut_back s x i n = record {
  editor = with_body s.editor (body_back (since n x.changes) s.editor.body);
  strings = take i s.strings ++ string_cut n x ∷ [];
  cursor = s.cursor;
  depth = s.depth;
}

abbrev pub cut_to : ℕ → KeptSession → KeptSession
cut_to n s =
    let x : KeptString = string_at s (s.cursor - 1) in
    cut_back s x (s.cursor - 1) (min n x.steps)

-- An entry has no more changes than the steps of its string may make, and they hold no more bytes than the
-- string moves from this state.
pub record IsSmall (x : KeptString) (s : State) : Type 0 where
  pub changes : length x.changes ≤ most_changes * x.steps
  pub held : held_in x.changes ≤ (string_meaning s x.text x.steps).load
