-- The strings of a session that a file keeps.
use Rattle.std.proofs.Common.{◌≡◌, ◌∙◌, ◌-◌, ◌++◌, ℕ, List, [], ◌∷◌, length, take, drop, Option, None, Result, Ok, Err, refl, ap, subst, arith}
use Rattle.std.specs.Prelude.{IfErr}
use Rattle.teco_session.specs.History.{History, note_at}
use Rattle.teco_journal.specs.Events.{Event, ran, undid, redid, cut, forgot}
use Rattle.teco_journal.specs.Files.{Holds}
use Rattle.teco_journal.specs.Heads.{Beginning, file_of, first_check}
use Rattle.teco_journal.specs.Lines.{check_after}
use Rattle.teco_journal.specs.Reading.{EndsAs}
use Rattle.teco_journal.specs.declared.reader.Ending.{Ending as JournalEnding}
use Rattle.teco_replay.specs.Told.{after_event, after_events}
use Rattle.teco_replay.proofs.Firsts.{first_without_depth}
use Rattle.teco_debugger.specs.Kept.{HasRecordsTo, IsWalkAt, begun_by, cursor_at, history_before, whole_history}
use Rattle.teco_debugger.specs.Walk.{KeptWalk}
use Rattle.teco_fs.specs.Disk.{Files}
use Rattle.teco_fs.specs.Reading.{IsInput}
use Rattle.teco_fs.specs.Seen.{DiskSeen}
use Rattle.teco_debugger.specs.Kept.{LacksSession, LacksWalk}
use Rattle.teco_debugger.specs.declared.ending.Ending.{Ending}
use Rattle.teco_debugger.specs.declared.ending.Ending.TheVariants.{Caret, Done, NoString, NoText, NoInput, NoMemory, ReadFault, ShowFault}
use Rattle.teco_debugger.proofs.Lengths.{rest_length}

-- a session that is run again begins as its file says, and keeps every string
pub told_first : (beginning : Beginning) (events : List Event) → (whole_history beginning events).first ≡ begun_by beginning
told_first beginning events = first_without_depth (begun_by beginning) events

depth_stays : (h : History) (events : List Event) → h.depth ≡ None → (after_events h events).depth ≡ None
unfolding after_events
depth_stays h [] none = none
depth_stays h (e ∷ events) none = depth_stays (after_event h e) events (one e)
  where
    one : (e : Event) → (after_event h e).depth ≡ None
    one (ran steps text) = none
    one undid = none
    one redid = none
    one (cut n) = none
    one forgot = none

pub told_depth : (beginning : Beginning) (events : List Event) → (whole_history beginning events).depth ≡ None
told_depth beginning events = depth_stays (history_before beginning) events refl

-- what was read of a file
pub has_lines_to : (bytes check : List ℕ) (beginning : Beginning) (events : List Event) (good : ℕ) (ending : JournalEnding)
    → Holds bytes beginning events → bytes ≡ file_of beginning events ++ drop good bytes → good ≡ length (file_of beginning events)
    → check ≡ check_after (first_check beginning) events → EndsAs check (drop good bytes) ending
    → HasRecordsTo beginning events (length bytes - good) ending bytes
has_lines_to bytes check beginning events good ending holds front size last ends =
    let all = rest_length bytes beginning events good front size in record {
      holds = holds;
      rest = drop good bytes;
      front = front;
      ends = subst (λ c. EndsAs c (drop good bytes) ending) last ends;
      count = omega (arith, all);
    }

-- the walk over the string at a place of a history, whose cursor went there
pub walk_is : (h : History) (i k : ℕ) (there : History) (walk : KeptWalk) → there ≡ cursor_at h k → k ≡ i
    → walk.first ≡ there.first → walk.before ≡ take there.cursor there.notes → walk.text ≡ (note_at h i).text → walk.steps ≡ 0 → IsWalkAt h i walk
walk_is h i k there walk is at first before text steps = record {
  first = first ∙ ap (λ (x : History). x.first) is;
  before = before ∙ ap (λ (x : History). take x.cursor x.notes) is ∙ ap (λ n. take n h.notes) at;
  text = text;
  steps = steps;
}

-- why bytes that were read have no such string is why the file has none
pub lacks_session : {A I : Type 0} (files : Option Files) (new : DiskSeen I) (name bytes : List ℕ) (number : Option ℕ) (r : Result A Ending) → IsInput files name bytes
    → IfErr r (LacksWalk bytes number) → IfErr r (LacksSession files new name number)
lacks_session files new name bytes number (Ok x) had h = tt
lacks_session files new name bytes number (Err (NoString fault)) had h = (bytes, had, h)
lacks_session files new name bytes number (Err NoMemory) had h = (bytes, had, h)
lacks_session files new name bytes number (Err (NoText n fault)) had h = absurd h
lacks_session files new name bytes number (Err (NoInput fault)) had h = absurd h
lacks_session files new name bytes number (Err (Caret n spot)) had h = absurd h
lacks_session files new name bytes number (Err Done) had h = absurd h
lacks_session files new name bytes number (Err ReadFault) had h = absurd h
lacks_session files new name bytes number (Err ShowFault) had h = absurd h
