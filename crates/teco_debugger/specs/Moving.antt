-- The moves of a walk, and where it stops on the way.
use Rattle.std.specs.Prelude.{◌≡◌, ◌⊎◌, ℕ, ◌≤◌, ◌<◌, ◌==◌, ◌&&◌, ◌||◌, Bool, true, false, List, [], ◌∷◌, ◌++◌, length, nat_le, nat_lt, slice_get, sum, if◌then◌else◌, Option, Some, None}
use Rattle.teco_exec.specs.Places.{IsVisit, stands_after}
use Rattle.teco_exec.specs.declared.place.Place.{Place}
use Rattle.teco_messages.specs.Spot.{spot_of}
use Rattle.teco_messages.specs.declared.spot.Spot.{Spot}
use Rattle.teco_debugger.specs.Testing.{is_met}
use Rattle.teco_debugger.specs.Walk.{KeptWalk, SameString, base, meant}
use Rattle.teco_debugger.specs.Showing.{step_at}
use Rattle.teco_debugger.specs.Sources.{IsShownAt, number_at, place_in_source, shown_string}
use Rattle.teco_debugger.specs.declared.sources.SourceText.{SourceText}
use Rattle.teco_debugger.specs.declared.sources.Shown.{Shown}
use Rattle.teco_debugger.specs.declared.debugger.Debugger.{Debugger}
use Rattle.teco_debugger.specs.declared.stops.Break.{Break}
use Rattle.teco_debugger.specs.declared.stops.Stop.{Stop}
use Rattle.teco_debugger.specs.declared.stops.Found.{Found}
use Rattle.teco_debugger.specs.declared.stops.Found.TheVariants.{At, Nowhere, TooFar}
use Rattle.teco_debugger.specs.declared.stops.TheConstants.{MOST_WORK}

-- The walk goes to the state after the first n steps of the string, or after all that it takes under a limit of n.
pub record Goes (n : ℕ) (old new : KeptWalk) : Type 0 where
  pub string : SameString old new
  pub back : n ≤ old.steps → new.steps ≡ n
  pub on : old.steps < n → new.steps ≡ (meant (base old) old.text n).steps

-- The string, its input and the limit are as they were.
pub record SameRun (old new : Debugger) : Type 0 where
  pub string : SameString old.walk new.walk
  pub limit : new.limit ≡ old.limit

-- The walk goes to a step, and the line of where it then stands is shown.
pub record Arrives (n : ℕ) (old new : Debugger) (shown : List ℕ) : Type 0 where
  pub goes : Goes n old.walk new.walk
  pub there : Shown
  pub there_is : IsShownAt new.sources.items new.walk new.walk.steps there
  pub shown_is : shown ≡ step_at new.sources.items new.walk there
  pub sources : new.sources ≡ old.sources
  pub limit : new.limit ≡ old.limit
  -- the places to stop at
  pub stops : new.stops ≡ old.stops
  -- the command that an empty line asks for
  pub again : new.again ≡ old.again

-- The same, as a move that can be taken back: where the walk stood is kept.
pub record MovesTo (n : ℕ) (old new : Debugger) (shown : List ℕ) : Type 0 where
  pub arrives : Arrives n old new shown
  pub kept : new.moves.items ≡ old.moves.items ++ old.walk.steps ∷ []

-- anywhere in this line, of any source
abbrev pub line_stop : ℕ → Stop
line_stop line = record { source = None; line = line; column = None }

-- the same, whatever the state there
abbrev pub line_break : ℕ → Break
line_break line = record { stop = line_stop line; test = None }

-- a number is the one that is wanted, if one is
abbrev pub is_or_any : Option ℕ → ℕ → Bool
is_or_any (Some wanted) n = n == wanted
is_or_any None n = true

-- a line and a column of the source of this number are the place to stop at
abbrev pub is_there : Stop → ℕ → Spot → Bool
is_there stop number here =
    is_or_any stop.source number && (here.line == stop.line && is_or_any stop.column here.column)

-- They are a place to stop at after n steps, and its string gives a number other than 0 there, if it has one.
abbrev pub is_break : KeptWalk → ℕ → Break → ℕ → Spot → Bool
is_break walk n it number here = is_there it.stop number here && is_met walk n it.test

-- they are one of these
abbrev pub is_one : KeptWalk → ℕ → List Break → ℕ → Spot → Bool
is_one walk n [] number here = false
is_one walk n (it ∷ stops) number here = if is_break walk n it number here then true else is_one walk n stops number here

-- the same, whatever their strings give
abbrev pub is_any_there : List Break → ℕ → Spot → Bool
is_any_there [] number here = false
is_any_there (it ∷ stops) number here = if is_there it.stop number here then true else is_any_there stops number here

-- a place of the source of this number has a line and a column of which this holds
abbrev pub is_spot : (ℕ → Spot → Bool) → ℕ → List ℕ → ℕ → Bool
is_spot holds number text place = nat_le place (length text) && holds number (spot_of text place)

-- a place of the string, where it is shown, has such ones
abbrev pub is_spot_shown : (ℕ → Spot → Bool) → List SourceText → List ℕ → ℕ → Bool
is_spot_shown holds sources text at =
    is_spot holds (number_at sources at) (shown_string sources (number_at sources at) text) (place_in_source (slice_get sources (number_at sources at)) at)

-- where a walk that goes on is to stop: at one of these places, with no call open, or with fewer calls open than so many
pub record Goal : Type 0 where
  pub stops : List Break
  pub calls : ℕ

abbrev pub goal : List Break → ℕ → Goal
goal stops calls = record { stops = stops; calls = calls }

-- with so many calls open, a place of the innermost text is one where it is to stop, by which spots are
abbrev pub is_goal_by : (ℕ → Spot → Bool) → List SourceText → List ℕ → ℕ → ℕ → ℕ → Bool
is_goal_by holds sources text below calls at = nat_lt calls below || (calls == 0 && is_spot_shown holds sources text at)

-- the same after n steps, by its places
abbrev pub is_goal : List SourceText → KeptWalk → Goal → ℕ → ℕ → ℕ → Bool
is_goal sources walk goal n = is_goal_by (is_one walk n goal.stops) sources walk.text goal.calls

-- the same, whatever their strings give
abbrev pub is_place : List SourceText → KeptWalk → Goal → ℕ → ℕ → Bool
is_place sources walk goal = is_goal_by (is_any_there goal.stops) sources walk.text goal.calls

-- how many calls are open there
abbrev pub calls_at : Place → ℕ
calls_at place = length place.calls.items

abbrev pub calls_of : Option Place → ℕ
calls_of (Some place) = calls_at place
calls_of None = 0

-- After n steps the run of the string stands where this holds, or doesn't: with so many calls open, at this place of the innermost text.
pub record StandsSo (walk : KeptWalk) (holds : ℕ → ℕ → Bool) (n : ℕ) (so : Bool) : Type 0 where
  pub calls : ℕ
  pub at : ℕ
  pub stands : IsVisit (base walk) walk.text n calls at
  pub is : holds calls at ≡ so

-- After n steps it stands elsewhere; or nowhere, once the string is over.
abbrev pub IsElsewhere : KeptWalk → (ℕ → ℕ → Bool) → ℕ → Type 0
IsElsewhere walk holds n = StandsSo walk holds n false ⊎ (stands_after (base walk) walk.text n ≡ None)

-- The step is the first one from there on at which it stands where this holds.
pub record IsFirstThere (walk : KeptWalk) (holds : ℕ → ℕ → Bool) (from n : ℕ) : Type 0 where
  pub after : from ≤ n
  pub here : StandsSo walk holds n true
  pub passed : (k : ℕ) → from ≤ k → k < n → IsElsewhere walk holds k

-- there is such a step below the limit, or none
abbrev pub FindsPlace : KeptWalk → (ℕ → ℕ → Bool) → ℕ → ℕ → Option ℕ → Type 0
FindsPlace walk holds from limit (Some n) = IsFirstThere walk holds from n × (n < limit)
FindsPlace walk holds from limit None = (k : ℕ) → from ≤ k → k < limit → IsElsewhere walk holds k

abbrev pub ends_wanted : (ℕ → ℕ → Bool) → ℕ → Option Place → Bool
ends_wanted holds n (Some place) = place.steps == n && holds (calls_at place) place.at
ends_wanted holds n None = false

-- After no number of steps from the one to the other, which is not among them, it is where it is to stop.
abbrev pub PassesBetween : List SourceText → KeptWalk → Goal → ℕ → ℕ → Type 0
PassesBetween sources walk goal from to = (n : ℕ) → from ≤ n → n < to → IsElsewhere walk (is_goal sources walk goal n) n

-- The step is the first one from there on that is where it is to stop.
pub record IsNextStop (sources : List SourceText) (walk : KeptWalk) (goal : Goal) (from n : ℕ) : Type 0 where
  pub after : from ≤ n
  pub here : StandsSo walk (is_goal sources walk goal n) n true
  pub passed : PassesBetween sources walk goal from n

-- These steps, the last one first, lie between the two. At each it stands at one of the places, so strings were tried there.
unfoldable pub AreTried : List SourceText → KeptWalk → Goal → ℕ → ℕ → List ℕ → Type 0
AreTried sources walk goal from to [] = from ≤ to
AreTried sources walk goal from to (n ∷ tried) =
    (n < to) × StandsSo walk (is_place sources walk goal) n true × AreTried sources walk goal from n tried

-- No step before this one is there. Strings were tried after so many steps in all, each by a run from the beginning, that it takes
-- too much work to look further.
pub record IsTooFar (sources : List SourceText) (walk : KeptWalk) (goal : Goal) (from to : ℕ) : Type 0 where
  pub passed : PassesBetween sources walk goal from to
  pub tried : List ℕ
  pub are_tried : AreTried sources walk goal from to tried
  pub work : MOST_WORK < sum tried

-- what a look for the next step where it is to stop comes to
abbrev pub IsFound : List SourceText → KeptWalk → Goal → ℕ → ℕ → Found → Type 0
IsFound sources walk goal from limit (At n) = IsNextStop sources walk goal from n
-- none is, up to the limit or the end of the string
IsFound sources walk goal from limit Nowhere = PassesBetween sources walk goal from limit
IsFound sources walk goal from limit (TooFar n) = IsTooFar sources walk goal from n
