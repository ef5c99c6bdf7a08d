-- What is shown of where a walk stands.
use Rattle.std.specs.Prelude.{ℕ, zero, suc, ◌+◌, ◌-◌, List, [], ◌++◌, length, take, drop, min, max, replicate, slice_range, slice_get, codes, nat_lt, if◌then◌else◌, Option, Some, None, ◌==◌}
use Rattle.std.specs.Fmt.{decimal}
use Rattle.std.specs.List.{after_last, before_first, flat_map}
use Rattle.teco_core.specs.declared.code.Code.{Code}
use Rattle.teco_core.specs.declared.code.Code.TheVariants.{Lim}
use Rattle.teco_core.specs.declared.profile.Profile.{Profile}
use Rattle.teco_exec.specs.declared.place.Call.{Call}
use Rattle.teco_exec.specs.declared.place.Place.{Place}
use Rattle.teco_messages.specs.Placed.{call_shown, standing_shown, text_under}
use Rattle.teco_messages.specs.Shown.{code_shown}
use Rattle.teco_messages.specs.Spelling.{spelled}
use Rattle.teco_messages.specs.Spot.{is_newline}
use Rattle.teco_messages.specs.Token.{token_in}
use Rattle.teco_debugger.specs.Walk.{KeptWalk, state_there}
use Rattle.teco_debugger.specs.Sources.{shown_name, shown_string}
use Rattle.teco_debugger.specs.declared.sources.SourceText.{SourceText}
use Rattle.teco_debugger.specs.declared.sources.Shown.{Shown}
use Rattle.teco_debugger.specs.declared.walk.Seen.{Seen}
use Rattle.teco_debugger.specs.declared.showing.TheConstants.{MOST_FAULTY}
use Prim.Native.Char.{code}

-- the text whose token is shown: what a register holds, or the string as it is shown
abbrev pub innermost : KeptWalk → List ℕ → Place → List ℕ
innermost w string place = text_under place 0 (state_there w).registers string

-- where the walk stands, and the token there
abbrev pub place_there : KeptWalk → List ℕ → Option Place → List ℕ
place_there w string None = codes "the end"
place_there w string (Some place) =
    standing_shown place (state_there w).registers string ++ codes ", "
    ++ spelled (token_in (state_there w).profile (innermost w string place) place.at MOST_FAULTY)

-- a code, but not that of the walk's own limit
abbrev pub code_there : Option Code → List ℕ
code_there None = []
code_there (Some Lim) = []
code_there (Some code) = code_shown code

-- what stands between the name of a source and a place: a colon, or a comma where a call is open
abbrev pub name_end : Place → List ℕ
name_end place = if length place.calls.items == 0 then codes ":" else codes ", "

-- the name of the source, if it is to be shown and there is a place
abbrev pub name_there : List ℕ → Option Place → List ℕ
name_there name None = []
name_there name (Some place) = if length name == 0 then [] else name ++ name_end place

-- the step, the place, the token and the code, in a line
abbrev pub step_shown : KeptWalk → List ℕ → List ℕ → Seen → List ℕ
step_shown w name string seen = codes "step " ++ decimal w.steps ++ codes ", " ++ name_there name seen.place
    ++ place_there w string seen.place ++ code_there seen.outcome.code ++ codes "\n"

-- where the line of a place begins and ends
abbrev pub line_start_of : List ℕ → ℕ → ℕ
line_start_of text at = at - length (after_last is_newline (take at text))

abbrev pub line_end_of : List ℕ → ℕ → ℕ
line_end_of text at = at + length (before_first is_newline (drop at text))

-- how many bytes of the token are in the line
abbrev pub token_within : Profile → List ℕ → ℕ → ℕ
token_within p text at = min (length (token_in p text at MOST_FAULTY)) (line_end_of text at - at)

-- carets below these bytes as they are spelled, and one at least
abbrev pub carets : List ℕ → List ℕ
carets bytes = replicate (max (length (spelled bytes)) 1) (code "^")

abbrev pub blanks : List ℕ → List ℕ
blanks bytes = replicate (length (spelled bytes)) (code " ")

-- the line of a place, and the margin of the next
unfoldable pub line_shown : List ℕ → ℕ → List ℕ
line_shown text at =
    codes "    " ++ (spelled (slice_range text (line_start_of text at) (line_end_of text at)) ++ codes "\n    ")

-- carets under as much of the token as is in the line
unfoldable pub mark_shown : Profile → List ℕ → ℕ → List ℕ
mark_shown p text at =
    blanks (slice_range text (line_start_of text at) at) ++ carets (slice_range text at (at + token_within p text at))

abbrev pub marked_line : Profile → List ℕ → ℕ → List ℕ
marked_line p text at = line_shown text at ++ (mark_shown p text at ++ codes "\n")

-- nothing of a text that has no such place
abbrev pub line_there : Profile → List ℕ → ℕ → List ℕ
line_there p text at = if nat_lt (length text) at then [] else marked_line p text at

-- how many turns an iteration has left; any number of one without a count
abbrev pub turn_shown : Option ℕ → List ℕ
turn_shown (Some left) = codes " " ++ decimal left
turn_shown None = codes " any"

unfoldable pub each_turn_shown : List (Option ℕ) → List ℕ
each_turn_shown turns = flat_map turn_shown turns

-- the turns left of the open iterations of a text, the innermost first
abbrev pub turns_shown : List (Option ℕ) → List ℕ
turns_shown turns = if length turns == 0 then [] else codes "; turns left:" ++ each_turn_shown turns

-- the line of the iterations of the innermost text, if any is open
abbrev pub here_shown : List (Option ℕ) → List ℕ
here_shown turns = if length turns == 0 then [] else codes "here" ++ turns_shown turns ++ codes "\n"

abbrev pub turns_of_call : Option Call → List (Option ℕ)
turns_of_call None = []
turns_of_call (Some call) = call.turns.items

-- the line of an open call, of which k are later
unfoldable pub call_line : KeptWalk → List ℕ → Place → ℕ → List ℕ
call_line w string place k =
    call_shown place k (state_there w).registers string ++ turns_shown (turns_of_call (slice_get place.calls.items k)) ++ codes "\n"

-- the lines of the latest so many of the open calls
unfoldable pub call_lines : KeptWalk → List ℕ → Place → ℕ → List ℕ
call_lines w string place zero = []
call_lines w string place (suc k) = call_lines w string place k ++ call_line w string place k

abbrev pub lines_there : KeptWalk → List ℕ → Option Place → List ℕ
lines_there w string None = []
lines_there w string (Some place) =
    line_there (state_there w).profile (innermost w string place) place.at ++ here_shown place.turns.items
    ++ call_lines w string place (length place.calls.items)

-- the step, the line with its token marked, the open iterations and calls
abbrev pub where_shown : KeptWalk → List ℕ → List ℕ → Seen → List ℕ
where_shown w name string seen = step_shown w name string seen ++ lines_there w string seen.place

-- the same by the sources of the string
abbrev pub step_at : List SourceText → KeptWalk → Shown → List ℕ
step_at sources w there = step_shown w (shown_name sources there.number) (shown_string sources there.number w.text) there.seen

abbrev pub where_at : List SourceText → KeptWalk → Shown → List ℕ
where_at sources w there = where_shown w (shown_name sources there.number) (shown_string sources there.number w.text) there.seen
