-- The lines of a text around the one of a step, with their numbers.
use Rattle.std.specs.Prelude.{ℕ, zero, suc, ◌+◌, ◌-◌, ◌==◌, List, [], ◌++◌, length, take, drop, min, max, replicate, slice_range, codes, nat_lt, if◌then◌else◌, Option, Some, None}
use Rattle.std.specs.Fmt.{decimal}
use Rattle.teco_core.specs.declared.profile.Profile.{Profile}
use Rattle.teco_exec.specs.declared.place.Place.{Place}
use Rattle.teco_messages.specs.Spelling.{spelled}
use Rattle.teco_messages.specs.Spot.{spot_of}
use Rattle.teco_debugger.specs.Walk.{KeptWalk, state_there}
use Rattle.teco_debugger.specs.Showing.{innermost, line_end_of, line_start_of, mark_shown, step_shown}
use Rattle.teco_debugger.specs.Sources.{shown_name, shown_string}
use Rattle.teco_debugger.specs.declared.around.TheConstants.{MARGIN, MOST_AROUND}
use Rattle.teco_debugger.specs.declared.sources.SourceText.{SourceText}
use Rattle.teco_debugger.specs.declared.sources.Shown.{Shown}
use Rattle.teco_debugger.specs.declared.walk.Seen.{Seen}
use Prim.Native.Char.{code}

-- the first line of a text, and what comes after its end
abbrev pub first_line : List ℕ → List ℕ
first_line text = take (line_end_of text 0) text

abbrev pub after_line : List ℕ → List ℕ
after_line text = drop (line_end_of text 0 + 1) text

-- what comes after so many lines
unfoldable pub after_lines : List ℕ → ℕ → List ℕ
after_lines text zero = text
after_lines text (suc k) = after_line (after_lines text k)

-- the number of a line, with blanks up to the margin, and one at least
unfoldable pub number_shown : ℕ → List ℕ
number_shown number = decimal number ++ replicate (max (MARGIN - length (decimal number)) 1) (code " ")

-- a line with its number
unfoldable pub numbered_line : ℕ → List ℕ → List ℕ
numbered_line number line = number_shown number ++ (spelled line ++ codes "\n")

-- the first line of what is left of a text, if anything is
abbrev pub first_numbered : ℕ → List ℕ → List ℕ
first_numbered number rest = if length rest == 0 then [] else numbered_line number (first_line rest)

-- so many lines, from the one that comes after so many others
unfoldable pub numbered_lines : List ℕ → ℕ → ℕ → List ℕ
numbered_lines text from zero = []
numbered_lines text from (suc k) = numbered_lines text from k ++ first_numbered (from + k + 1) (after_lines text (from + k))

-- the number of the line of a place
abbrev pub line_number : List ℕ → ℕ → ℕ
line_number text at = (spot_of text at).line

-- the line of a place with its number, and carets under as much of the token as is in the line
unfoldable pub marked_numbered : Profile → List ℕ → ℕ → List ℕ
marked_numbered p text at =
    numbered_line (line_number text at) (slice_range text (line_start_of text at) (line_end_of text at))
    ++ (replicate (length (number_shown (line_number text at))) (code " ") ++ (mark_shown p text at ++ codes "\n"))

-- the n lines before that of a place, that one with its token marked, and the n after it
unfoldable pub lines_around : Profile → List ℕ → ℕ → ℕ → List ℕ
lines_around p text at n =
    numbered_lines text (line_number text at - 1 - n) (min n (line_number text at - 1))
    ++ (marked_numbered p text at ++ numbered_lines text (line_number text at) n)

-- nothing of a text that has no such place
abbrev pub around_place : Profile → List ℕ → ℕ → ℕ → List ℕ
around_place p text at n = if nat_lt (length text) at then [] else lines_around p text at n

-- at most 1000 lines each way
abbrev pub around_there : KeptWalk → List ℕ → Option Place → ℕ → List ℕ
around_there w string None n = []
around_there w string (Some place) n = around_place (state_there w).profile (innermost w string place) place.at (min n MOST_AROUND)

-- the step, and the lines of its text around its own
abbrev pub around_shown : KeptWalk → List ℕ → List ℕ → Seen → ℕ → List ℕ
around_shown w name string seen n = step_shown w name string seen ++ around_there w string seen.place n

-- the same by the sources of the string
abbrev pub around_at : List SourceText → KeptWalk → Shown → ℕ → List ℕ
around_at sources w there n =
    around_shown w (shown_name sources there.number) (shown_string sources there.number w.text) there.seen n
