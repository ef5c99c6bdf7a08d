-- The places to stop at, as `break` lists them.
use Rattle.std.specs.Prelude.{ℕ, zero, suc, ◌+◌, ◌==◌, List, [], ◌++◌, length, codes, slice_get, if◌then◌else◌, Option, Some, None}
use Rattle.std.specs.Fmt.{decimal}
use Rattle.std.specs.declared.alloc.Global.{Global}
use Rattle.std.specs.declared.vec.Vec.{Vec}
use Rattle.teco_messages.specs.Spelling.{spelled}
use Rattle.teco_debugger.specs.Sources.{name_or_none}
use Rattle.teco_debugger.specs.declared.sources.SourceText.{SourceText}
use Rattle.teco_debugger.specs.declared.stops.Break.{Break}
use Rattle.teco_debugger.specs.declared.stops.Stop.{Stop}

abbrev pub source_shown : List SourceText → Option ℕ → List ℕ
source_shown sources (Some number) = name_or_none (slice_get sources number) ++ codes ":"
source_shown sources None = []

abbrev pub column_shown : Option ℕ → List ℕ
column_shown (Some column) = codes ":" ++ decimal column
column_shown None = []

-- a place to stop at, as `break` takes it: with FILE: before its line and :COLUMN after it, where it has them
unfoldable pub stop_shown : List SourceText → Stop → List ℕ
stop_shown sources stop = source_shown sources stop.source ++ (decimal stop.line ++ column_shown stop.column)

-- the string that it depends on, if there is one
abbrev pub test_shown : Option (Vec ℕ Global) → List ℕ
test_shown (Some test) = codes " if " ++ spelled test.items
test_shown None = []

-- a line with its number
unfoldable pub numbered_stop : List SourceText → ℕ → Break → List ℕ
numbered_stop sources number it =
    (decimal number ++ codes ": ") ++ (stop_shown sources it.stop ++ (test_shown it.test ++ codes "\n"))

-- the line of the one after k others, if there is one
abbrev pub stop_line : List SourceText → ℕ → Option Break → List ℕ
stop_line sources k (Some it) = numbered_stop sources (k + 1) it
stop_line sources k None = []

-- the lines of the first so many
unfoldable pub stop_lines : List SourceText → List Break → ℕ → List ℕ
stop_lines sources stops zero = []
stop_lines sources stops (suc k) = stop_lines sources stops k ++ stop_line sources k (slice_get stops k)

-- all of them, numbered from 1 on
abbrev pub stops_shown : List SourceText → List Break → List ℕ
stops_shown sources stops =
    if length stops == 0 then codes "no place to stop at is noted\n" else stop_lines sources stops (length stops)
