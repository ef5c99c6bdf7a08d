-- What a line can't say together, though the parser takes it.
use Rattle.std.specs.Prelude.{ℕ, Bool, true, false, not, ◌&&◌, ◌||◌, ◌==◌, List, ◌∷◌, length, is_some, nat_lt, Some, None}
use Rattle.std.specs.List.{list_any}
use Rattle.std.specs.Str.{bytes_eq}
use Rattle.std.specs.String.{string_bytes}
use Rattle.teco_cli.specs.StreamNames.{is_standard_input}
use Rattle.teco_cli.specs.declared.line.Commands.{Commands}
use Rattle.teco_cli.specs.declared.line.Commands.TheVariants.{StandardInput, Sources, Pages, Bytes}
use Rattle.teco_cli.specs.declared.line.Line.{Line}
use Prim.Native.Char.{code}

-- one INPUT or more is standard input
abbrev pub has_standard_input : Line → Bool
has_standard_input line = list_any (λ name. is_standard_input (string_bytes name)) (line.input ∷ line.more.items)

-- there are several INPUTs
abbrev pub has_more : Line → Bool
has_more line = nat_lt 0 (length line.more.items)

-- no option gives the commands, so that they come on standard input as they are wanted
abbrev pub are_awaited : Commands → Bool
are_awaited StandardInput = true
are_awaited (Sources names word) = false
are_awaited (Pages word) = false
are_awaited (Bytes name) = false

-- the commands are on standard input: none gives them, or --file or --bytes does by its name
abbrev pub are_on_standard_input : Commands → Bool
are_on_standard_input StandardInput = true
are_on_standard_input (Sources names word) = list_any (λ name. is_standard_input (string_bytes name)) names.items
are_on_standard_input (Pages word) = false
are_on_standard_input (Bytes name) = is_standard_input (string_bytes name)

-- --output is where one output goes: with --in-place it goes over the input
abbrev pub has_two_places : Line → Bool
has_two_places line = is_some line.output && line.in_place

-- and several INPUTs have an output each
abbrev pub has_one_place_for_many : Line → Bool
has_one_place_for_many line = is_some line.output && has_more line

-- commands that are awaited are served to one INPUT
abbrev pub awaits_for_many : Line → Bool
awaits_for_many line = are_awaited line.commands && has_more line

-- standard input has either commands or a text
abbrev pub shares_standard_input : Line → Bool
shares_standard_input line = are_on_standard_input line.commands && has_standard_input line

-- and nothing can be written over it
abbrev pub writes_over_a_stream : Line → Bool
writes_over_a_stream line = line.in_place && has_standard_input line

-- commands that are awaited are not checked, since what is run decides what is asked for next
abbrev pub checks_awaited : Line → Bool
checks_awaited line = line.check && are_awaited line.commands

abbrev pub has_slash : List ℕ → Bool
has_slash text = list_any (λ byte. byte == code "/") text

-- a text that may follow a file's name in the name of another of the same folder: it is not empty, and has no slash
abbrev pub is_suffix : List ℕ → Bool
is_suffix text = nat_lt 0 (length text) && not (has_slash text)

-- the old file is to be kept, and what is to follow its name can't
abbrev pub keeps_under_no_name : Line → Bool
keeps_under_no_name line = elim line.backup [ Some suffix ↦ not (is_suffix (string_bytes suffix)) | None ↦ false ]

abbrev pub are_on_pages : Commands → Bool
are_on_pages StandardInput = false
are_on_pages (Sources names word) = false
are_on_pages (Pages word) = true
are_on_pages (Bytes name) = false

-- A session is of one INPUT as it is read, and of commands that are run as they are.
abbrev pub is_unfit_for_session : Line → Bool
is_unfit_for_session line = line.check || (has_more line || (are_on_pages line.commands || nat_lt 0 (length line.values.items)))

-- this is the input, or where the output goes
abbrev pub is_edited : Line → List ℕ → Bool
is_edited line file = bytes_eq (string_bytes line.input) file
    || (elim line.output [ Some output ↦ bytes_eq (string_bytes output) file | None ↦ false ])

-- the session is kept in the file that is edited, or there is none to keep
abbrev pub has_wrong_session : Line → Bool
has_wrong_session line = elim line.session [
  | Some file ↦ is_unfit_for_session line || is_edited line (string_bytes file)
  | None ↦ false
]

-- The line says one of these: it is faulty.
abbrev pub has_conflict : Line → Bool
has_conflict line = has_two_places line || (has_one_place_for_many line || (awaits_for_many line
    || (shares_standard_input line || (writes_over_a_stream line || (checks_awaited line
    || (keeps_under_no_name line || has_wrong_session line))))))
