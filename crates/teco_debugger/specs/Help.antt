-- The list of the commands, as `help` shows it.
use Rattle.std.specs.Prelude.{ℕ, ◌+◌, ◌-◌, List, ◌++◌, length, replicate, codes}
use Rattle.std.specs.List.{flat_map}
use Rattle.teco_debugger.specs.declared.verb.VerbRow.{VerbRow}
use Rattle.teco_debugger.specs.declared.help.TheConstants.{LETTER_COLUMN}
use Prim.Native.Char.{code}

-- a word and what it takes, with blanks up to the column of the letters
unfoldable pub word_part : VerbRow → List ℕ
word_part row = row.word.now ++ (codes " " ++ (row.operand.now
    ++ replicate (LETTER_COLUMN - (length row.word.now + 1 + length row.operand.now)) (code " ")))

-- the letter, and what the command does
unfoldable pub letter_part : VerbRow → List ℕ
letter_part row = row.letter.now ++ (codes "  " ++ (row.help.now ++ codes "\n"))

-- the line of a command
abbrev pub verb_line : VerbRow → List ℕ
verb_line row = word_part row ++ letter_part row

-- a line for each of these commands
abbrev pub help_shown : List VerbRow → List ℕ
help_shown rows = flat_map verb_line rows
