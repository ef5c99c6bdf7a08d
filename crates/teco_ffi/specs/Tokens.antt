-- What is told of what stands at a place of a text.
use Rattle.std.specs.Prelude.{ℕ, List, []}
use Rattle.teco_core.specs.Code.{number_of}
use Rattle.teco_scan.specs.Scan.{Item, digits, bare, register, byte, text, set_text, replace, Instruction, step, mark, decide, tag, escape, Scanned, found, ended, fault}
use Rattle.teco_scan.specs.declared.command.Bare.{Bare}
use Rattle.teco_scan.specs.declared.command.Bare.TheVariants.{Quantity, Arithmetic, Level, Command}
use Rattle.teco_scan.specs.declared.command.TextCommand.{TextCommand}
use Rattle.teco_scan.specs.declared.command.TextCommand.TheVariants.{Go}
use Rattle.teco_ffi.specs.declared.answers.TheConstants.{NO_TOKEN}
use Rattle.teco_ffi.specs.declared.token_kinds.TheConstants.{DIGITS, VALUE, ARITHMETIC, LEVEL, COMMAND, REGISTER, BYTE, ONE_TEXT, JUMP, SET_TEXT, REPLACE, MARK, TEST, TAG, ESCAPE}

-- 0 for a token, a number of its own where none is left, and that of the code by which none is read
abbrev pub token_answer : Scanned → ℕ
token_answer (found t rest) = 0
token_answer ended = NO_TOKEN
token_answer (fault e) = number_of e

-- the bytes after a token, if there is one
abbrev pub after_token : Scanned → List ℕ
after_token (found t rest) = rest
after_token ended = []
after_token (fault e) = []

-- the number of the kind of what a token instructs
abbrev pub bare_kind : Bare → ℕ
bare_kind (Quantity q) = VALUE
bare_kind (Arithmetic a) = ARITHMETIC
bare_kind (Level l) = LEVEL
bare_kind (Command c) = COMMAND

abbrev pub text_kind : TextCommand → ℕ
text_kind Go = JUMP
text_kind _ = ONE_TEXT

abbrev pub item_kind : Item → ℕ
item_kind (digits run) = DIGITS
item_kind (bare c) = bare_kind c
item_kind (register c q) = REGISTER
item_kind (byte b) = BYTE
item_kind (text c bytes) = text_kind c
item_kind (set_text q bytes) = SET_TEXT
item_kind (replace old new) = REPLACE

abbrev pub instruction_kind : Instruction → ℕ
instruction_kind (step i) = item_kind i
instruction_kind (mark c) = MARK
instruction_kind (decide t) = TEST
instruction_kind (tag name) = TAG
instruction_kind escape = ESCAPE

-- and 0 where there is no token
abbrev pub token_kind : Scanned → ℕ
token_kind (found t rest) = instruction_kind t.instruction
token_kind ended = 0
token_kind (fault e) = 0

-- the last text of a token, or the name of a tag; without a byte where it has none
abbrev pub item_text : Item → List ℕ
item_text (text c bytes) = bytes
item_text (set_text q bytes) = bytes
item_text (replace old new) = new
item_text _ = []

abbrev pub instruction_text : Instruction → List ℕ
instruction_text (step i) = item_text i
instruction_text (tag name) = name
instruction_text _ = []

abbrev pub last_text : Scanned → List ℕ
last_text (found t rest) = instruction_text t.instruction
last_text ended = []
last_text (fault e) = []
