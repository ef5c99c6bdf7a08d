-- What is shown of a place and of a code.
use Rattle.std.specs.Prelude.{ℕ, List, ◌++◌, length, codes, nat_lt, if◌then◌else◌, Option, Some, None}
use Rattle.std.specs.Fmt.{decimal}
use Rattle.teco_core.specs.Code.{letters_of}
use Rattle.teco_core.specs.declared.code.Code.{Code}
use Rattle.teco_core.specs.declared.code.Code.TheVariants as code
use Rattle.teco_messages.specs.Spot.{spot_of}
use Rattle.teco_messages.specs.declared.sentence.Limits.{Limits}
use Rattle.teco_messages.specs.declared.spot.Spot.{Spot}

-- a line and a column with a colon between them
abbrev pub spot_shown : Spot → List ℕ
spot_shown s = decimal s.line ++ codes ":" ++ decimal s.column

-- a place of a text, or that the text has it no more
abbrev pub place_shown : List ℕ → ℕ → List ℕ
place_shown text at = if nat_lt (length text) at then codes "a text that is changed" else spot_shown (spot_of text at)

-- a code in a few words
abbrev pub sentence_of : Code → List ℕ
sentence_of code.Arg = codes "wrong argument, or wrong arithmetic"
sentence_of code.Bni = codes "> without its iteration"
sentence_of code.Cpq = codes "nothing on the push-down list"
sentence_of code.Dtb = codes "delete past the buffer"
sentence_of code.Ice = codes "search text not allowed"
sentence_of code.Iia = codes "insert with argument and text"
sentence_of code.Ill = codes "no such command"
sentence_of code.Ipa = codes "P with a number of at most 0"
sentence_of code.Iqc = codes "no such test"
sentence_of code.Iqn = codes "no such register"
sentence_of code.Isa = codes "search count not allowed"
sentence_of code.Iss = codes "no search text yet"
sentence_of code.Mrp = codes "parenthesis open at a command"
sentence_of code.Nae = codes "no number before ="
sentence_of code.Naq = codes "no number before a test"
sentence_of code.Nau = codes "no number before U"
sentence_of code.Ovf = codes "number out of range"
sentence_of code.Dvz = codes "division by zero"
sentence_of code.Pdo = codes "too many open or pushed"
sentence_of code.Pop = codes "place outside the buffer"
sentence_of code.Sni = codes "; without an iteration"
sentence_of code.Srh = codes "the search found nothing"
sentence_of code.Tag = codes "no such tag to go to"
sentence_of code.Utc = codes "text ends inside a command or block"
sentence_of code.Yca = codes "page would replace a nonempty buffer"
sentence_of code.Big = codes "a text or the output past its limit"
sentence_of code.Lim = codes "step limit"
sentence_of code.Mem = codes "memory refused"
sentence_of code.Tty = codes "terminal failed"
sentence_of code.Ntu = codes "nothing to undo"
sentence_of code.Ntr = codes "nothing to redo"
sentence_of code.End = codes "session is done"

-- a code and what it says
abbrev pub code_shown : Code → List ℕ
code_shown code = codes ": " ++ letters_of code ++ codes ", " ++ sentence_of code

-- LIM: a string has done all its steps, or it was broken off since its seconds are over
abbrev pub limit_shown : ℕ → Option ℕ → List ℕ
limit_shown steps None = codes ": LIM, " ++ decimal steps ++ codes " steps are done: --limit N allows more"
limit_shown steps (Some seconds) =
    codes ": LIM, the time of " ++ decimal seconds ++ codes " s is over: --seconds N allows more"

-- the same; where a limit is reached, how large it is and what helps
abbrev pub code_shown_with : Limits → Code → List ℕ
code_shown_with limits code.Lim = limit_shown limits.steps limits.seconds
code_shown_with limits code.Big =
    codes ": BIG, a text may have " ++ decimal limits.bytes ++ codes " bytes: --page-lines N makes smaller pages"
code_shown_with limits c = code_shown c

-- a code, a colon and what it says
abbrev pub plain_reason : Code → List ℕ
plain_reason code = letters_of code ++ codes ": " ++ sentence_of code

-- the same of LIM
abbrev pub limit_reason : ℕ → Option ℕ → List ℕ
limit_reason steps None = codes "LIM: " ++ decimal steps ++ codes " steps are done: --limit N allows more"
limit_reason steps (Some seconds) =
    codes "LIM: the time of " ++ decimal seconds ++ codes " s is over: --seconds N allows more"

-- the same of any code; where a limit is reached, how large it is and what helps
abbrev pub reason_with : Limits → Code → List ℕ
reason_with limits code.Lim = limit_reason limits.steps limits.seconds
reason_with limits code.Big =
    codes "BIG: a text may have " ++ decimal limits.bytes ++ codes " bytes: --page-lines N makes smaller pages"
reason_with limits c = plain_reason c

abbrev pub reason_shown : Option Limits → Code → List ℕ
reason_shown None code = plain_reason code
reason_shown (Some limits) code = reason_with limits code
