-- What is found in some texts, and the trees of some, by computing.
use Rattle.std.specs.Prelude.{◌≡◌, ℕ, zero, suc, ◌+◌, Bool, true, false, not, ◌&&◌, ◌||◌, List, [], ◌∷◌, ◌++◌, map, filter, codes, ◌==◌, if◌then◌else◌}
use Rattle.std.specs.List.{list_any}
use Rattle.std.proofs.Common.{refl}
use Prim.Native.String.{String}
use Rattle.teco_core.specs.declared.number.Op.TheVariants.{Plus, Over, And, Or}
use Rattle.teco_core.specs.declared.code.Code.TheVariants.{Ill, Iqc, Iqn, Utc}
use Rattle.teco_core.specs.declared.profile.Profile.TheVariants.{Named}
use Rattle.teco_scan.specs.declared.command.Bare.TheVariants as group
use Rattle.teco_scan.specs.declared.command.Quantity.TheVariants.{Pointer, End, FormFeed, InputEnd}
use Rattle.teco_scan.specs.declared.command.Arithmetic.TheVariants.{Operator, Open, Close, Comma}
use Rattle.teco_scan.specs.declared.command.Command.TheVariants.{Jump, Kill, TypeOut, View, TypeByte, Print, PrintOctal, NextPage, TurnPages, WritePage, Exit, CaseMode, Leave}
use Rattle.teco_scan.specs.declared.command.RegisterCommand.TheVariants.{Number, Increment, Set, Extract, Macro, Push, Pop}
use Rattle.teco_scan.specs.declared.command.TextCommand.TheVariants.{Insert, InsertTab, Search, SearchPages, SearchPagesQuietly, Go}
use Rattle.teco_scan.specs.declared.command.LevelCommand.TheVariants.{Append, Decimal}
use Rattle.teco_scan.specs.declared.command.BlockMark.TheVariants.{Iterate, EndIteration, Otherwise, EndTest}
use Rattle.teco_scan.specs.declared.command.Test.TheVariants.{Zero, NotZero, Above, Below, Letter, Digit, LetterOrDigit, Lower, Upper}
use Rattle.teco_core.specs.Ascii.{is_digit, upper}
use Rattle.teco_scan.specs.declared.command.Name.{Name}
use Rattle.teco_scan.specs.declared.command.Name.TheVariants.{One, Control}
use Rattle.teco_scan.specs.declared.table.TheConstants.{ROWS}
use Rattle.teco_scan.specs.Table.{is_alone}
use Rattle.teco_scan.specs.Scan.{digits, bare, register, text, set_text, Instruction, step, mark, decide, tag, Scanned, found, ended, fault, no_modifiers, test_of, byte_at, register_at, test_at, delimiter_at, text_at, operand_at, modifiers_at, after_letter, after_name, ends_inside, is_refused, row_at, is_cut, command_at, run_of, after_run, token_from, after_fillers, scan}
use Rattle.teco_scan.specs.Scan as token

-- all that reading computes with
unfoldable pub computing : ℕ
unfolding test_of byte_at register_at test_at delimiter_at text_at operand_at modifiers_at after_letter after_name ends_inside row_at is_cut command_at run_of after_run token_from after_fillers scan
computing = 0

-- the bytes of a text, where $ is ESC
abbrev pub keys : String → List ℕ
keys written = map (λ b. if b == 36 then 27 else b) (codes written)

-- a token without modifiers, and the text after it
abbrev plain : Instruction → String → Scanned
plain i rest = found (record { modifiers = no_modifiers; instruction = i }) (keys rest)

-- a token after @, and one after a colon
abbrev at_sign : Instruction → String → Scanned
at_sign i rest = found (record { modifiers = record { at = true; colons = 0 }; instruction = i }) (keys rest)

abbrev colon : Instruction → String → Scanned
colon i rest = found (record { modifiers = record { at = false; colons = 1 }; instruction = i }) (keys rest)

abbrev scans : String → Scanned → Type 0
scans written s = scan Named (keys written) ≡ s

found_tokens : scans "20+3" (plain (step (digits (codes "20"))) "+3")
    × scans "+3" (plain (step (bare (group.Arithmetic (Operator Plus)))) "3")
    × scans "/2" (plain (step (bare (group.Arithmetic (Operator Over)))) "2")
    × scans "  .=" (plain (step (bare (group.Quantity Pointer))) "=")
    × scans "z-3J" (plain (step (bare (group.Quantity End))) "-3J")
    × scans "jT" (plain (step (bare (group.Command Jump))) "T")
    × scans "TT" (plain (step (bare (group.Command TypeOut))) "T")
    × scans "Ia= :b$$" (plain (step (text Insert (codes "a= :b"))) "$")
    × scans "I$" (plain (step (text Insert [])) "")
    × scans "= =" (plain (step (bare (group.Command Print))) " =")
    × scans "$3" (plain token.escape "3")
unfolding computing
found_tokens = (refl, refl, refl, refl, refl, refl, refl, refl, refl, refl, refl)

-- what builds arguments; ^E, ^N and ^^ are their bytes, or a caret and a letter or a caret
found_arguments : scans "(3" (plain (step (bare (group.Arithmetic Open))) "3")
    × scans ")=" (plain (step (bare (group.Arithmetic Close))) "=")
    × scans ",Z" (plain (step (bare (group.Arithmetic Comma))) "Z")
    × scans "&5" (plain (step (bare (group.Arithmetic (Operator And)))) "5")
    × scans "#5" (plain (step (bare (group.Arithmetic (Operator Or)))) "5")
    × scans "^E=" (plain (step (bare (group.Quantity FormFeed))) "=")
    × scans "^e" (plain (step (bare (group.Quantity FormFeed))) "")
    × (scan Named (5 ∷ codes "E") ≡ plain (step (bare (group.Quantity FormFeed))) "E")
    × scans "^n=" (plain (step (bare (group.Quantity InputEnd))) "=")
    × (scan Named (14 ∷ []) ≡ plain (step (bare (group.Quantity InputEnd))) "")
    × scans "^^A=" (plain (step (token.byte 65)) "=")
    × scans "^^ 2" (plain (step (token.byte 32)) "2")
    × (scan Named (30 ∷ codes "aa") ≡ plain (step (token.byte 97)) "a")
    × scans "^^" (fault Utc)
    × (scan Named (30 ∷ []) ≡ fault Utc)
    × scans "a=" (plain (step (bare (group.Level Append))) "=")
    × scans ":(" (fault Ill)
    × scans "@," (fault Ill)
    × scans ":^E" (fault Ill)
    × scans "@^^a" (fault Ill)
unfolding computing
found_arguments = (refl, refl, refl, refl, refl, refl, refl, refl, refl, refl, refl, refl, refl, refl, refl, refl, refl, refl, refl, refl)

-- marks of blocks, tags, jumps and macros; @ before I and O names the delimiter
found_marks : scans "<J" (plain (mark Iterate) "J")
    × scans " > " (plain (mark EndIteration) " ")
    × scans "|2" (plain (mark Otherwise) "2")
    × scans "''" (plain (mark EndTest) "'")
    × scans ";>" (plain (step (bare (group.Command Leave))) ">")
    × scans "Ma" (plain (step (register Macro 0)) "")
    × scans "m9=" (plain (step (register Macro 35)) "=")
    × scans "!x!2" (plain (tag (codes "x")) "2")
    × scans "!!!" (plain (tag []) "!")
    × scans "! a>|$!" (plain (tag (keys " a>|$")) "")
    × scans "Ox y$2" (plain (step (text Go (codes "x y"))) "2")
    × scans "@o/x/2" (at_sign (step (text Go (codes "x"))) "2")
    × scans "@I/a$/2" (at_sign (step (text Insert (keys "a$"))) "2")
    × scans "@I$$" (at_sign (step (text Insert [])) "")
    × scans "@i>a>$" (at_sign (step (text Insert (codes "a"))) "$")
unfolding computing
found_marks = (refl, refl, refl, refl, refl, refl, refl, refl, refl, refl, refl, refl, refl, refl, refl)

-- each test, in either case
found_tests : scans "\"EJ" (plain (decide Zero) "J")
    × scans "\"FJ" (plain (decide Zero) "J")
    × scans "\"UJ" (plain (decide Zero) "J")
    × scans "\"NJ" (plain (decide NotZero) "J")
    × scans "\"GJ" (plain (decide Above) "J")
    × scans "\"LJ" (plain (decide Below) "J")
    × scans "\"SJ" (plain (decide Below) "J")
    × scans "\"TJ" (plain (decide Below) "J")
    × scans "\"AJ" (plain (decide Letter) "J")
    × scans "\"DJ" (plain (decide Digit) "J")
    × scans "\"RJ" (plain (decide LetterOrDigit) "J")
    × scans "\"VJ" (plain (decide Lower) "J")
    × scans "\"WJ" (plain (decide Upper) "J")
    × scans "\"eJ" (plain (decide Zero) "J")
    × scans "\"gJ" (plain (decide Above) "J")
    × scans "\"wJ" (plain (decide Upper) "J")
unfolding computing
found_tests = (refl, refl, refl, refl, refl, refl, refl, refl, refl, refl, refl, refl, refl, refl, refl, refl)

-- IQC where a byte names no test, UTC where the text ends inside the token, ILL at other modifiers
found_no_marks : scans "\"Z" (fault Iqc)
    × scans "\" E" (fault Iqc)
    × scans "\"" (fault Utc)
    × scans "\"\"" (fault Iqc)
    × scans "@\"E" (fault Ill)
    × scans "!x" (fault Utc)
    × scans "!" (fault Utc)
    × scans "@!x!" (fault Ill)
    × scans ":!x!" (fault Ill)
    × scans "O" (fault Utc)
    × scans "Ox" (fault Utc)
    × scans ":Ox$" (fault Ill)
    × scans "@O" (fault Utc)
    × scans "@O/x" (fault Utc)
    × scans "@I" (fault Utc)
    × scans "@I/a" (fault Utc)
    × scans "@:I/a/" (fault Ill)
    × scans "M" (fault Utc)
    × scans "M?" (fault Iqn)
    × scans "@Ma" (fault Ill)
    × scans ":<" (fault Ill)
    × scans "@>" (fault Ill)
    × scans ":|" (fault Ill)
    × scans "@'" (fault Ill)
    × scans ":;" (fault Ill)
unfolding computing
found_no_marks = (refl, refl, refl, refl, refl, refl, refl, refl, refl, refl, refl, refl, refl, refl, refl, refl, refl, refl, refl, refl, refl, refl, refl, refl, refl)

-- registers, in either case; ^U is its byte, or a caret and its letter
found_registers : scans "Qa3" (plain (step (register Number 0)) "3")
    × scans "qZ" (plain (step (register Number 25)) "")
    × scans "Q9$" (plain (step (register Number 35)) "$")
    × scans ":Q0" (colon (step (register Number 26)) "")
    × scans "%b" (plain (step (register Increment 1)) "")
    × scans "3Uc" (plain (step (digits (codes "3"))) "Uc")
    × scans "uC=" (plain (step (register Set 2)) "=")
    × scans "^Uaa word$=" (plain (step (set_text 0 (codes "a word"))) "=")
    × scans "^ua$$" (plain (step (set_text 0 [])) "$")
    × (scan Named (21 ∷ keys "a2$=") ≡ plain (step (set_text 0 (codes "2"))) "=")
    × scans "@^UA/x$$y/2" (at_sign (step (set_text 0 (keys "x$$y"))) "2")
    × (scan Named (64 ∷ 21 ∷ keys "1|x|2") ≡ at_sign (step (set_text 27 (codes "x"))) "2")
unfolding computing
found_registers = (refl, refl, refl, refl, refl, refl, refl, refl, refl, refl, refl, refl)

-- UTC where the text ends inside the token, IQN where a byte names no register, and ILL at other modifiers and after a caret
found_no_registers : scans "Q" (fault Utc)
    × scans ":Q" (fault Utc)
    × scans "Q?" (fault Iqn)
    × scans "Q a" (fault Iqn)
    × scans "::Qa" (fault Ill)
    × scans "@Qa" (fault Ill)
    × scans "%" (fault Utc)
    × scans "%?" (fault Iqn)
    × scans ":%a" (fault Ill)
    × scans "U$" (fault Iqn)
    × scans "^U" (fault Utc)
    × scans "^U?" (fault Iqn)
    × scans "^Ua" (fault Utc)
    × scans "^Uax" (fault Utc)
    × scans "@^Ua" (fault Utc)
    × scans "@^Ua/x" (fault Utc)
    × scans "@^U?" (fault Iqn)
    × scans ":^Uax$" (fault Ill)
    × (scan Named (21 ∷ []) ≡ fault Utc)
    × scans "^" (fault Utc)
    × scans "@^" (fault Utc)
    × scans ":^" (fault Ill)
    × scans "^?" (fault Ill)
    × scans ":" (fault Utc)
    × scans "::" (fault Utc)
unfolding computing
found_no_registers = (refl, refl, refl, refl, refl, refl, refl, refl, refl, refl, refl, refl, refl, refl, refl, refl, refl, refl, refl, refl, refl, refl, refl, refl, refl)

found_none : scans "" ended
    × scans "   " ended
    × scans "I" (fault Utc)
    × scans "Iab" (fault Utc)
    × scans "===" (fault Ill)
    × scans "===3" (fault Ill)
    × scans "::=" (fault Ill)
    × scans "::==" (fault Ill)
    × scans "@=" (fault Ill)
    × scans "@==" (fault Ill)
    × scans ":===" (fault Ill)
    × scans "@@I" (fault Ill)
    × scans ":::=" (fault Ill)
    × scans "@" (fault Utc)
    × scans "?" (fault Ill)
    × scans "I ? " (fault Utc)
unfolding computing
found_none = (refl, refl, refl, refl, refl, refl, refl, refl, refl, refl, refl, refl, refl, refl, refl, refl)

-- deletions, the push-down list, and what types; ^T is its byte, or a caret and its letter, and TAB is its byte alone
found_edits : scans "K2" (plain (step (bare (group.Command Kill))) "2")
    × scans "kT" (plain (step (bare (group.Command Kill))) "T")
    × scans "V=" (plain (step (bare (group.Command View))) "=")
    × scans "Xa=" (plain (step (register Extract 0)) "=")
    × scans "xZ" (plain (step (register Extract 25)) "")
    × scans "[9" (plain (step (register Push 35)) "")
    × scans "]bT" (plain (step (register Pop 1)) "T")
    × (scan Named (20 ∷ keys "=") ≡ plain (step (bare (group.Command TypeByte))) "=")
    × scans "^tT" (plain (step (bare (group.Command TypeByte))) "T")
    × (scan Named (9 ∷ keys " a$2") ≡ plain (step (text InsertTab (codes " a"))) "2")
    × scans "==" (plain (step (bare (group.Command PrintOctal))) "")
    × scans "== =" (plain (step (bare (group.Command PrintOctal))) " =")
    × scans ":=" (colon (step (bare (group.Command Print))) "")
    × scans ":==3" (colon (step (bare (group.Command PrintOctal))) "3")
unfolding computing
found_edits = (refl, refl, refl, refl, refl, refl, refl, refl, refl, refl, refl, refl, refl, refl)

found_no_edits : scans ":K" (fault Ill)
    × scans "@V" (fault Ill)
    × scans ":^T" (fault Ill)
    × scans "X" (fault Utc)
    × scans "X?" (fault Iqn)
    × scans ":Xa" (fault Ill)
    × scans "@Xa" (fault Ill)
    × scans "[" (fault Utc)
    × scans "]?" (fault Iqn)
    × scans ":]a" (fault Ill)
    × (scan Named (9 ∷ []) ≡ fault Utc)
    × (scan Named (9 ∷ codes "ab") ≡ fault Utc)
    × (scan Named (64 ∷ 9 ∷ codes "/a/") ≡ fault Ill)
    × scans "^Ia$" (fault Ill)
unfolding computing
found_no_edits = (refl, refl, refl, refl, refl, refl, refl, refl, refl, refl, refl, refl, refl, refl)

-- searches: with @ the byte after the name ends each text
found_searches : scans "Sab$=" (plain (step (text Search (codes "ab"))) "=")
    × scans "s$T" (plain (step (text Search [])) "T")
    × scans ":Sa$" (colon (step (text Search (codes "a"))) "")
    × scans "@S/a$/2" (at_sign (step (text Search (keys "a$"))) "2")
    × (scan Named (keys "::Sa$=") ≡ found (record { modifiers = record { at = false; colons = 2 }; instruction = step (text Search (codes "a")) }) (codes "="))
    × (scan Named (keys ":@:S//") ≡ found (record { modifiers = record { at = true; colons = 2 }; instruction = step (text Search []) }) [])
    × scans "FSa$b$2" (plain (step (token.replace (codes "a") (codes "b"))) "2")
    × scans "fs$$=" (plain (step (token.replace [] [])) "=")
    × scans ":FSa$$" (colon (step (token.replace (codes "a") [])) "")
    × scans "@FS/a/b$/2" (at_sign (step (token.replace (codes "a") (keys "b$"))) "2")
unfolding computing
found_searches = (refl, refl, refl, refl, refl, refl, refl, refl, refl, refl)

-- searches over pages; N and _ are bytes, and ^N is another command
found_page_searches : scans "Nab$=" (plain (step (text SearchPages (codes "ab"))) "=")
    × scans "n$T" (plain (step (text SearchPages [])) "T")
    × scans "_a$_" (plain (step (text SearchPagesQuietly (codes "a"))) "_")
    × scans ":Na$" (colon (step (text SearchPages (codes "a"))) "")
    × scans ":_a$" (colon (step (text SearchPagesQuietly (codes "a"))) "")
    × scans "@N/a$/2" (at_sign (step (text SearchPages (keys "a$"))) "2")
    × scans "@_NaN_" (at_sign (step (text SearchPagesQuietly (codes "a"))) "_")
    × scans "N" (fault Utc)
    × scans "_a" (fault Utc)
    × scans "::Na$" (fault Ill)
    × scans "::_a$" (fault Ill)
    × scans "^_a$" (fault Ill)
unfolding computing
found_page_searches = (refl, refl, refl, refl, refl, refl, refl, refl, refl, refl, refl, refl)

found_no_searches : scans "S" (fault Utc)
    × scans "Sab" (fault Utc)
    × scans ":::S" (fault Ill)
    × scans "F" (fault Utc)
    × scans "F S" (fault Ill)
    × scans "FA" (fault Ill)
    × scans "FSa" (fault Utc)
    × scans "FSa$b" (fault Utc)
    × scans "@FS" (fault Utc)
    × scans "@FS/a/b" (fault Utc)
    × scans "::FSa$b$" (fault Ill)
unfolding computing
found_no_searches = (refl, refl, refl, refl, refl, refl, refl, refl, refl, refl, refl)

-- pages and numbers in the buffer; PW is one token, and a lone E is cut; ^X is its byte, or a caret and its letter
found_pages : scans "Y2" (plain (step (bare (group.Command NextPage))) "2")
    × scans "pP" (plain (step (bare (group.Command TurnPages))) "P")
    × scans "PW=" (plain (step (bare (group.Command WritePage))) "=")
    × scans "pwp" (plain (step (bare (group.Command WritePage))) "p")
    × scans "P W" (plain (step (bare (group.Command TurnPages))) " W")
    × scans "eX=" (plain (step (bare (group.Command Exit))) "=")
    × scans "\\=" (plain (step (bare (group.Level Decimal))) "=")
    × (scan Named (24 ∷ keys "=") ≡ plain (step (bare (group.Command CaseMode))) "=")
    × scans "^x=" (plain (step (bare (group.Command CaseMode))) "=")
    × scans "E" (fault Utc)
    × scans "E=" (fault Ill)
    × scans "E X" (fault Ill)
    × scans "@Y" (fault Ill)
    × scans ":PW" (fault Ill)
    × scans ":\\" (fault Ill)
    × scans ":^X" (fault Ill)
unfolding computing
found_pages = (refl, refl, refl, refl, refl, refl, refl, refl, refl, refl, refl, refl, refl, refl, refl, refl)

up_to : ℕ → List ℕ
up_to zero = []
up_to (suc n) = up_to n ++ n ∷ []

is_token : Scanned → Bool
is_token (found t bs) = true
is_token _ = false

-- the byte is all of the name
is_lone_name : ℕ → Name → Bool
is_lone_name b (One l) = upper b == l
is_lone_name b (Control l) = b + 64 == l
is_lone_name b _ = false

-- The bytes that are a token alone are the digits, and those names after which nothing follows.
single_bytes : filter (λ b. is_token (scan Named (b ∷ []))) (up_to 256) ≡ filter (λ b. is_digit b || list_any (λ r. is_lone_name b r.name && is_alone r.form && not (is_refused r.form)) ROWS) (up_to 256)
unfolding computing up_to is_token is_lone_name
single_bytes = refl
