-- Worked rows of strings, computed.
use Rattle.std.proofs.Common.{◌≡◌, refl, [], Some, None, true, false, pos, negsuc, length, ℕ, Bool, List, map, codes, Option, ◌==◌, if◌then◌else◌}
use Rattle.std.specs.Fmt.{digits}
use Prim.Native.String.{String}
use Rattle.teco_core.specs.declared.code.Code.{Code}
use Rattle.teco_core.specs.Number.{digits_value}
use Rattle.teco_core.specs.Arguments.{give, operate, open_level, close_level, comma, give_pair, taken_from}
use Rattle.teco_scan.specs.Scan.{scan, test_of, byte_at, register_at, test_at, delimiter_at, text_at, operand_at, modifiers_at, after_letter, after_name, ends_inside, row_at, is_cut, command_at, run_of as digits_of, after_run, token_from, after_fillers}
use Rattle.teco_scan.specs.Lists.{list_at, list_within}
use Rattle.teco_store.specs.State.{State, beginning, with_register_number, with_register_text}
use Rattle.teco_step.specs.Effect.{effect}
use Rattle.teco_step.specs.Line.{line_ends_from}
use Rattle.teco_exec.specs.Meaning.{meaning, layers, list_by, turns_by, further_by}
use Rattle.teco_exec.specs.StringMeaning.{StringMeaning, string_run, string_meaning}
use Rattle.teco_core.specs.declared.code.Code.TheVariants as code
use Rattle.teco_store.specs.Page.{page_of}
use Rattle.teco_scan.specs.declared.command.Test.TheVariants as test
use Rattle.teco_exec.specs.Test.{holds}
use Rattle.teco_core.specs.declared.case_mode.CaseMode.TheVariants.{Either}
use Rattle.teco_search.specs.Element.{admits, is_in, item_admits}
use Rattle.teco_search.specs.Occurrence.{backward, chosen, element_end, forward, match_at, match_end, matches, occurrence}
use Rattle.teco_search.specs.Reading.{byte_at as byte_read, element_at, elements_at, item_at, items_at, listed_at, one_byte_at, read}

-- the bytes of a text; $ is ESC
abbrev keys : String → List ℕ
keys text = map (λ b. if b == 36 then 27 else b) (codes text)

-- this state, these typed bytes, this code, so many steps and this load
abbrev says : State → List ℕ → Option Code → ℕ → ℕ → StringMeaning
says s typed code steps load = record { state = s; typed = typed; code = code; steps = steps; load = load }

-- what a text does from the beginning under a limit that it does not reach, and under this one
abbrev does : String → StringMeaning
does text = string_meaning (beginning []) (keys text) 1000000

abbrev within : ℕ → String → StringMeaning
within limit text = string_meaning (beginning []) (keys text) limit

-- these typed bytes, this code and so many steps, and nothing is changed
abbrev types : String → Option Code → ℕ → StringMeaning
types typed code steps = says (beginning []) (keys typed) code steps 0

-- all that a run computes with
unfoldable computing : ℕ
unfolding string_run meaning layers list_by turns_by further_by effect line_ends_from digits_value give operate open_level close_level comma give_pair taken_from list_at list_within scan test_of byte_at register_at test_at delimiter_at text_at operand_at modifiers_at after_letter after_name ends_inside row_at is_cut command_at digits_of after_run token_from after_fillers digits
computing = 0

values :
    (does "$" ≡ types "" None 0)
    × (does "" ≡ types "" None 0)
    × (does "5J$" ≡ types "" (Some code.Pop) 2)
    × (does "Ihello$0J3C.=$" ≡ says (record (beginning []) { text = keys "hello"; pointer = 3 }) (keys "3\r\n") None 7 5)
    -- Operators are taken from left to right.
    × (does "2+3*4=$" ≡ types "20\r\n" None 6)
    × (does "2147483647+1=$" ≡ types "" (Some code.Ovf) 3)
    × (does "256I$" ≡ types "" (Some code.Arg) 2)
unfolding computing
values = (refl, refl, refl, refl, refl, refl, refl)

limits_and_faults :
    -- A step that is reached when the limit's steps are taken isn't begun.
    (within 0 "1=$" ≡ types "" (Some code.Lim) 0)
    × (within 1 "1=$" ≡ types "" (Some code.Lim) 1)
    × (within 2 "1=$" ≡ types "1\r\n" None 2)
    -- A fault is met where it is, and no sooner.
    × (does "1===$" ≡ types "" (Some code.Ill) 1)
    × (does "Iab" ≡ types "" (Some code.Utc) 0)
    × (does "7=Iab" ≡ types "7\r\n" (Some code.Utc) 2)
    × (does "5JIab" ≡ types "" (Some code.Pop) 2)
unfolding computing
limits_and_faults = (refl, refl, refl, refl, refl, refl, refl)

typed_lines :
    -- T types lines from the pointer.
    (does "Iab$0JT$" ≡ says (record (beginning []) { text = keys "ab" }) (keys "ab") None 4 2)
    × (does "Ia\nb\nc$0J2T$" ≡ says (record (beginning []) { text = keys "a\nb\nc" }) (keys "a\nb\n") None 5 5)
    × (does "Ia\nb\nc$0TT$" ≡ says (record (beginning []) { text = keys "a\nb\nc"; pointer = 5 }) (keys "c") None 4 5)
    -- ESC drops the arguments.
    × (does "1$=$" ≡ types "" (Some code.Nae) 2)
    -- What was there before a string stays, and its load is of its own steps alone.
    × (string_meaning (record (beginning []) { text = keys "ab"; pointer = 1 }) (keys "Ixy$Z=.=") 1000000 ≡ says (record (beginning []) { text = keys "axyb"; pointer = 3 }) (keys "4\r\n3\r\n") None 5 2)
unfolding computing
typed_lines = (refl, refl, refl, refl, refl)

turns :
    (does "2<7=>$" ≡ types "7\r\n7\r\n" None 8)
    × (within 8 "2<7=>$" ≡ types "7\r\n7\r\n" None 8)
    -- The end of the last turn uses a step too.
    × (within 7 "2<7=>$" ≡ types "7\r\n7\r\n" (Some code.Lim) 7)
    × (does "0<7=>$" ≡ types "" None 2)
    × (does "-2<7=>$" ≡ types "" None 3)
    × (within 10 "<7=>$" ≡ types "7\r\n7\r\n7\r\n" (Some code.Lim) 10)
    -- Each turn begins without arguments.
    × (does "2<7>=$" ≡ types "" (Some code.Nae) 7)
    × (does "3<Ix$>$" ≡ says (record (beginning []) { text = keys "xxx"; pointer = 3 }) [] None 8 3)
unfolding computing
turns = (refl, refl, refl, refl, refl, refl, refl, refl)

leaving :
    -- `;` leaves the innermost iteration, also out of a conditional, and the blocks around it go on.
    (does "2<<1\"G0;'7=>8=>9=$" ≡ types "8\r\n8\r\n9\r\n" None 20)
    -- Below 0 it goes on.
    × (does "1<-1;7=>$" ≡ types "7\r\n" None 8)
    -- Without n it takes the last search result, at first that of a failed search.
    × (does "1<;7=>8=$" ≡ types "8\r\n" None 5)
    × (does "1;$" ≡ types "" (Some code.Sni) 2)
unfolding computing
leaving = (refl, refl, refl, refl)

parts :
    (does "1\"G7=|8='$" ≡ types "7\r\n" None 4)
    × (does "0\"G7=|8='$" ≡ types "8\r\n" None 4)
    × (does "1\"G2=|3='4=$" ≡ types "2\r\n4\r\n" None 6)
    -- A conditional drops the arguments that its part leaves.
    × (does "1\"G7|8'=$" ≡ types "" (Some code.Nae) 4)
    × (does "\"G7=|8='$" ≡ types "" (Some code.Naq) 1)
unfolding computing
parts = (refl, refl, refl, refl, refl)

marks :
    -- A fault inside a block that is skipped is met at the block.
    (does "0<?>1=$" ≡ types "" (Some code.Ill) 2)
    × (does "1=>2=$" ≡ types "1\r\n" (Some code.Bni) 2)
    × (does "0\"Z1='$" ≡ types "" (Some code.Iqc) 1)
    -- A mark inside a text is none.
    × (does "0<Ia>b$>Iok$" ≡ says (record (beginning []) { text = keys "ok"; pointer = 2 }) [] None 3 2)
    -- The end of the text inside a block is met when it is reached.
    × (does "3<Ix$" ≡ says (record (beginning []) { text = keys "x"; pointer = 1 }) [] (Some code.Utc) 3 1)
unfolding computing
marks = (refl, refl, refl, refl, refl)

-- The tests of bytes, at their bounds.
upper_and_lower : (holds test.Upper (pos 64) ≡ false) × (holds test.Upper (pos 65) ≡ true) × (holds test.Upper (pos 90) ≡ true) × (holds test.Upper (pos 91) ≡ false)
    × (holds test.Lower (pos 96) ≡ false) × (holds test.Lower (pos 97) ≡ true) × (holds test.Lower (pos 122) ≡ true) × (holds test.Lower (pos 123) ≡ false)
upper_and_lower = (refl, refl, refl, refl, refl, refl, refl, refl)

letters_and_digits : (holds test.Letter (pos 65) ≡ true) × (holds test.Letter (pos 122) ≡ true) × (holds test.Letter (pos 48) ≡ false) × (holds test.Letter (pos 321) ≡ false)
    × (holds test.Digit (pos 47) ≡ false) × (holds test.Digit (pos 48) ≡ true) × (holds test.Digit (pos 57) ≡ true) × (holds test.Digit (pos 58) ≡ false)
    × (holds test.LetterOrDigit (pos 90) ≡ true) × (holds test.LetterOrDigit (pos 57) ≡ true) × (holds test.LetterOrDigit (pos 95) ≡ false) × (holds test.LetterOrDigit (negsuc 0) ≡ false)
letters_and_digits = (refl, refl, refl, refl, refl, refl, refl, refl, refl, refl, refl, refl)

bytes_of_names : (holds test.NameByte (pos 36) ≡ true) × (holds test.NameByte (pos 46) ≡ true) × (holds test.NameByte (pos 95) ≡ true) × (holds test.NameByte (pos 45) ≡ false)
    × (holds test.NameByte (pos 97) ≡ true) × (holds test.NameByte (pos 57) ≡ true) × (holds test.NameByte (pos 96) ≡ false) × (holds test.NameByte (pos 302) ≡ false)
bytes_of_names = (refl, refl, refl, refl, refl, refl, refl, refl)

jumps :
    (within 5 "!x!Ox$" ≡ types "" (Some code.Lim) 5)
    -- A fault before a tag hides it.
    × (does "Ox$?!x!$" ≡ types "" (Some code.Tag) 1)
    -- A jump enters no block.
    × (does "Ox$0<!x!>$" ≡ types "" (Some code.Tag) 1)
    -- Out of a block it goes, and an iteration that has the tag keeps its turns.
    × (does "2<1\"GOx$'7=!x!8=>$" ≡ types "8\r\n8\r\n" None 14)
    × (does "0UA<!x!%A-3\"LOx$'1;>QA=$" ≡ says (with_register_number (beginning []) 0 (pos 3)) (keys "3\r\n") None 21 0)
unfolding computing
jumps = (refl, refl, refl, refl, refl)

calls :
    -- A macro is inside no iteration.
    (does "@^UA/;/<MA>$" ≡ says (with_register_text (beginning []) 0 (keys ";")) [] (Some code.Sni) 4 1)
    -- It takes the arguments, and gives back those that it leaves.
    × (does "@^UA/+1/2MA=$" ≡ says (with_register_text (beginning []) 0 (keys "+1")) (keys "3\r\n") None 6 2)
    -- A jump in a macro that has no such tag is an error there.
    × (does "@^UA/Ox$/MA!x!$" ≡ says (with_register_text (beginning []) 0 (keys "Ox$")) [] (Some code.Tag) 3 3)
    -- The 33rd call is too deep.
    × (does "@^UA/MA/MA$" ≡ says (with_register_text (beginning []) 0 (keys "MA")) [] (Some code.Pdo) 34 2)
    -- A call runs the text with which it began.
    × (does "@^UA/^UAy$Ix$/MA$" ≡ says (record (with_register_text (beginning []) 0 (keys "y")) { text = keys "x"; pointer = 1 }) [] None 4 18)
unfolding computing
calls = (refl, refl, refl, refl, refl)

-- Strings that edit, and numbers and registers.
numbers :
    (does "(2+3)*(4-1):=$" ≡ types "15" None 12)
    × (does "-1==$" ≡ types "37777777777\r\n" None 3)
    × (does "3UA%A=5%A=$" ≡ says (with_register_number (beginning []) 0 (pos 9)) (keys "4\r\n9\r\n") None 7 0)
    × (does "2147483647UA%A$" ≡ says (with_register_number (beginning []) 0 (pos 2147483647)) [] (Some code.Ovf) 3 0)
unfolding computing
numbers = (refl, refl, refl, refl)

edits :
    (does "Iab$3D$" ≡ says (record (beginning []) { text = keys "ab"; pointer = 2 }) [] (Some code.Dtb) 3 2)
    × (does "Ione\ntwo\n$-LK$" ≡ says (record (beginning []) { text = keys "one\n"; pointer = 4 }) [] None 4 12)
    × (does "Iabcd$3,1K.=$" ≡ says (record (beginning []) { text = keys "ad"; pointer = 1 }) (keys "1\r\n") None 7 6)
    × (does "Iab-12c$2J\\:=.=$" ≡ says (record (beginning []) { text = keys "ab-12c"; pointer = 5 }) (keys "-125\r\n") None 7 6)
unfolding computing
edits = (refl, refl, refl, refl)

-- The push-down list holds 64.
pushes :
    ((does "[A[A[A[A[A[A[A[A[A[A[A[A[A[A[A[A[A[A[A[A[A[A[A[A[A[A[A[A[A[A[A[A[A[A[A[A[A[A[A[A[A[A[A[A[A[A[A[A[A[A[A[A[A[A[A[A[A[A[A[A[A[A[A[A[A$").code ≡ Some code.Pdo)
    × ((does "[A[A[A[A[A[A[A[A[A[A[A[A[A[A[A[A[A[A[A[A[A[A[A[A[A[A[A[A[A[A[A[A[A[A[A[A[A[A[A[A[A[A[A[A[A[A[A[A[A[A[A[A[A[A[A[A[A[A[A[A[A[A[A[A[A$").steps ≡ 65)
    × (length (does "[A[A[A[A[A[A[A[A[A[A[A[A[A[A[A[A[A[A[A[A[A[A[A[A[A[A[A[A[A[A[A[A[A[A[A[A[A[A[A[A[A[A[A[A[A[A[A[A[A[A[A[A[A[A[A[A[A[A[A[A[A[A[A[A[A$").state.pushed ≡ 64)
    × (does "]A$" ≡ types "" (Some code.Cpq) 1)
unfolding computing
pushes = (refl, refl, refl, refl)

-- Tests of the characters of a text.
tests :
    does "Iq7$0J0A\"V^Alower\u{1}'1A\"D^A digit\u{1}'$" ≡ says (record (beginning []) { text = keys "q7" }) (keys "lower digit") None 11 2
unfolding computing
tests = refl

-- Strings over the pages a and b.
abbrev two_pages : State
two_pages = beginning (keys "a\u{c}b")

pages :
    -- Each page that nP turns is a step.
    (string_meaning two_pages (keys "2P$") 1000000 ≡ says (record two_pages { text = keys "b"; place = 3; output = keys "a\u{c}" }) [] None 3 3)
    × (string_meaning two_pages (keys "2P$") 2 ≡ says (record two_pages { text = keys "a"; place = 2; form_feed = true }) [] (Some code.Lim) 2 1)
    × (string_meaning two_pages (keys "0P$") 1000000 ≡ says two_pages [] (Some code.Ipa) 2 0)
    × (string_meaning two_pages (keys "YY$") 1000000 ≡ says (record two_pages { text = keys "a"; place = 2; form_feed = true }) [] (Some code.Yca) 2 1)
    -- An exit ends the run, in a macro too.
    × (string_meaning two_pages (keys "YEX1=$") 1000000 ≡ says (record two_pages { place = 3; output = keys "a\u{c}b"; is_done = true }) [] None 2 2)
    × (string_meaning two_pages (keys "@^UA/EX/YMA1=$") 1000000 ≡ says (record (with_register_text two_pages 0 (keys "EX")) { place = 3; output = keys "a\u{c}b"; is_done = true }) [] None 4 4)
unfolding computing page_of
pages = (refl, refl, refl, refl, refl, refl)

-- all that a search computes with, beside that
unfoldable searching : ℕ
unfolding computing read elements_at element_at one_byte_at items_at listed_at item_at byte_read occurrence forward backward chosen matches match_at match_end element_end admits item_admits is_in
searching = 0

-- the buffer has this text, and a search was made for another
abbrev after_search : String → ℕ → String → Bool → State
after_search text place last is_found = record (beginning []) { text = keys text; pointer = place; last_search = Some (keys last); last_found = is_found }

-- Each search of an iteration is one step, that which fails too, and a ; comes after it.
iterations :
    (within 14 "Iaaaa$0J<Saa$;%A$>$" ≡ says (with_register_number (after_search "aaaa" 0 "aa" false) 0 (pos 2)) [] None 14 6)
    × (within 13 "Iaaaa$0J<Saa$;%A$>$" ≡ says (with_register_number (after_search "aaaa" 0 "aa" false) 0 (pos 2)) [] (Some code.Lim) 13 6)
    × (within 12 "Iaaaa$0J<Saa$;%A$>$" ≡ says (with_register_number (after_search "aaaa" 4 "aa" true) 0 (pos 2)) [] (Some code.Lim) 12 6)
    -- No ; follows at once, so the failure ends the string.
    × (does "Iab$<Sx$0;>$" ≡ says (after_search "ab" 0 "x" false) [] (Some code.Srh) 3 3)
unfolding searching
iterations = (refl, refl, refl, refl)

searches :
    (does "Ixabxab$-2Sab$.=$" ≡ says (after_search "xabxab" 3 "ab" true) (keys "3\r\n") None 6 8)
    × (does "Iab$0J::Sa$=.=$" ≡ says (after_search "ab" 1 "a" true) (keys "-1\r\n1\r\n") None 7 3)
    × (does "Ia1  b$0JS\u{5}D\u{5}Sb$.=$" ≡ says (after_search "a1  b" 5 "\u{5}D\u{5}Sb" true) (keys "5\r\n") None 6 10)
    × (does "Icat$0J@FS/a/oa/HT$" ≡ says (after_search "coat" 3 "a" true) (keys "coat") None 6 7)
    × (does ":Sx$=$" ≡ says (after_search "" 0 "x" false) (keys "0\r\n") None 2 1)
    × (does "S$" ≡ says (beginning []) [] (Some code.Iss) 1 0)
    × (does "Iaaa$-2Saa$" ≡ says (after_search "aaa" 0 "aa" false) [] (Some code.Srh) 4 5)
    × (does "Iabc$0J@S/\u{5}[c,b]/.=$" ≡ says (after_search "abc" 2 "\u{5}[c,b]" true) (keys "2\r\n") None 6 9)
    × (does "Iab$0JS\u{e}a$.=$" ≡ says (after_search "ab" 2 "\u{e}a" true) (keys "2\r\n") None 6 4)
    × (does "0^XIaBc$0JSbC$.=$" ≡ says (record (after_search "aBc" 3 "bC" true) { case_mode = Either }) (keys "3\r\n") None 8 5)
    × (does "Iab$J:SB$=0^X:SB$=$" ≡ says (record (after_search "ab" 2 "B" true) { case_mode = Either }) (keys "0\r\n-1\r\n") None 8 3)
    × (does "1^X$" ≡ says (beginning []) [] (Some code.Arg) 2 0)
    × (does "0^XIab$0JS\u{e}A$.=$" ≡ says (record (after_search "ab" 2 "\u{e}A" true) { case_mode = Either }) (keys "2\r\n") None 8 4)
unfolding searching
searches = (refl, refl, refl, refl, refl, refl, refl, refl, refl, refl, refl, refl, refl)

-- Each page that is turned or searched is a step.
abbrev three_pages : State
three_pages = beginning (keys "a\u{c}b\u{c}c")

abbrev on_the_last : ℕ → Bool → State
on_the_last place is_found = record three_pages { text = keys "c"; pointer = place; place = 5; output = keys "a\u{c}b\u{c}"; last_search = Some (keys "c"); last_found = is_found }

page_searches :
    (string_meaning three_pages (keys "YNc$") 1000000 ≡ says (on_the_last 1 true) [] None 6 6)
    × (string_meaning three_pages (keys "YNc$") 5 ≡ says (on_the_last 0 false) [] (Some code.Lim) 5 6)
    × (string_meaning (beginning (keys "a\u{c}b")) (keys "Y_b$") 1000000 ≡ says (record (beginning (keys "a\u{c}b")) { text = keys "a"; place = 2; form_feed = true; last_search = Some (keys "b") }) [] (Some code.Yca) 3 2)
unfolding searching page_of
page_searches = (refl, refl, refl)
