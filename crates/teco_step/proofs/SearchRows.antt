-- Searches, by computing.
use Rattle.std.proofs.Common.{◌≡◌, ℕ, ◌+◌, List, [], length, Some, Bool, true, false, pos, negsuc, refl, length-append}
use Rattle.std.specs.Prelude.{codes, Err}
use Prim.Native.String.{String}
use Rattle.teco_core.specs.declared.code.Code.TheVariants.{Arg, Big, Ice, Isa, Iss, Mrp, Srh}
use Rattle.teco_core.specs.declared.case_mode.CaseMode.TheVariants.{Either}
use Rattle.teco_core.specs.declared.limits.TheConstants.{TEXT_LIMIT}
use Rattle.teco_core.specs.Arguments.{Arguments, no_arguments, give, taken_from}
use Rattle.teco_scan.specs.declared.command.TextCommand.TheVariants.{Search}
use Rattle.teco_scan.specs.Scan.{Item, text, replace}
use Rattle.teco_search.specs.Element.{admits, is_in, item_admits}
use Rattle.teco_search.specs.Occurrence.{backward, chosen, element_end, forward, match_at, match_end, matches, occurrence}
use Rattle.teco_search.specs.Reading.{byte_at, element_at, elements_at, item_at, items_at, listed_at, one_byte_at, read}
use Rattle.teco_store.specs.State.{State}
use Rattle.teco_step.specs.Effect.{effect}
use Rattle.teco_step.specs.Searching.{notes}
use Rattle.teco_step.specs.declared.next.Setting.{Setting}
use Rattle.teco_step.specs.Step.{End, Step, stop}
use Rattle.teco_step.proofs.Rows.{alone, does, goes, holds, minus, opened, pair, refused, value}

-- all that a search computes with
unfoldable pub computing : ℕ
unfolding effect give taken_from read elements_at element_at one_byte_at items_at listed_at item_at byte_at occurrence forward backward chosen matches match_at match_end element_end admits item_admits is_in
computing = 0

-- a search for a text, and one that replaces
abbrev looks_for : String → Item
looks_for written = text Search (codes written)

abbrev pub puts_for : String → String → Item
puts_for written bytes = replace (codes written) (codes bytes)

-- the buffer has this text, and a search was made
abbrev pub after_search : String → ℕ → String → Bool → State
after_search written place last is_found = record (holds (codes written) place) { last_search = Some (codes last); last_found = is_found }

-- with so many colons; in an iteration, and before a ;
abbrev pub colons : ℕ → Setting
colons n = record alone { modifiers = record { at = false; colons = n } }

abbrev pub around : Bool → Bool → Setting
around inside before = record alone { inside = inside; before = before }

-- it fails
abbrev pub failed : State → ℕ → Step
failed s load = record { state = s; arguments = no_arguments; typed = []; load = load; end = stop Srh }

-- the nth from the pointer, forward and backward
occurrences :
    (does (looks_for "ab") (holds (codes "xabxab") 0) no_arguments ≡ goes (after_search "xabxab" 3 "ab" true) no_arguments [] 2)
    × (does (looks_for "ab") (holds (codes "xabxab") 0) (value (pos 2)) ≡ goes (after_search "xabxab" 6 "ab" true) no_arguments [] 2)
    × (does (looks_for "ab") (holds (codes "xabxab") 6) (value (negsuc 1)) ≡ goes (after_search "xabxab" 3 "ab" true) no_arguments [] 2)
    × (does (looks_for "ab") (holds (codes "xabxab") 4) minus ≡ goes (after_search "xabxab" 6 "ab" true) no_arguments [] 2)
    × (does (looks_for "\u{5}D\u{5}Sb") (holds (codes "a1  b") 0) no_arguments ≡ goes (after_search "a1  b" 5 "\u{5}D\u{5}Sb" true) no_arguments [] 5)
    × (does (looks_for "\u{5}[c,b]") (holds (codes "abc") 0) no_arguments ≡ goes (after_search "abc" 2 "\u{5}[c,b]" true) no_arguments [] 6)
    × (does (looks_for "\u{e}a") (holds (codes "ab") 0) no_arguments ≡ goes (after_search "ab" 2 "\u{e}a" true) no_arguments [] 2)
    × (does (looks_for "B") (record (holds (codes "ab") 0) { case_mode = Either }) no_arguments ≡ goes (record (after_search "ab" 2 "B" true) { case_mode = Either }) no_arguments [] 1)
unfolding computing
occurrences = (refl, refl, refl, refl, refl, refl, refl, refl)

-- An empty text means the last one. The same text again has no load, another that of both.
texts :
    (does (looks_for "") (after_search "abab" 2 "ab" false) no_arguments ≡ goes (after_search "abab" 4 "ab" true) no_arguments [] 0)
    × (does (looks_for "ab") (after_search "abab" 2 "ab" false) no_arguments ≡ goes (after_search "abab" 4 "ab" true) no_arguments [] 0)
    × (does (looks_for "b") (after_search "abab" 2 "aba" false) no_arguments ≡ goes (after_search "abab" 4 "b" true) no_arguments [] 4)
unfolding computing
texts = (refl, refl, refl)

-- A failed search leaves the pointer at 0. With a colon, and in an iteration before a ;, it is no error.
failures :
    (does (looks_for "x") (holds (codes "ab") 2) no_arguments ≡ failed (after_search "ab" 0 "x" false) 1)
    × (does (looks_for "aa") (holds (codes "aaa") 3) (value (negsuc 1)) ≡ failed (after_search "aaa" 0 "aa" false) 2)
    × (does (looks_for "") (after_search "ab" 2 "b" true) no_arguments ≡ failed (after_search "ab" 0 "b" false) 0)
    × (effect (looks_for "x") (around true true) (holds (codes "ab") 2) no_arguments ≡ goes (after_search "ab" 0 "x" false) no_arguments [] 1)
    × (effect (looks_for "x") (around true false) (holds (codes "ab") 2) no_arguments ≡ failed (after_search "ab" 0 "x" false) 1)
    × (effect (looks_for "x") (around false true) (holds (codes "ab") 2) no_arguments ≡ failed (after_search "ab" 0 "x" false) 1)
unfolding computing
failures = (refl, refl, refl, refl, refl, refl)

-- With a colon the result is given. With two the text is compared at the pointer, which stays where it is not there.
values :
    (effect (looks_for "x") (colons 1) (holds (codes "ab") 1) no_arguments ≡ goes (after_search "ab" 0 "x" false) (value (pos 0)) [] 1)
    × (effect (looks_for "b") (colons 1) (holds (codes "ab") 1) minus ≡ goes (after_search "ab" 2 "b" true) (value (negsuc 0)) [] 1)
    × (effect (looks_for "a") (colons 2) (holds (codes "ab") 0) no_arguments ≡ goes (after_search "ab" 1 "a" true) (value (negsuc 0)) [] 1)
    × (effect (looks_for "a") (colons 2) (holds (codes "aba") 1) no_arguments ≡ goes (after_search "aba" 1 "a" false) (value (pos 0)) [] 1)
    × (effect (looks_for "") (colons 2) (after_search "ab" 1 "b" false) no_arguments ≡ goes (after_search "ab" 2 "b" true) (value (negsuc 0)) [] 0)
unfolding computing
values = (refl, refl, refl, refl, refl)

-- First what is taken, then ISA, ISS and ICE; and nothing is changed.
refusals : let s = holds (codes "ab") 1 in
    (does (looks_for "") s (pair (pos 1) (pos 2)) ≡ refused s (pair (pos 1) (pos 2)) Arg)
    × (does (looks_for "") s opened ≡ refused s opened Mrp)
    × (does (looks_for "") s (value (pos 0)) ≡ refused s (value (pos 0)) Isa)
    × (does (looks_for "\u{12}") s (value (pos 0)) ≡ refused s (value (pos 0)) Isa)
    × (does (looks_for "") s no_arguments ≡ refused s no_arguments Iss)
    × (does (looks_for "\u{5}[a") s no_arguments ≡ refused s no_arguments Ice)
    × (effect (looks_for "") (colons 1) s no_arguments ≡ refused s no_arguments Iss)
    × (effect (looks_for "") (colons 2) s (value (pos 1)) ≡ refused s (value (pos 1)) Arg)
    × (effect (looks_for "\u{12}") (colons 2) s no_arguments ≡ refused s no_arguments Ice)
    × (does (puts_for "" "x") s (value (pos 0)) ≡ refused s (value (pos 0)) Isa)
    × (does (puts_for "" "x") s no_arguments ≡ refused s no_arguments Iss)
unfolding computing
refusals = (refl, refl, refl, refl, refl, refl, refl, refl, refl, refl, refl)

-- What is found is replaced, and the pointer goes after what came for it.
replacements :
    (does (puts_for "a" "oa") (holds (codes "cat") 0) no_arguments ≡ goes (after_search "coat" 3 "a" true) no_arguments [] 4)
    × (does (puts_for "b" "Q") (holds (codes "abcabc") 6) (value (negsuc 1)) ≡ goes (after_search "aQcabc" 2 "b" true) no_arguments [] 3)
    × (does (puts_for "" "") (after_search "aba" 0 "b" false) no_arguments ≡ goes (after_search "aa" 1 "b" true) no_arguments [] 1)
    × (effect (puts_for "b" "xyz") (colons 1) (holds (codes "abc") 0) no_arguments ≡ goes (after_search "axyzc" 4 "b" true) (value (negsuc 0)) [] 5)
    × (does (puts_for "z" "x") (holds (codes "abc") 3) no_arguments ≡ failed (after_search "abc" 0 "z" false) 1)
    × (effect (puts_for "z" "x") (colons 1) (holds (codes "abc") 3) no_arguments ≡ goes (after_search "abc" 0 "z" false) (value (pos 0)) [] 1)
    × (effect (puts_for "z" "x") (around true true) (holds (codes "abc") 3) no_arguments ≡ goes (after_search "abc" 0 "z" false) no_arguments [] 1)
unfolding computing
replacements = (refl, refl, refl, refl, refl, refl, refl)

-- A text that would pass its limit is BIG.
replacement_past_the_limit : (bytes : List ℕ) → length bytes ≡ TEXT_LIMIT + 1
    → does (replace (codes "a") bytes) (holds (codes "a") 0) no_arguments ≡ refused (holds (codes "a") 0) no_arguments Big
unfolding computing
replacement_past_the_limit bytes is = rw (length-append bytes [], is) refl

-- A search text past its limit is BIG, found or not: so before a failed search is SRH.
search_past_the_limit : (bytes : List ℕ) (is_found : Bool) (place : ℕ) (a : Arguments) (end : End) (s : State) → length bytes ≡ TEXT_LIMIT + 1
    → notes bytes is_found place a end s ≡ Err Big
search_past_the_limit bytes is_found place a end s is = rw (is, is) refl
