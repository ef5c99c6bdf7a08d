-- Steps of what the wide language has, and what the named one says to the same, by computing.
use Rattle.std.proofs.Common.{◌≡◌, refl, ℕ, List, [], ◌∷◌, Some, true, false, pos, negsuc}
use Rattle.std.specs.Prelude.{codes}
use Rattle.std.specs.Fmt.{digits}
use Prim.Native.String.{String}
use Rattle.teco_core.specs.declared.code.Code.TheVariants.{Arg, Iia, Isa, Iss, Nae, Nau}
use Rattle.teco_core.specs.declared.profile.Profile.TheVariants.{Wide}
use Rattle.teco_core.specs.Arguments.{no_arguments, give, taken_from}
use Rattle.teco_scan.specs.declared.command.Bare.TheVariants.{Command, Level}
use Rattle.teco_scan.specs.declared.command.Command.TheVariants.{PrintHexadecimal}
use Rattle.teco_scan.specs.declared.command.LevelCommand.TheVariants.{Distance}
use Rattle.teco_scan.specs.declared.command.RegisterCommand.TheVariants.{Number, Set}
use Rattle.teco_scan.specs.declared.command.TextCommand.TheVariants.{FindAndDelete, FindAndKill}
use Rattle.teco_scan.specs.Scan.{Item, bare, register, set_text, text}
use Rattle.teco_store.specs.State.{State, with_profile}
use Rattle.teco_step.specs.Effect.{effect}
use Rattle.teco_step.specs.Line.{line_ends_from}
use Rattle.teco_step.proofs.Rows.{does, goes, holds, keeps, lines, minus, pair, refused, seven, value, waits, with_colon}
use Rattle.teco_step.proofs.SearchRows.{after_search, around, colons, computing, failed, puts_for}

-- a state whose texts are read in Wide
abbrev wide : State → State
wide s = with_profile Wide s

-- all that these compute with
unfoldable all : ℕ
unfolding computing digits line_ends_from
all = 0

-- m,nUq gives m. In Named a pair is ARG, as a row says that stands with the others of U.
numbers :
    (does (register Set 0) (wide seven) (pair (pos 1) (negsuc 4)) ≡ goes (wide (keeps (negsuc 4) (codes "abc"))) (value (pos 1)) [] 0)
    × (does (register Set 0) (wide seven) (value (pos 2)) ≡ goes (wide (keeps (pos 2) (codes "abc"))) no_arguments [] 0)
    × (does (register Set 0) (wide seven) no_arguments ≡ refused (wide seven) no_arguments Nau)
unfolding all
numbers = (refl, refl, refl)

-- n^Uq$ has the byte n for its text.
texts :
    (does (set_text 0 []) (wide seven) (value (pos 255)) ≡ goes (wide (keeps (pos 7) (255 ∷ []))) no_arguments [] 4)
    × (effect (set_text 0 []) with_colon (wide seven) (value (pos 100)) ≡ goes (wide (keeps (pos 7) (codes "abcd"))) no_arguments [] 7)
    × (does (set_text 0 (codes "xy")) (wide seven) no_arguments ≡ goes (wide (keeps (pos 7) (codes "xy"))) no_arguments [] 5)
    × (does (set_text 0 []) (wide seven) (value (pos 256)) ≡ refused (wide seven) (value (pos 256)) Arg)
    × (does (set_text 0 (codes "x")) (wide seven) (value (pos 1)) ≡ refused (wide seven) (value (pos 1)) Iia)
    × (does (set_text 0 []) (wide seven) (pair (pos 1) (pos 2)) ≡ refused (wide seven) (pair (pos 1) (pos 2)) Arg)
    × (does (set_text 0 []) seven (value (pos 100)) ≡ refused seven (value (pos 100)) Arg)
    × (does (set_text 0 []) seven (pair (pos 1) (pos 2)) ≡ refused seven (pair (pos 1) (pos 2)) Arg)
unfolding all
texts = (refl, refl, refl, refl, refl, refl, refl, refl)

-- nQq gives the code of byte n. An operator and a sign before Qq mean its number.
bytes :
    (does (register Number 0) (wide seven) (value (pos 0)) ≡ goes (wide seven) (value (pos 97)) [] 0)
    × (does (register Number 0) (wide seven) (pair (pos 1) (pos 2)) ≡ goes (wide seven) (pair (pos 1) (pos 99)) [] 0)
    × (does (register Number 0) (wide seven) (value (pos 3)) ≡ goes (wide seven) (value (negsuc 0)) [] 0)
    × (does (register Number 0) (wide seven) (value (negsuc 0)) ≡ goes (wide seven) (value (negsuc 0)) [] 0)
    × (does (register Number 0) (wide seven) no_arguments ≡ goes (wide seven) (value (pos 7)) [] 0)
    × (does (register Number 0) (wide seven) (waits (pos 2)) ≡ goes (wide seven) (value (pos 9)) [] 0)
    × (does (register Number 0) (wide seven) minus ≡ goes (wide seven) (value (negsuc 6)) [] 0)
    × (effect (register Number 0) with_colon (wide seven) (value (pos 1)) ≡ refused (wide seven) (value (pos 1)) Arg)
    × (effect (register Number 0) with_colon (wide seven) no_arguments ≡ goes (wide seven) (value (pos 3)) [] 0)
unfolding all
bytes = (refl, refl, refl, refl, refl, refl, refl, refl, refl)

-- n^Q gives how far line n is.
distances :
    (does (bare (Level Distance)) (holds lines 3) no_arguments ≡ goes (holds lines 3) (value (pos 1)) [] 0)
    × (does (bare (Level Distance)) (holds lines 3) (value (pos 2)) ≡ goes (holds lines 3) (value (pos 2)) [] 0)
    × (does (bare (Level Distance)) (holds lines 3) (value (pos 0)) ≡ goes (holds lines 3) (value (negsuc 0)) [] 0)
    × (does (bare (Level Distance)) (holds lines 5) minus ≡ goes (holds lines 5) (value (negsuc 0)) [] 0)
    × (does (bare (Level Distance)) (holds lines 5) (value (negsuc 4)) ≡ goes (holds lines 5) (value (negsuc 4)) [] 0)
    × (does (bare (Level Distance)) (holds lines 3) (waits (pos 3)) ≡ goes (holds lines 3) (value (pos 4)) [] 0)
    × (does (bare (Level Distance)) (holds lines 1) (pair (pos 1) (pos 1)) ≡ goes (holds lines 1) (pair (pos 1) (pos 1)) [] 0)
unfolding all
distances = (refl, refl, refl, refl, refl, refl, refl)

-- n=== types in hexadecimal.
hexadecimal :
    (does (bare (Command PrintHexadecimal)) seven (value (pos 48879)) ≡ goes seven no_arguments (codes "BEEF\r\n") 0)
    × (does (bare (Command PrintHexadecimal)) seven (value (negsuc 0)) ≡ goes seven no_arguments (codes "FFFFFFFF\r\n") 0)
    × (does (bare (Command PrintHexadecimal)) seven (value (pos 0)) ≡ goes seven no_arguments (codes "0\r\n") 0)
    × (effect (bare (Command PrintHexadecimal)) with_colon seven (value (pos 4096)) ≡ goes seven no_arguments (codes "1000") 0)
    × (does (bare (Command PrintHexadecimal)) seven no_arguments ≡ refused seven no_arguments Nae)
    × (does (bare (Command PrintHexadecimal)) seven (pair (pos 1) (pos 2)) ≡ refused seven (pair (pos 1) (pos 2)) Arg)
unfolding all
hexadecimal = (refl, refl, refl, refl, refl, refl)

abbrev deletes : String → Item
deletes written = text FindAndDelete (codes written)

abbrev kills : String → Item
kills written = text FindAndKill (codes written)

-- FD deletes what was found.
deletions :
    (does (deletes "b") (holds (codes "abcb") 0) no_arguments ≡ goes (after_search "acb" 1 "b" true) no_arguments [] 2)
    × (does (deletes "b") (holds (codes "abcb") 0) (value (pos 2)) ≡ goes (after_search "abc" 3 "b" true) no_arguments [] 2)
    × (effect (deletes "b") (colons 1) (holds (codes "abcb") 4) (value (negsuc 1)) ≡ goes (after_search "acb" 1 "b" true) (value (negsuc 0)) [] 2)
    × (does (deletes "x") (holds (codes "ab") 2) no_arguments ≡ failed (after_search "ab" 0 "x" false) 1)
    × (effect (deletes "x") (around true true) (holds (codes "ab") 2) no_arguments ≡ goes (after_search "ab" 0 "x" false) no_arguments [] 1)
    × (does (deletes "") (holds (codes "ab") 2) no_arguments ≡ refused (holds (codes "ab") 2) no_arguments Iss)
unfolding all
deletions = (refl, refl, refl, refl, refl, refl)

-- FK deletes up to the end of what was found, from either side.
killings :
    (does (kills "c") (holds (codes "abcd") 1) no_arguments ≡ goes (after_search "ad" 1 "c" true) no_arguments [] 3)
    × (does (kills "b") (holds (codes "abab") 0) (value (pos 2)) ≡ goes (after_search "" 0 "b" true) no_arguments [] 5)
    × (does (kills "b") (holds (codes "abcd") 4) (value (negsuc 0)) ≡ goes (after_search "ab" 2 "b" true) no_arguments [] 3)
    × (does (kills "bc") (holds (codes "abcd") 1) minus ≡ goes (after_search "ad" 1 "bc" true) no_arguments [] 4)
    × (effect (kills "c") (colons 1) (holds (codes "abcd") 1) no_arguments ≡ goes (after_search "ad" 1 "c" true) (value (negsuc 0)) [] 3)
    × (effect (kills "x") (colons 1) (holds (codes "ab") 1) no_arguments ≡ goes (after_search "ab" 0 "x" false) (value (pos 0)) [] 1)
    × (does (kills "x") (holds (codes "ab") 1) no_arguments ≡ failed (after_search "ab" 0 "x" false) 1)
    × (does (kills "x") (holds (codes "ab") 1) (value (pos 0)) ≡ refused (holds (codes "ab") 1) (value (pos 0)) Isa)
unfolding all
killings = (refl, refl, refl, refl, refl, refl, refl, refl)

-- ::FS replaces only at the pointer, and takes nothing.
comparisons :
    (effect (puts_for "a" "xy") (colons 2) (holds (codes "aba") 2) no_arguments ≡ goes (after_search "abxy" 4 "a" true) (value (negsuc 0)) [] 4)
    × (effect (puts_for "a" "xy") (colons 2) (holds (codes "aba") 1) no_arguments ≡ goes (after_search "aba" 1 "a" false) (value (pos 0)) [] 1)
    × (effect (puts_for "" "") (colons 2) (after_search "aba" 0 "ab" false) no_arguments ≡ goes (after_search "a" 0 "ab" true) (value (negsuc 0)) [] 2)
    × (effect (puts_for "a" "xy") (colons 2) (holds (codes "aba") 0) (value (pos 1)) ≡ refused (holds (codes "aba") 0) (value (pos 1)) Arg)
    × (effect (puts_for "" "xy") (colons 2) (holds (codes "aba") 0) no_arguments ≡ refused (holds (codes "aba") 0) no_arguments Iss)
unfolding all
comparisons = (refl, refl, refl, refl, refl)
