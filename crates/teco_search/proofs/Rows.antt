-- Worked rows of the definitions.
use Rattle.std.proofs.Common.{◌≡◌, ℕ, ◌+◌, ◌*◌, ◌%◌, ◌∷◌, [], Some, None, Ok, Err, pos, negsuc, refl, codes, arith}
use Rattle.teco_core.specs.declared.code.Code.TheVariants.{Ice}
use Rattle.teco_core.specs.declared.case_mode.CaseMode.{CaseMode}
use Rattle.teco_core.specs.declared.case_mode.CaseMode.TheVariants.{Exact, Either}
use Rattle.teco_search.specs.declared.element.Class.TheVariants as class
use Rattle.teco_search.specs.declared.element.SetItem.TheVariants as item
use Rattle.teco_search.specs.declared.element.OneByte.TheVariants.{Single, Listed}
use Rattle.teco_search.specs.declared.element.Element.{Element}
use Rattle.teco_search.specs.declared.element.Element.TheVariants.{Among, Except, Blanks}
use Rattle.teco_search.specs.Reading.{byte_at, item_at, listed_at, items_at, one_byte_at, element_at, elements_at, read}
use Rattle.teco_search.specs.Element.{is_in, item_admits, admits}
use Rattle.teco_search.specs.declared.window.TheConstants.{BASE, MODULUS}
use Rattle.teco_search.specs.Window.{window_value, window_number, IsLeaving}
use Rattle.teco_search.specs.Occurrence.{Sought, element_end, match_end, match_at, matches, chosen, forward, backward, occurrence}

abbrev plain : ℕ → Element
plain b = Among (Single (item.Byte b))

read-plain : read (codes "ab") ≡ Ok (plain 97 ∷ plain 98 ∷ [])
unfolding read elements_at element_at one_byte_at item_at byte_at
read-plain = refl

read-list : read (5 ∷ codes "[c,b]") ≡ Ok (Among (Listed (item.Byte 99 ∷ item.Byte 98 ∷ [])) ∷ [])
unfolding read elements_at element_at one_byte_at items_at listed_at item_at byte_at
read-list = refl

read-not : read (14 ∷ 5 ∷ 97 ∷ 17 ∷ 14 ∷ 5 ∷ 115 ∷ []) ≡ Ok (Except (Single (item.Class class.Letter)) ∷ plain 14 ∷ Blanks ∷ [])
unfolding read elements_at element_at one_byte_at item_at byte_at
read-not = refl

read-not_blanks : read (14 ∷ codes "ab") ≡ Ok (Except (Single (item.Byte 97)) ∷ plain 98 ∷ [])
unfolding read elements_at element_at one_byte_at item_at byte_at
read-not_blanks = refl

refused-open : read (5 ∷ codes "[c,b") ≡ Err Ice
unfolding read elements_at element_at one_byte_at items_at listed_at item_at byte_at
refused-open = refl

refused-empty : read (5 ∷ codes "[]") ≡ Err Ice
unfolding read elements_at element_at one_byte_at items_at listed_at item_at byte_at
refused-empty = refl

refused-run_not : read (14 ∷ 5 ∷ 83 ∷ []) ≡ Err Ice
unfolding read elements_at element_at one_byte_at items_at listed_at item_at byte_at
refused-run_not = refl

refused-end : read (17 ∷ []) ≡ Err Ice
unfolding read elements_at element_at one_byte_at items_at listed_at item_at byte_at
refused-end = refl

abbrev aXb : Sought
aXb = record { mode = Exact; elements = plain 97 ∷ plain 88 ∷ plain 98 ∷ [] }

back-twice : occurrence aXb (codes "aXbaXb") 6 (negsuc 1) ≡ Some (0, 3)
unfolding occurrence backward chosen matches match_at match_end element_end admits item_admits is_in
back-twice = refl

forward-twice : occurrence aXb (codes "aXbaXb") 0 (pos 2) ≡ Some (3, 6)
unfolding occurrence forward chosen matches match_at match_end element_end admits item_admits is_in
forward-twice = refl

forward-no_third : occurrence aXb (codes "aXbaXb") 0 (pos 3) ≡ None
unfolding occurrence forward chosen matches match_at match_end element_end admits item_admits is_in
forward-no_third = refl

abbrev aa : CaseMode → Sought
aa mode = record { mode = mode; elements = plain 97 ∷ plain 97 ∷ [] }

overlaps-not : forward (aa Exact) (codes "aaaaa") 0 ≡ (0, 2) ∷ (2, 4) ∷ []
unfolding forward chosen matches match_at match_end element_end admits item_admits is_in
overlaps-not = refl

backward-from_inside : backward (aa Exact) (codes "aaaaa") 2 ≡ (2, 4) ∷ (0, 2) ∷ []
unfolding backward chosen matches match_at match_end element_end admits item_admits is_in
backward-from_inside = refl

either-case : forward (aa Either) (codes "baAAa") 0 ≡ (1, 3) ∷ (3, 5) ∷ []
unfolding forward chosen matches match_at match_end element_end admits item_admits is_in
either-case = refl

run-gives_nothing_back : forward (record { mode = Exact; elements = Blanks ∷ plain 32 ∷ [] }) (codes "a  b") 0 ≡ []
unfolding forward chosen matches match_at match_end element_end admits item_admits is_in
run-gives_nothing_back = refl

run-longest : forward (record { mode = Exact; elements = Blanks ∷ plain 98 ∷ [] }) (codes "a  b") 0 ≡ (1, 4) ∷ []
unfolding forward chosen matches match_at match_end element_end admits item_admits is_in
run-longest = refl

number-ab : window_number (codes "xab") 1 2 ≡ 408677766
unfolding window_value
number-ab = refl

number-bc : window_number (codes "abc") 1 2 ≡ 722837032
unfolding window_value
number-bc = refl

leaving-two : IsLeaving 2459371799 2
leaving-two = record { small = omega arith; worthless = refl }

-- The number of ab rolls on to that of bc: c enters, and a leaves.
rolled-on : (408677766 * BASE + 99 + 97 * 2459371799) % MODULUS ≡ 722837032
rolled-on = refl
