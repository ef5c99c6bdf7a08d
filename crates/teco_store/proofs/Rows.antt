-- Worked rows of what calls leave, computed.
use Rattle.std.proofs.Common.{◌≡◌, ℕ, List, refl}
use Rattle.std.specs.Prelude.{[], ◌∷◌, true, false, Some, None, map, codes, slice_set, pos, ◌==◌, if◌then◌else◌}
use Prim.Native.String.{String}
use Rattle.teco_core.specs.Register.{blank}
use Rattle.teco_core.specs.declared.case_mode.CaseMode.TheVariants.{Either}
use Rattle.teco_store.specs.Page.{page_of, page_load, is_input_over, with_page, with_more, with_next_page, with_range_written, finished}
use Rattle.teco_store.specs.Search.{noted, replaced_noted, note_load}
use Rattle.teco_store.specs.State.{State, beginning, paged_beginning, with_register_number, with_register_text, pushed_from, popped_into, with_case}

-- the bytes of a text; ~ is a form feed
abbrev bytes : String → List ℕ
bytes text = map (λ b. if b == 126 then 12 else b) (codes text)

-- three pages, the last without a form feed
abbrev three : State
three = beginning (bytes "a~b~c")

abbrev at_first : State
at_first = record three { text = bytes "a"; place = 2; form_feed = true }

abbrev at_last : State
at_last = record three { text = bytes "c"; place = 5; output = bytes "a~b~" }

read_pages :
    (with_page three ≡ at_first)
    × (with_next_page at_first ≡ record three { text = bytes "b"; place = 4; output = bytes "a~"; form_feed = true })
    × (with_next_page (with_next_page at_first) ≡ at_last)
    × (is_input_over at_first ≡ false)
    × (is_input_over at_last ≡ true)
    -- With no input left the next page is empty, and its flag is off.
    × (with_next_page at_last ≡ record three { place = 5; output = bytes "a~b~c" })
    × (page_load at_first ≡ 2)
    -- A form feed at the end of the input leaves no page after it.
    × (with_page (beginning (bytes "a~")) ≡ record (beginning (bytes "a~")) { text = bytes "a"; place = 2; form_feed = true })
unfolding page_of
read_pages = (refl, refl, refl, refl, refl, refl, refl, refl)

appended_pages :
    (with_more (record at_first { pointer = 1 }) ≡ record three { text = bytes "ab"; pointer = 1; place = 4; form_feed = true })
    -- With no input left nothing changes, the flag neither.
    × (with_more (record at_last { form_feed = true }) ≡ record at_last { form_feed = true })
unfolding page_of
appended_pages = (refl, refl)

-- Pages of two lines, from the beginning of these bytes.
abbrev two_lines_each : String → State
two_lines_each text = paged_beginning 2 (bytes text)

pages_of_lines :
    -- fewer lines, and no line end at the end of the input
    (with_page (two_lines_each "a\nb") ≡ record (two_lines_each "a\nb") { text = bytes "a\nb"; place = 3 })
    -- just two: with no input left the next page is empty
    × (with_page (two_lines_each "a\nb\n") ≡ record (two_lines_each "a\nb\n") { text = bytes "a\nb\n"; place = 4 })
    -- more: no form feed is written after the page, since none was read
    × (with_next_page (with_page (two_lines_each "a\nb\nc")) ≡ record (two_lines_each "a\nb\nc") { text = bytes "c"; place = 5; output = bytes "a\nb\n" })
    -- A line may end with VT.
    × (with_page (two_lines_each "a\u{b}\nb") ≡ record (two_lines_each "a\u{b}\nb") { text = bytes "a\u{b}\n"; place = 3 })
    -- A form feed ends the page before the second line end does.
    × (with_page (two_lines_each "a\nb~c\n") ≡ record (two_lines_each "a\nb~c\n") { text = bytes "a\nb"; place = 4; form_feed = true })
    -- One right after it is the next page's, which is empty.
    × (with_page (two_lines_each "a\nb\n~c") ≡ record (two_lines_each "a\nb\n~c") { text = bytes "a\nb\n"; place = 4 })
    × (with_next_page (with_page (two_lines_each "a\nb\n~c")) ≡ record (two_lines_each "a\nb\n~c") { place = 5; output = bytes "a\nb\n"; form_feed = true })
    -- The next two lines come after the text.
    × (with_more (with_page (two_lines_each "a\nb\nc\nd\ne")) ≡ record (two_lines_each "a\nb\nc\nd\ne") { text = bytes "a\nb\nc\nd\n"; place = 8 })
    × (finished (with_page (two_lines_each "a\nb\nc")) ≡ record (two_lines_each "a\nb\nc") { place = 5; output = bytes "a\nb\nc"; is_done = true })
unfolding page_of
pages_of_lines = (refl, refl, refl, refl, refl, refl, refl, refl, refl)

-- Read, turned and finished, the output is the input.
abbrev two_lines : List ℕ
two_lines = bytes "one\n~two\n"

abbrev ended : List ℕ → State
ended input = record (beginning input) { place = 9; output = input; is_done = true }

written_out :
    (finished (with_next_page (with_page (beginning two_lines))) ≡ ended two_lines)
    × (finished (with_page (beginning two_lines)) ≡ ended two_lines)
    × (finished (beginning two_lines) ≡ ended two_lines)
    × (with_range_written (record at_last { text = bytes "abc" }) 1 2 true ≡ record at_last { text = bytes "abc"; output = bytes "a~b~b~" })
    × (with_range_written (record at_last { text = bytes "abc" }) 0 3 false ≡ record at_last { text = bytes "abc"; output = bytes "a~b~abc" })
unfolding page_of
written_out = (refl, refl, refl, refl, refl)

abbrev cat : State
cat = record (beginning []) { text = bytes "cat" }

searched :
    (noted cat (Some (bytes "a")) true 2 ≡ record cat { pointer = 2; last_search = Some (bytes "a"); last_found = true })
    × (noted (record cat { last_search = Some (bytes "a"); last_found = true }) None false 0 ≡ record cat { last_search = Some (bytes "a") })
    × (replaced_noted cat (Some (bytes "a")) 1 1 (bytes "oa") ≡ record cat { text = bytes "coat"; pointer = 3; last_search = Some (bytes "a"); last_found = true })
    -- A new text moves the old one and itself; none, or the same again, moves nothing.
    × (note_load cat (Some (bytes "abc")) ≡ 3)
    × (note_load (record cat { last_search = Some (bytes "ab") }) (Some (bytes "abc")) ≡ 5)
    × (note_load (record cat { last_search = Some (bytes "ab") }) (Some (bytes "ab")) ≡ 0)
    × (note_load (record cat { last_search = Some (bytes "ab") }) None ≡ 0)
searched = (refl, refl, refl, refl, refl, refl, refl)

-- Q holds 7 and x.
abbrev held : State
held = with_register_text (with_register_number cat 16 (pos 7)) 16 (bytes "x")

pushed_and_popped :
    (popped_into (pushed_from held 16) 16 ≡ held)
    × (popped_into (pushed_from held 16) 17 ≡ record held { registers = slice_set held.registers 17 (record { number = pos 7; text = bytes "x" }) })
    × ((pushed_from (pushed_from held 16) 0).pushed ≡ blank ∷ record { number = pos 7; text = bytes "x" } ∷ [])
    × (with_case cat Either ≡ record cat { case_mode = Either })
pushed_and_popped = (refl, refl, refl, refl)
