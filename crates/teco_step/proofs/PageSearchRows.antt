-- Searches over pages, by computing.
use Rattle.std.proofs.Common.{◌≡◌, ℕ, [], ◌∷◌, ◌++◌, Some, Bool, true, false, pos, negsuc, refl}
use Rattle.std.specs.Prelude.{codes}
use Prim.Native.String.{String}
use Rattle.teco_core.specs.declared.code.Code.TheVariants.{Arg, Ice, Isa, Iss, Mrp, Yca}
use Rattle.teco_core.specs.Arguments.{no_arguments}
use Rattle.teco_scan.specs.declared.command.TextCommand.TheVariants.{SearchPages, SearchPagesQuietly}
use Rattle.teco_scan.specs.Scan.{Item, text}
use Rattle.teco_store.specs.Page.{page_of}
use Rattle.teco_store.specs.State.{State, beginning}
use Rattle.teco_step.specs.Effect.{effect}
use Rattle.teco_step.specs.declared.next.Setting.{Setting}
use Rattle.teco_step.specs.Step.{Step, again}
use Rattle.teco_step.specs.declared.next.Work.{Work}
use Rattle.teco_step.proofs.Rows.{alone, does, goes, minus, opened, pair, refused, value}
use Rattle.teco_step.proofs.SearchRows.{computing, colons, around, failed}

-- N and _ for a text
abbrev turns_for : String → Item
turns_for written = text SearchPages (codes written)

abbrev reads_for : String → Item
reads_for written = text SearchPagesQuietly (codes written)

-- An input of two pages, ab FF bcb: before the first is read; with it in the buffer, and the pointer there; and with the second.
abbrev unread : State
unread = beginning (codes "ab" ++ 12 ∷ codes "bcb")

abbrev first_page : ℕ → State
first_page place = record unread { text = codes "ab"; pointer = place; place = 3; form_feed = true }

abbrev last_page : ℕ → State
last_page place = record unread { text = codes "bcb"; pointer = place; place = 6 }

-- the search for this text was noted
abbrev after_search : String → Bool → State → State
after_search last is_found s = record s { last_search = Some (codes last); last_found = is_found }

-- So many occurrences are left, and a page is due, or its search is.
abbrev page_due : ℕ → Work
page_due n = record { left = pos n; search = false }

abbrev search_due : ℕ → Work
search_due n = record { left = pos n; search = true }

abbrev further : Work → Setting
further work = record alone { work = Some work }

-- a step after which this work is left
abbrev leaves_work : Work → State → ℕ → Step
leaves_work work s load = record (goes s no_arguments [] load) { end = again work }

-- What is in the page is found. Of what is wanted, the page's occurrences go off, and the next page is due; a colon gives nothing yet.
pages_searched :
    (does (turns_for "b") (first_page 0) no_arguments ≡ goes (after_search "b" true (first_page 2)) no_arguments [] 1)
    × (does (reads_for "b") (first_page 0) no_arguments ≡ goes (after_search "b" true (first_page 2)) no_arguments [] 1)
    × (does (turns_for "c") (first_page 1) no_arguments ≡ leaves_work (page_due 1) (after_search "c" false (first_page 0)) 1)
    × (does (turns_for "b") (first_page 0) (value (pos 3)) ≡ leaves_work (page_due 2) (after_search "b" false (first_page 0)) 1)
    × (does (reads_for "b") (first_page 2) (value (pos 3)) ≡ leaves_work (page_due 3) (after_search "b" false (first_page 0)) 1)
    × (does (reads_for "c") unread no_arguments ≡ leaves_work (page_due 1) (after_search "c" false unread) 1)
    × (effect (turns_for "c") (colons 1) (first_page 1) no_arguments ≡ leaves_work (page_due 1) (after_search "c" false (first_page 0)) 1)
    × (effect (turns_for "b") (colons 1) (first_page 1) no_arguments ≡ goes (after_search "b" true (first_page 2)) (value (negsuc 0)) [] 1)
unfolding computing page_of
pages_searched = (refl, refl, refl, refl, refl, refl, refl, refl)

-- A page that is due comes in: for N the one before it is written; for _ the buffer must be empty, else YCA.
pages_passed :
    (effect (turns_for "c") (further (page_due 2)) (after_search "c" false (first_page 0)) no_arguments
    ≡ leaves_work (search_due 2) (after_search "c" false (record (last_page 0) { output = codes "ab" ++ 12 ∷ [] })) 5)
    × (effect (reads_for "c") (further (page_due 2)) unread no_arguments ≡ leaves_work (search_due 2) (first_page 0) 2)
    × (effect (reads_for "c") (further (page_due 2)) (first_page 0) no_arguments ≡ refused (first_page 0) no_arguments Yca)
unfolding computing page_of
pages_passed = (refl, refl, refl)

-- A further step looks for what is left, whatever the arguments are. An empty text means the last one still.
further_searches :
    (effect (turns_for "b") (further (search_due 2)) (last_page 0) no_arguments ≡ goes (after_search "b" true (last_page 3)) no_arguments [] 1)
    × (effect (turns_for "b") (further (search_due 1)) (last_page 0) (value (pos 2)) ≡ goes (after_search "b" true (last_page 1)) no_arguments [] 1)
    × (effect (turns_for "") (further (search_due 1)) (after_search "c" false (last_page 0)) no_arguments ≡ goes (after_search "c" true (last_page 2)) no_arguments [] 0)
    × (effect (reads_for "b") (further (search_due 3)) (first_page 0) no_arguments ≡ leaves_work (page_due 2) (after_search "b" false (first_page 0)) 1)
unfolding computing page_of
further_searches = (refl, refl, refl, refl)

-- With no input left the failure is final, and the page stays. It is no error with a colon, nor in an iteration before a ;.
failures :
    (does (turns_for "x") (last_page 2) no_arguments ≡ failed (after_search "x" false (last_page 0)) 1)
    × (effect (turns_for "b") (further (search_due 3)) (last_page 0) no_arguments ≡ failed (after_search "b" false (last_page 0)) 1)
    × (does (reads_for "x") (last_page 2) no_arguments ≡ failed (after_search "x" false (last_page 0)) 1)
    × (effect (turns_for "x") (colons 1) (last_page 2) no_arguments ≡ goes (after_search "x" false (last_page 0)) (value (pos 0)) [] 1)
    × (effect (reads_for "x") (around true true) (last_page 2) no_arguments ≡ goes (after_search "x" false (last_page 0)) no_arguments [] 1)
    × (effect (reads_for "x") (around true false) (last_page 2) no_arguments ≡ failed (after_search "x" false (last_page 0)) 1)
unfolding computing page_of
failures = (refl, refl, refl, refl, refl, refl)

-- First what is taken, then ISA, ISS and ICE; and nothing is changed.
refusals : let s = first_page 1 in
    (does (turns_for "") s (pair (pos 1) (pos 2)) ≡ refused s (pair (pos 1) (pos 2)) Arg)
    × (does (reads_for "") s opened ≡ refused s opened Mrp)
    × (does (turns_for "") s (value (pos 0)) ≡ refused s (value (pos 0)) Isa)
    × (does (reads_for "\u{12}") s minus ≡ refused s minus Isa)
    × (effect (turns_for "b") (colons 1) s minus ≡ refused s minus Isa)
    × (does (reads_for "") s no_arguments ≡ refused s no_arguments Iss)
    × (does (turns_for "\u{5}[a") s no_arguments ≡ refused s no_arguments Ice)
unfolding computing page_of
refusals = (refl, refl, refl, refl, refl, refl, refl)
