-- Files of commands that are looked for, one after another.
use Rattle.std.proofs.Common.{◌≡◌, ◌++◌, ◌∙◌, ◌||◌, ℕ, List, [], ◌∷◌, Bool, Option, true, false, String, Global, refl, sym, ap, subst, true≢false, inl, inr, length, map}
use Rattle.std.specs.List.{list_any}
use Rattle.std.specs.Prelude.{None, Some, nat_eq, nat_lt}
use Rattle.std.specs.declared.vec.Vec.{Vec}
use Rattle.std.specs.String.{string_bytes}
use Rattle.teco_cli.specs.Conflict.{are_awaited, are_on_pages, are_on_standard_input, has_conflict, has_more, has_wrong_session, is_edited, has_slash}
use Rattle.teco_cli.specs.StreamNames.{is_standard_input}
use Rattle.teco_cli.specs.declared.line.Commands.{Commands}
use Rattle.teco_cli.specs.declared.line.Commands.TheVariants.{StandardInput, Sources, Pages, Bytes}
use Rattle.teco_cli.specs.declared.line.Line.{Line}
use Rattle.teco_driver.specs.Library.{AreFound, FindsFiles, IsFirst, IsFound, IsFoundIf, names_in, stands}
use Rattle.teco_driver.specs.Reporting.{has_notes}
use Rattle.teco_driver.specs.Runs.{with_commands}
use Rattle.teco_fs.specs.Seen.{DiskSeen}

-- One name more.
pub found_more : {D I : Type 0} (seen : D → DiskSeen I) (folders : List (List ℕ)) (names : List (String Global)) (name : String Global) (old mid new : D) (files : List (String Global)) (file : String Global)
    → AreFound seen folders names old mid files → IsFound seen folders (string_bytes name) mid new (string_bytes file)
    → AreFound seen folders (names ++ name ∷ []) old new (files ++ file ∷ [])
found_more {D} seen folders [] name old mid new files file h one =
    (new, file, [], subst (λ (d : D). IsFound seen folders (string_bytes name) d new (string_bytes file)) h.1 one, (refl, refl), ap (λ fs. fs ++ file ∷ []) h.0)
found_more seen folders (n ∷ ns) name old mid new files file h one =
    (h.0, h.1, h.2 ++ file ∷ [], h.3, found_more seen folders ns name h.0 mid new h.2 file h.4 one, ap (λ fs. fs ++ file ∷ []) h.5)

-- what is found in a folder is not standard input
first_apart : {D I : Type 0} (seen : D → DiskSeen I) (own : List ℕ) (names : List (List ℕ)) (old new : D) (file : List ℕ)
    → is_standard_input own ≡ false → IsFirst seen own names old new file → is_standard_input file ≡ false
first_apart seen own [] old new file apart h = ap is_standard_input h.0 ∙ apart
first_apart seen own (n ∷ ns) old new file apart (inl h) = ap is_standard_input h.0 ∙ h.1
first_apart seen own (n ∷ ns) old new file apart (inr h) = first_apart seen own ns h.0 new file apart h.2

second_false : (a b : Bool) → (a || b) ≡ false → b ≡ false
second_false false b h = h
second_false true b h = absurd (true≢false h)

-- The file that is found for a name is standard input if and only if that is its name.
found_if_same : {D I : Type 0} (seen : D → DiskSeen I) (folders : List (List ℕ)) (name : List ℕ) (old new : D) (file : List ℕ) (b : Bool)
    → stands name ≡ b → IsFoundIf b seen folders name old new file → is_standard_input file ≡ is_standard_input name
found_if_same seen folders name old new file true is h = ap is_standard_input h.0
found_if_same seen folders name old new file false is h =
    let apart = second_false (has_slash name) (is_standard_input name) is in
    first_apart seen name (name ∷ names_in folders name) old new file apart h ∙ sym apart

-- So one of several is, if and only if one of the names is.
same_any : {D I : Type 0} (seen : D → DiskSeen I) (folders : List (List ℕ)) (names : List (String Global)) (old new : D) (files : List (String Global))
    → AreFound seen folders names old new files
    → list_any (λ name. is_standard_input (string_bytes name)) files ≡ list_any (λ name. is_standard_input (string_bytes name)) names
same_any seen folders [] old new files h = ap (list_any (λ name. is_standard_input (string_bytes name))) h.0
same_any seen folders (name ∷ names) old new files h =
    ap (list_any (λ name. is_standard_input (string_bytes name))) h.5
    ∙ (ap (λ b. b || list_any (λ name. is_standard_input (string_bytes name)) h.2)
    (found_if_same seen folders (string_bytes name) old h.0 (string_bytes h.1) (stands (string_bytes name)) refl h.3)
    ∙ ap (λ b. is_standard_input (string_bytes name) || b) (same_any seen folders names h.0 new h.2 h.4))

-- Commands come from standard input with the names that are found, if and only if they do with those of the line.
same_places : {D I : Type 0} (seen : D → DiskSeen I) (folders : List (List ℕ)) (commands found : Commands) (old new : D)
    → FindsFiles seen folders commands old new found → are_on_standard_input found ≡ are_on_standard_input commands
same_places seen [] commands found old new h = ap are_on_standard_input h.0
same_places seen (f ∷ fs) StandardInput found old new h = ap are_on_standard_input h.0
same_places seen (f ∷ fs) (Sources names word) found old new h =
    ap are_on_standard_input h.1 ∙ same_any seen (f ∷ fs) names.items old new h.0.items h.2
same_places seen (f ∷ fs) (Pages word) found old new h = ap are_on_standard_input h.0
same_places seen (f ∷ fs) (Bytes name) found old new h = ap are_on_standard_input h.0

-- And they are awaited, if and only if those are.
same_waiting : {D I : Type 0} (seen : D → DiskSeen I) (folders : List (List ℕ)) (commands found : Commands) (old new : D)
    → FindsFiles seen folders commands old new found → are_awaited found ≡ are_awaited commands
same_waiting seen [] commands found old new h = ap are_awaited h.0
same_waiting seen (f ∷ fs) StandardInput found old new h = ap are_awaited h.0
same_waiting seen (f ∷ fs) (Sources names word) found old new h = ap are_awaited h.1
same_waiting seen (f ∷ fs) (Pages word) found old new h = ap are_awaited h.0
same_waiting seen (f ∷ fs) (Bytes name) found old new h = ap are_awaited h.0

-- And they are for every page, if and only if those are.
same_pages : {D I : Type 0} (seen : D → DiskSeen I) (folders : List (List ℕ)) (commands found : Commands) (old new : D)
    → FindsFiles seen folders commands old new found → are_on_pages found ≡ are_on_pages commands
same_pages seen [] commands found old new h = ap are_on_pages h.0
same_pages seen (f ∷ fs) StandardInput found old new h = ap are_on_pages h.0
same_pages seen (f ∷ fs) (Sources names word) found old new h = ap are_on_pages h.1
same_pages seen (f ∷ fs) (Pages word) found old new h = ap are_on_pages h.0
same_pages seen (f ∷ fs) (Bytes name) found old new h = ap are_on_pages h.0

-- whether the session is kept in a wrong place, by whether the commands are for every page
abbrev wrong_by : Line → Bool → Bool
wrong_by line on_pages = elim line.session [
  | Some file ↦ (line.check || (has_more line || (on_pages || nat_lt 0 (length line.values.items)))) || is_edited line (string_bytes file)
  | None ↦ false
]

-- The line with the names that are found has a conflict or notes only if the line has.
pub fits_still : {D I : Type 0} (seen : D → DiskSeen I) (folders : List (List ℕ)) (line : Line) (found : Commands) (old new : D)
    → FindsFiles seen folders line.commands old new found → has_conflict line ≡ false → has_conflict (with_commands line found) ≡ false
fits_still seen folders line found old new h fits =
    let placed = same_places seen folders line.commands found old new h in
    let waiting = same_waiting seen folders line.commands found old new h in
    let pages = same_pages seen folders line.commands found old new h in
    let wrong : has_wrong_session (with_commands line found) ≡ has_wrong_session line = ap (wrong_by line) pages in
    rw (placed, waiting, wrong) fits

pub silent_still : {D I : Type 0} (seen : D → DiskSeen I) (folders : List (List ℕ)) (line : Line) (found : Commands) (old new : D)
    → FindsFiles seen folders line.commands old new found → has_notes line ≡ false → has_notes (with_commands line found) ≡ false
silent_still seen folders line found old new h off =
    let waiting = same_waiting seen folders line.commands found old new h in
    rw waiting off

-- What is found for the names of sources is found for the line's commands, if there are folders.
pub finds_sources : {D I : Type 0} (seen : D → DiskSeen I) (folders : List (String Global)) (commands : Commands) (names files : Vec (String Global) Global) (word : Option (String Global)) (old new : D)
    → nat_eq (length folders) 0 ≡ false → commands ≡ Sources names word → AreFound seen (map string_bytes folders) names.items old new files.items
    → FindsFiles seen (map string_bytes folders) commands old new (Sources files word)
finds_sources seen [] commands names files word old new some is h = absurd (true≢false some)
finds_sources seen (f ∷ fs) commands names files word old new some is h =
    subst (λ (cs : Commands). FindsFiles seen (map string_bytes (f ∷ fs)) cs old new (Sources files word)) (sym is) (files, refl, h)
