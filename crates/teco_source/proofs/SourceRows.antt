-- What some sources stand for, and how some texts are written, by computing.
use Rattle.std.specs.Prelude.{◌≡◌, ℕ, List, [], ◌∷◌, map, codes, Ok, Err, None, ◌==◌, if◌then◌else◌}
use Rattle.std.proofs.Common.{refl}
use Prim.Native.String.{String}
use Rattle.teco_source.specs.Source.{ends_line, step, run, commands_from, commands_of}
use Rattle.teco_source.specs.Listing.{spelled, line_mode, line_written}

-- the commands of a source, with a backquote for ESC
abbrev keys : String → List ℕ
keys s = map (λ (b : ℕ). if b == 96 then 27 else b) (codes s)

abbrev reads : String → String → Type 0
reads source commands = commands_of (codes source) ≡ Ok (keys commands)

layout_is_nothing :
    (reads "Y<\n\tFSa$b$;>EX$$\n" "Y<FSa`b`;>EX``")
    × (reads "Iab$ \t\r\nEX$$\r\n" "Iab`EX``")
    × (reads "Ia^J\n  b$^J\n" "Ia\n  b`\n")
    × (reads "Ia^.\n  b$" "Iab`")
    × (reads "Ia ^.\nb$" "Ia b`")
    × (reads "  ^. Y" " Y")
unfolding ends_line step run commands_from
layout_is_nothing = (refl, refl, refl, refl, refl, refl)

marks_begin_comments :
    (reads "Ox$!x!!y!1=$$" "Ox`!x!!y!1=``")
    × (reads "!! all\nY !! one\n  !! two!!\nEX!$" "YEX!`")
    × (reads "#!/usr/bin/env -S teco -f\nEX$$" "EX``")
    × (reads "1#!x!2=$$" "1#!x!2=``")
    × (reads " #!x!2=$$" "#!x!2=``")
    × (reads "Ia ^!!b$!" "Ia !!b`!")
unfolding ends_line step run commands_from
marks_begin_comments = (refl, refl, refl, refl, refl, refl)

carets_are_read :
    (commands_of (codes "^a^A^N^~N^=N^?^$^.^^") ≡ Ok (1 ∷ 1 ∷ 14 ∷ 94 ∷ 78 ∷ 94 ∷ 78 ∷ 127 ∷ 36 ∷ 30 ∷ []))
    × (commands_of (codes "^`a'^`") ≡ Ok (codes "'a''"))
    × (commands_of (codes "a\n^7^") ≡ Err 2)
    × (commands_of (codes "ab^") ≡ Err 2)
unfolding ends_line step run commands_from
carets_are_read = (refl, refl, refl, refl)

abbrev writes : String → String → Type 0
writes text line = line_written (line_mode []) 2 (keys text) None ≡ codes line

texts_are_written :
    (writes "-1-^N;" "-1-^~N;\n")
    × (writes "Ia$b`" "Ia^$b$\n")
    × (writes " Y" "^. Y\n")
    × (writes "Ia " "Ia ^.\n")
    × (writes "!a!!b! !!c!" "!a!!b! !^!c!\n")
    × (writes "#!x!" "^.#!x!\n")
    × (line_written (line_mode (codes "a")) 2 (14 ∷ 9 ∷ 127 ∷ []) None ≡ codes "  ^N^I^?\n")
    × (line_written (line_mode (codes "a\n")) 2 (codes " b") None ≡ codes " b\n")
unfolding spelled ends_line
texts_are_written = (refl, refl, refl, refl, refl, refl, refl, refl)
