-- Where in its source a byte of the commands begins.
use Rattle.std.specs.Prelude.{ℕ, ◌-◌, List, [], ◌∷◌, ◌++◌, length, codes, nat_lt, if◌then◌else◌}
use Rattle.std.specs.List.{slice_index_or}
use Rattle.teco_cli.specs.declared.line.Commands.{Commands}
use Rattle.teco_cli.specs.declared.line.Commands.TheVariants.{StandardInput, Sources, Pages, Bytes}
use Rattle.teco_messages.specs.Shown.{place_shown}
use Rattle.teco_source.specs.Places.{places_of as places_in_source}
use Rattle.teco_driver.specs.Sources.{source_name}
use Rattle.teco_driver.specs.declared.sources.ReadSource.{ReadSource}

-- For each byte of the commands that a source gives, the place at which it begins there. Of commands for every page two bytes come before
-- those of the source.
abbrev pub byte_places : Commands → List ℕ → List ℕ
byte_places StandardInput source = places_in_source source
byte_places (Sources names word) source = places_in_source source
byte_places (Pages word) source = 0 ∷ 0 ∷ places_in_source source
byte_places (Bytes name) source = places_in_source source

-- what comes after those of the source is at its end
abbrev pub place_in : List ℕ → List ℕ → ℕ → ℕ
place_in places source at = slice_index_or places at (length source)

-- the name of a source, and the line and the column of the byte at this place of its commands
abbrev pub spot_in_source : Commands → ReadSource → ℕ → List ℕ
spot_in_source commands part at = source_name commands part.at ++ codes ":"
    ++ place_shown part.source.items (place_in (byte_places commands part.source.items) part.source.items at)

-- The same of a byte of all commands: the first source has it whose commands end after it. The commands before its own end here.
abbrev pub place_told : Commands → List ReadSource → ℕ → ℕ → List ℕ
place_told commands [] from at = []
place_told commands (part ∷ parts) from at =
    if nat_lt at part.to then spot_in_source commands part (at - from) else place_told commands parts part.to at
