-- Where in a source the bytes begin that it stands for.
use Rattle.std.specs.Prelude.{ℕ, suc, ◌+◌, ◌-◌, List, [], ◌∷◌, ◌++◌, length, take, replicate}
use Rattle.teco_source.specs.declared.reader.Mode.{Mode}
use Rattle.teco_source.specs.declared.reader.Mode.TheVariants.{Hash, Mark, Caret}
use Rattle.teco_source.specs.Source.{State, start, step}

-- Of what has been read a caret, a mark or a hash may wait for the next byte.
abbrev pub waiting : Mode → ℕ
waiting Hash = 1
waiting Mark = 1
waiting Caret = 1
waiting mode = 0

-- how many bytes have been read, with the blanks and the mark that wait
abbrev pub bytes_begun : State → ℕ
bytes_begun s = length s.bytes + (length s.blanks + waiting s.mode)

-- So many places: those that there are, and this one for each byte more. What waited and is nothing loses its place.
abbrev pub fitted : ℕ → ℕ → List ℕ → List ℕ
fitted count at places = take count places ++ replicate (count - length places) at

unfoldable pub places_from : State → ℕ → List ℕ → List ℕ → List ℕ
places_from s at places [] = places
places_from s at places (b ∷ bs) = places_from (step s b) (suc at) (fitted (bytes_begun (step s b)) at places) bs

-- For each byte that a source stands for, the place at which it begins there. Blanks at the end have places too.
abbrev pub places_of : List ℕ → List ℕ
places_of source = places_from start 0 [] source
