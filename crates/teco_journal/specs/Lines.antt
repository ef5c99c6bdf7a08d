-- How events are written: a line each, with a check in front of it.
use Rattle.std.specs.Prelude.{ℕ, List, [], ◌∷◌, ◌++◌, take, codes, decimal}
use Rattle.hex.specs.Hex.{encode_lower}
use Rattle.sha2.specs.Sha256.{sha256}
use Rattle.teco_source.specs.Listing.{spelled}
use Rattle.teco_source.specs.declared.reader.Mode.TheVariants.{First}
use Rattle.teco_journal.specs.Events.{Event, ran, undid, redid, cut, forgot}

-- The words of an event, with the line feed after them. A text stands there as a source spells it.
abbrev pub words_of : Event → List ℕ
words_of (ran steps text) = codes "run " ++ decimal steps ++ codes " " ++ spelled First text ++ codes "\n"
words_of undid = codes "undo\n"
words_of redid = codes "redo\n"
words_of (cut steps) = codes "rewind " ++ decimal steps ++ codes "\n"
words_of forgot = codes "forget\n"

-- The check of some words behind the last check: the first eight bytes of the SHA-256 of both, in hex.
unfoldable pub check_of : List ℕ → List ℕ → List ℕ
check_of last words = encode_lower (take 8 (sha256 (last ++ words)))

-- the line of some words behind the last check
abbrev pub line_of : List ℕ → List ℕ → List ℕ
line_of last words = check_of last words ++ codes " " ++ words

-- Events as lines. The check of each line is the last one for the next.
unfoldable pub written : List ℕ → List Event → List ℕ
written last [] = []
written last (e ∷ es) = line_of last (words_of e) ++ written (check_of last (words_of e)) es

-- the check of the last of these events
unfoldable pub check_after : List ℕ → List Event → List ℕ
check_after last [] = last
check_after last (e ∷ es) = check_after (check_of last (words_of e)) es
