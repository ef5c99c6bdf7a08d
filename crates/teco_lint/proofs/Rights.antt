-- Strings that run as texts without a fault do.
use Rattle.std.proofs.Common.{◌≡◌, ℕ, Bool, true, false, ◌&&◌, not, List, [], ◌∷◌, ◌++◌, Option, Some, None, map, refl, sym, ap, ◌∙◌, subst}
use Rattle.std.specs.List.{AllByRecursion}
use Rattle.teco_scan.specs.declared.stream.HistoryMove.{HistoryMove}
use Rattle.teco_scan.specs.declared.stream.HistoryMove.TheVariants as moves
use Rattle.teco_scan.specs.Stream.{asks_by, asks_of, ends_in_escape, is_run, move_asked, rest_of, texts_of}
use Rattle.teco_scan.proofs.Streams.{texts_end}
use Rattle.teco_check.specs.CleanRuns.{IsRight}
use Rattle.teco_lint.specs.Right.{AreRight, IsRightIfRun, IsRightString}
use Rattle.teco_lint.specs.Strings.{strings_of}
use Rattle.teco_core.specs.declared.profile.Profile.{Profile}

-- all strings, and those after the first one
pub one_right : (p : Profile) (code : List Bool) (string : List ℕ) (rest all : List (List ℕ)) → all ≡ string ∷ rest → IsRightString p code string
    → AllByRecursion (IsRightString p code) rest → AllByRecursion (IsRightString p code) all
one_right p code string rest all e first later = subst (λ (strings : List (List ℕ)). AllByRecursion (IsRightString p code) strings) (sym e) (first, later)

-- what a text asks, by the move that it asks
by_move : (p : Profile) (code : List Bool) (text : List ℕ) (move : Option HistoryMove) → (not (is_run (asks_by text move)) ≡ false → IsRight p code text None)
    → IsRightIfRun p code (asks_by text move)
by_move p code text None h = h refl
by_move p code text (Some (moves.Undo n)) h = tt
by_move p code text (Some (moves.Redo n)) h = tt
by_move p code text (Some (moves.Rewind n)) h = tt

text_right : (p : Profile) (code : List Bool) (text : List ℕ) → ends_in_escape text ≡ true → IsRightString p code text → IsRightIfRun p code (asks_of text)
text_right p code text ends right =
    by_move p code text (move_asked text) (λ runs. right (ap (λ (b : Bool). b && not (is_run (asks_of text))) ends ∙ runs))

texts_right : (p : Profile) (code : List Bool) (texts more : List (List ℕ)) → AllByRecursion (λ text. ends_in_escape text ≡ true) texts
    → AllByRecursion (IsRightString p code) (texts ++ more) → AllByRecursion (IsRightIfRun p code) (map asks_of texts)
texts_right p code [] more ends right = tt
texts_right p code (text ∷ texts) more ends right = (text_right p code text ends.0 right.0, texts_right p code texts more ends.1 right.1)

-- the strings of commands, and the texts that a run of them reads
pub are_right : (p : Profile) (code : List Bool) (commands : List ℕ) → AllByRecursion (IsRightString p code) (strings_of commands) → AreRight p code commands
are_right p code commands right = texts_right p code (texts_of commands) (rest_of commands ∷ []) (texts_end [] commands) right
