-- A text, from the lines of its source.
use Rattle.std.proofs.Common.{◌≡◌, ℕ, List, [], ◌∷◌, Some, Result, Ok, Err, refl, ap, ◌∙◌}
use Rattle.teco_source.specs.Source.{State, start, ends_line, run, ended, commands_of}
use Rattle.teco_source.specs.Listing.{between}
use Rattle.teco_source.specs.Laws.{bytes_in}
use Rattle.teco_source.proofs.Bytes.{split}
use Rattle.teco_source.proofs.Reading.{bytes_of_run}

between_says : (text : List ℕ) → bytes_in (ended (between text) 0) ≡ Some text
between_says [] = refl
between_says (b ∷ bs) = split (ends_line (b ∷ bs)) (λ e. rw e refl) (λ e. rw e refl)

is_read : (read : Result (List ℕ) ℕ) (text : List ℕ) → bytes_in read ≡ Some text → read ≡ Ok text
is_read (Ok bytes) text e = cc
is_read (Err at) text e = cc

pub all_is_read : (out text : List ℕ) → run start out ≡ between text → commands_of out ≡ Ok text
all_is_read out text e =
    is_read (commands_of out) text (bytes_of_run start 0 out refl ∙ ap (λ (s : State). bytes_in (ended s 0)) e ∙ between_says text)
