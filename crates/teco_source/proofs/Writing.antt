-- What the writer has written so far.
use Rattle.std.proofs.Common.{◌≡◌, ℕ, Option, zero, suc, ◌+◌, ◌<◌, ◌≤◌, List, [], ◌∷◌, ◌++◌, length, drop, get_or, refl, ap, ◌∙◌, arith, append_assoc, add-one, drop-cons}
use Rattle.std.proofs.lemmas.List.{drop_all}
use Rattle.teco_source.specs.declared.reader.Mode.{Mode}
use Rattle.teco_source.specs.Source.{start, run}
use Rattle.teco_source.specs.Listing.{spelling, spelled_end, spelled, mode_after, spaces, line_mode, between, line_written}
use Rattle.teco_source.proofs.Bytes.{run-append}
use Rattle.teco_source.proofs.LinesRead.{line_reads}

spaces-snoc : (n : ℕ) → spaces n ++ 32 ∷ [] ≡ spaces (suc n)
spaces-snoc zero = refl
spaces-snoc (suc n) = ap (λ (xs : List ℕ). 32 ∷ xs) (spaces-snoc n)

pub one_space : (out : List ℕ) (n : ℕ) → (out ++ spaces n) ++ 32 ∷ [] ≡ out ++ spaces (n + 1)
one_space out n = append_assoc out (spaces n) (32 ∷ []) ∙ ap (λ (xs : List ℕ). out ++ xs) (rw add-one (spaces-snoc n))

pub one_byte : (out : List ℕ) (mode : Mode) (i : ℕ) (xs : List ℕ) → i < length xs
    → (out ++ spelling mode (get_or xs i 0)) ++ spelled (mode_after mode (get_or xs i 0)) (drop (i + 1) xs) ≡ out ++ spelled mode (drop i xs)
unfolding spelled
one_byte out mode i xs h = rw (add-one, drop-cons xs i 0) (append_assoc out (spelling mode (get_or xs i 0)) (spelled (mode_after mode (get_or xs i 0)) (drop (suc i) xs)))

pub none_left : (out : List ℕ) (mode : Mode) (i : ℕ) (xs : List ℕ) → length xs ≤ i → out ++ spelled mode (drop i xs) ≡ out ++ spelled_end mode
unfolding spelled
none_left out mode i xs h = rw (drop_all i xs h) refl

-- What was read up to a line is read on by it.
pub line_says : (out out_new text bytes : List ℕ) (mode : Mode) (n : ℕ) (note : Option (ℕ × List ℕ)) → 0 < length bytes
    → out_new ≡ out ++ line_written mode n bytes note → mode ≡ line_mode text → run start out ≡ between text
    → run start out_new ≡ between (text ++ bytes)
line_says out out_new text [] mode n note some written is before = absurd (omega arith)
line_says out out_new text (b ∷ bs) mode n note some written is before =
    rw (written, is, run-append start out (line_written (line_mode text) n (b ∷ bs) note), before) (line_reads text n b bs note)

-- a space after spaces is one before them
pub space_before : (n : ℕ) (more : List ℕ) → spaces n ++ 32 ∷ more ≡ 32 ∷ (spaces n ++ more)
space_before zero more = refl
space_before (suc n) more = ap (λ xs. 32 ∷ xs) (space_before n more)
