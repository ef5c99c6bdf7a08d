-- What holds of sources: comments and layout don't change what a source stands for.
use Rattle.std.specs.Prelude.{◌≡◌, ℕ, suc, ◌≤◌, Bool, true, false, not, ◌&&◌, List, [], ◌∷◌, ◌++◌, length, nat_le, nat_lt, take, Option, Some, None, Result, Ok, Err, is_ok, ◌==◌}
use Rattle.std.specs.List.{list_all}
use Rattle.teco_source.specs.declared.reader.Mode.TheVariants.{Text}
use Rattle.teco_source.specs.Source.{is_blank, ends_line, start, run, commands_of}
use Rattle.teco_source.specs.Places.{bytes_begun, places_of}
use Rattle.teco_source.specs.Listing.{between}
use Prim.Native.Char.{code}

-- the bytes, if the source is read
abbrev pub bytes_in : Result (List ℕ) ℕ → Option (List ℕ)
bytes_in (Ok bytes) = Some bytes
bytes_in (Err at) = None

-- Both sources stand for the same bytes, or neither is read.
abbrev pub AreSame : List ℕ → List ℕ → Type 0
AreSame one two = bytes_in (commands_of one) ≡ bytes_in (commands_of two)

abbrev pub is_one_line : List ℕ → Bool
is_one_line note = list_all (λ b. not (b == code "\n")) note

-- A comment after a blank, up to the end of the line, is nothing.
abbrev pub CommentsAreNothing : Type 0
CommentsAreNothing = (front note back : List ℕ) (blank : ℕ) → is_blank blank ≡ true → is_one_line note ≡ true
    → AreSame (front ++ (blank ∷ code "!" ∷ code "!" ∷ (note ++ code "\n" ∷ back))) (front ++ code "\n" ∷ back)

-- Neither is a line that is a comment.
abbrev pub CommentLinesAreNothing : Type 0
CommentLinesAreNothing = (front note back : List ℕ) → is_one_line note ≡ true
    → AreSame (front ++ (code "\n" ∷ code "!" ∷ code "!" ∷ (note ++ code "\n" ∷ back))) (front ++ code "\n" ∷ back)

-- Blanks before the end of a line are nothing.
abbrev pub BlanksBeforeAnEndAreNothing : Type 0
BlanksBeforeAnEndAreNothing = (front blanks back : List ℕ) → list_all is_blank blanks ≡ true
    → AreSame (front ++ (blanks ++ code "\n" ∷ back)) (front ++ code "\n" ∷ back)

-- So is the margin of a line, if the text does not end with a line end there.
abbrev pub MarginsAreNothing : Type 0
MarginsAreNothing = (front blanks back text : List ℕ) → commands_of front ≡ Ok text → ends_line text ≡ false
    → list_all is_blank blanks ≡ true → AreSame (front ++ code "\n" ∷ (blanks ++ back)) (front ++ code "\n" ∷ back)

-- what is read alike within a line and at the beginning of one
abbrev pub begins_alike : List ℕ → Bool
begins_alike [] = true
begins_alike (b ∷ []) = not (is_blank b)
begins_alike (b ∷ c ∷ bs) = not (is_blank b) && not (b == code "!" && c == code "!")

-- A line may be broken after a byte that is no blank, where neither a blank nor `!!` comes.
abbrev pub BreaksAreNothing : Type 0
BreaksAreNothing = (front back : List ℕ) → (run start front).mode ≡ Text → begins_alike back ≡ true
    → AreSame (front ++ code "\n" ∷ back) (front ++ back)

-- Where a caret cannot be read, the bytes before it are read, and no more.
abbrev pub PlacesAreFirst : Type 0
PlacesAreFirst = (source : List ℕ) (at : ℕ) → commands_of source ≡ Err at
    → (is_ok (commands_of (take at source)) ≡ true) × ((n : ℕ) → suc at ≤ n → commands_of (take n source) ≡ Err at)

-- Each place is past the one before it, and the first is this one or later.
abbrev pub is_rising : ℕ → List ℕ → Bool
is_rising low [] = true
is_rising low (p ∷ ps) = nat_le low p && is_rising (suc p) ps

-- Where these places are those of the bytes from number `n` on: the source before a place begins no byte of that number, and with the
-- byte at the place it does.
unfoldable pub begin_there : List ℕ → ℕ → List ℕ → Bool
begin_there source n [] = true
begin_there source n (p ∷ ps) = (nat_le (bytes_begun (run start (take p source))) n
    && nat_lt n (bytes_begun (run start (take (suc p) source)))) && begin_there source (suc n) ps

-- Each byte of the commands has its place, which is one of the source, and a later byte has a later place.
pub record PlacesRise (source : List ℕ) : Type 0 where
  pub rises : is_rising 0 (places_of source) ≡ true
  pub inside : list_all (λ p. nat_lt p (length source)) (places_of source) ≡ true
  pub there : begin_there source 0 (places_of source) ≡ true
  pub each : (commands : List ℕ) → commands_of source ≡ Ok commands → length commands ≤ length (places_of source)

abbrev pub PlacesGrow : Type 0
PlacesGrow = (source : List ℕ) → PlacesRise source

-- A source whose lines say a text stands for that text.
abbrev pub WholeLinesAreRead : Type 0
WholeLinesAreRead = (source text : List ℕ) → run start source ≡ between text → commands_of source ≡ Ok text
