-- Synonyms: tokens of Wide that Named has too, but spells otherwise, and what changes for that.
use Rattle.std.specs.Prelude.{◌≡◌, ℕ, ◌+◌, ◌-◌, Bool, true, false, ◌&&◌, List, [], ◌∷◌, ◌++◌, drop, is_some, length, slice_index, take, Option, Some, None, ◌==◌, if◌then◌else◌}
use Rattle.std.specs.List.{list_any}
use Rattle.teco_core.specs.declared.ascii.TheConstants.{ESC}
use Rattle.teco_core.specs.declared.code.Code.{Code}
use Rattle.teco_core.specs.declared.profile.Profile.TheVariants.{Wide}
use Rattle.teco_scan.specs.declared.command.TextCommand.{TextCommand}
use Rattle.teco_scan.specs.declared.command.TextCommand.TheVariants.{FindAndDelete}
use Rattle.teco_scan.specs.declared.token.Item.{Item}
use Rattle.teco_scan.specs.declared.token.Item.TheVariants as items
use Rattle.teco_scan.specs.declared.token.Span.{Span}
use Rattle.teco_scan.specs.declared.token.Token.{Token}
use Rattle.teco_scan.specs.declared.token.TokenKind.{TokenKind}
use Rattle.teco_scan.specs.declared.token.TokenKind.TheVariants as kinds
use Rattle.teco_scan.specs.declared.token.Found.TheVariants as finds
use Rattle.teco_scan.specs.Scan.{ended, fault, scan}
use Rattle.teco_scan.specs.Seen.{IsTokenAt, bytes_in, found_in}
use Rattle.teco_scan.specs.Stream.{IsText, move_asked, texts_of}
use Rattle.tecol_driver.specs.declared.synonyms.Change.{Change}
use Rattle.tecol_driver.specs.declared.synonyms.TheConstants.{DELIMITERS}
use Prim.Native.Char.{code}

-- a byte in the place of another; and one before another
abbrev pub another_byte : ℕ → ℕ → Change
another_byte at b = record { at = at; first = b; second = None; stays = false }

abbrev pub byte_before : ℕ → ℕ → Change
byte_before at b = record { at = at; first = b; second = None; stays = true }

-- two bytes in the place of another, or before it if that stays
abbrev pub two_bytes : ℕ → ℕ → ℕ → Bool → Change
two_bytes at b c stays = record { at = at; first = b; second = Some c; stays = stays }

-- The letter of the test that a sign names: `"=` is `"E`, `"<` is `"L`, and `">` is `"G`.
abbrev pub sign_letter : ℕ → Option ℕ
sign_letter b = if b == code "=" then Some (code "E") else (if b == code "<" then Some (code "L")
    else (if b == code ">" then Some (code "G") else None))

abbrev pub test_changes : ℕ → Option ℕ → List Change
test_changes at None = []
test_changes at (Some letter) = another_byte at letter ∷ []

-- the first of these delimiters that a text lacks
unfoldable pub first_lacked : List ℕ → List ℕ → Option ℕ
first_lacked [] text = None
first_lacked (d ∷ ds) text = if list_any (λ b. b == d) text then first_lacked ds text else Some d

-- the `S` of `FS`, in the case of this `D`
abbrev pub search_for : ℕ → ℕ
search_for b = if b == code "d" then code "s" else code "S"

-- `FDtext$` is `@FS/text//`, and `@FD$text$` is too. The ESC at the end stays if it is the first of the pair that ends a string.
abbrev pub escape_changes : List ℕ → Span → Bool → Bool → Option ℕ → List Change
escape_changes bs text at stays None = []
escape_changes bs text true stays (Some d) = another_byte (text.from - 2) (search_for (slice_index bs (text.from - 2)))
    ∷ another_byte (text.from - 1) d ∷ two_bytes text.to d d stays ∷ []
escape_changes bs text false stays (Some d) = byte_before (text.from - 2) (code "@")
    ∷ two_bytes (text.from - 1) (search_for (slice_index bs (text.from - 1))) d false ∷ two_bytes text.to d d stays ∷ []

-- `@FDxtextx` is `@FSxtextxx`, but where x is ESC, of which two would end the string. Where x is a line end it stays as it is.
abbrev pub changes_by : List ℕ → Span → Bool → Bool → ℕ → List Change
changes_by bs text at is_last x =
    if x == ESC then escape_changes bs text at is_last (first_lacked DELIMITERS (bytes_in bs text))
    else (if x == code "\n" then []
    else another_byte (text.from - 2) (search_for (slice_index bs (text.from - 2))) ∷ byte_before text.to x ∷ [])

abbrev pub deletion_changes : List ℕ → Span → Bool → Bool → List Change
deletion_changes bs text at is_last =
    changes_by bs text at is_last (if at then slice_index bs (text.from - 1) else ESC)

abbrev pub text_changes : List ℕ → Bool → Token → TextCommand → Span → List Change
text_changes bs is_ended t FindAndDelete text = deletion_changes bs text t.modifiers.at (is_ended && t.span.to == length bs)
text_changes bs is_ended t command text = []

abbrev pub item_changes : List ℕ → Bool → Token → Item → List Change
item_changes bs is_ended t (items.Text command text) = text_changes bs is_ended t command text
item_changes bs is_ended t item = []

abbrev pub kind_changes : List ℕ → Bool → Token → TokenKind → List Change
kind_changes bs is_ended t (kinds.Item item) = item_changes bs is_ended t item
kind_changes bs is_ended t (kinds.Test test) = test_changes (t.span.to - 1) (sign_letter (slice_index bs (t.span.to - 1)))
kind_changes bs is_ended t kind = []

-- what changes in a token of these bytes, which a pair of ESC ends or not; nothing, if it is no synonym
abbrev pub token_changes : List ℕ → Bool → Token → List Change
token_changes bs is_ended t = kind_changes bs is_ended t t.kind

-- The changes of the tokens from a place on, and whether all of them can be read.
pub data AreOfTokens (bs : List ℕ) (is_ended : Bool) : ℕ → List Change → Bool → Type 0 where
  of_none : {at : ℕ} → scan Wide (drop at bs) ≡ ended → AreOfTokens bs is_ended at [] true
  of_fault : {at : ℕ} {c : Code} → scan Wide (drop at bs) ≡ fault c → AreOfTokens bs is_ended at [] false
  of_token : {at : ℕ} {t : Token} {later : List Change} {whole : Bool} → found_in bs (finds.Token t) ≡ scan Wide (drop at bs)
      → IsTokenAt bs at t → AreOfTokens bs is_ended t.span.to later whole
      → AreOfTokens bs is_ended at (token_changes bs is_ended t ++ later) whole

-- The same of a command string that begins at a place, and that a pair of ESC ends. One that asks an undo, a redo or a rewind has none.
pub data AreOfString (bs : List ℕ) (from : ℕ) : List Change → Bool → Type 0 where
  of_request : is_some (move_asked (drop from bs)) ≡ true → AreOfString bs from [] true
  of_run : {changes : List Change} {whole : Bool} → is_some (move_asked (drop from bs)) ≡ false
      → AreOfTokens bs true from changes whole → AreOfString bs from changes whole

-- Such changes are put at the end, and it is said whether all can be read.
abbrev pub PutsChanges : (List Change → Bool → Type 0) → List Change → List Change → Bool → Type 0
PutsChanges are old new whole = (changes : List Change) × (new ≡ old ++ changes) × are changes whole

-- So many bytes after a place the second ESC of the leftmost pair stands.
abbrev pub IsPair : List ℕ → ℕ → Type 0
IsPair bs n = (slice_index bs n ≡ ESC) × IsText (take n bs)

-- The changes of commands from a place on: those of each string, and of what comes after the last pair, up to the first token that can't
-- be read.
pub data AreChanges (commands : List ℕ) : ℕ → List Change → Type 0 where
  of_rest : {from : ℕ} {changes : List Change} {whole : Bool} → texts_of (drop from commands) ≡ []
      → AreOfTokens commands false from changes whole → AreChanges commands from changes
  of_faulty : {from : ℕ} {changes : List Change} (n : ℕ) → IsPair (drop from commands) n
      → AreOfString (take (from + n) commands) from changes false → AreChanges commands from changes
  of_string : {from : ℕ} {changes later : List Change} (n : ℕ) → IsPair (drop from commands) n
      → AreOfString (take (from + n) commands) from changes true → AreChanges commands (from + n + 1) later
      → AreChanges commands from (changes ++ later)
