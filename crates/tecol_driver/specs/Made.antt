-- What a run makes of its input.
use Rattle.std.specs.Prelude.{◌≡◌, ℕ, Bool, true, false, List, Option, Some, None, Ok, Err}
use Rattle.std.specs.String.{string_bytes}
use Rattle.teco_core.specs.declared.profile.Profile.{Profile}
use Rattle.tecol_driver.specs.declared.line.TecolMode.{TecolMode}
use Rattle.tecol_driver.specs.declared.line.TecolMode.TheVariants.{Listing, Again, CheckSource, CheckBytes, FixSource, FixBytes}
use Rattle.tecol_driver.specs.declared.line.TecolLine.{TecolLine}
use Rattle.tecol_driver.specs.declared.synonyms.Change.{Change}
use Rattle.tecol_driver.specs.Diffs.{diff_of}
use Rattle.tecol_driver.specs.Respelling.{respelled}
use Rattle.tecol_driver.specs.Synonyms.{AreChanges}
use Rattle.tecol_driver.specs.declared.made.Made.{Made}
use Rattle.tecol_driver.specs.declared.made.Made.TheVariants.{Fine, Unchecked, Faulty, Unreadable}
use Rattle.teco_source.specs.Places.{places_of}
use Rattle.teco_source.specs.Source.{commands_of}
use Rattle.teco_lint.specs.Calls.{AreCalled}
use Rattle.teco_lint.specs.Faults.{is_faulty}
use Rattle.teco_lint.specs.Strings.{is_unclean}
use Rattle.teco_lint.specs.Right.{AreRight}

-- What was made says whether there is a fault, and if there is none, whether all is clean.
abbrev pub TellsWhether : (faulty unclean : Bool) → Made → Type 0
TellsWhether faulty unclean (Fine lines) = (faulty ≡ false) × (unclean ≡ false)
TellsWhether faulty unclean (Unchecked lines) = (faulty ≡ false) × (unclean ≡ true)
TellsWhether faulty unclean (Faulty lines) = faulty ≡ true
TellsWhether faulty unclean (Unreadable at) = ⊥

-- Where all is clean, each text that a run of the commands reads runs as one without a fault.
abbrev pub RunsIfFine : Profile → List Bool → List ℕ → Made → Type 0
RunsIfFine p code commands (Fine lines) = AreRight p code commands
RunsIfFine p code commands made = Unit {0}

-- It says whether one of the strings of these commands has a fault, and whether each is clean, where the registers hold code that the
-- commands call.
abbrev pub IsVerdict : Profile → List ℕ → Made → Type 0
IsVerdict p commands made = (code : List Bool) × AreCalled p code commands
    × TellsWhether (is_faulty p code commands) (is_unclean p code commands) made × RunsIfFine p code commands made

-- These bytes were made.
abbrev pub IsBytes : List ℕ → Made → Type 0
IsBytes bytes (Fine made) = made.items ≡ bytes
IsBytes bytes made = ⊥

-- A source was made that stands for these bytes.
abbrev pub IsListing : List ℕ → Made → Type 0
IsListing bytes (Fine source) = commands_of source.items ≡ Ok bytes
IsListing bytes made = ⊥

-- A diff was made of the source of these commands: to the one in which all their synonyms are spelled otherwise.
pub record IsFix (name source : List ℕ) (places : Option (List ℕ)) (commands diff : List ℕ) : Type 0 where
  pub changes : List Change
  pub all : AreChanges commands 0 changes
  pub diff_is : diff ≡ diff_of name source (respelled source places changes)

abbrev pub IsFixed : List ℕ → List ℕ → Option (List ℕ) → List ℕ → Made → Type 0
IsFixed name source places commands (Fine diff) = IsFix name source places commands diff.items
IsFixed name source places commands made = ⊥

-- What is made of a source that stands for these commands.
abbrev pub IsMadeOf : TecolLine → TecolMode → List ℕ → List ℕ → Made → Type 0
IsMadeOf line CheckSource source commands made = IsVerdict line.profile commands made
IsMadeOf line Again source commands made = IsListing commands made
IsMadeOf line FixSource source commands made =
    IsFixed (string_bytes line.input) source (Some (places_of source)) commands made
IsMadeOf line mode source commands made = IsBytes commands made

-- A source is read, and what is made is made of its commands; or it can't be read, and the place of a caret is told.
abbrev pub IsMadeOfSource : TecolLine → TecolMode → List ℕ → Made → Type 0
IsMadeOfSource line mode source (Unreadable at) = commands_of source ≡ Err at
IsMadeOfSource line mode source made =
    (commands : List ℕ) × ((commands_of source ≡ Ok commands) × IsMadeOf line mode source commands made)

abbrev pub IsMadeIn : TecolLine → TecolMode → List ℕ → Made → Type 0
IsMadeIn line Listing input made = IsListing input made
IsMadeIn line CheckBytes input made = IsVerdict line.profile input made
IsMadeIn line FixBytes input made = IsFixed (string_bytes line.input) input None input made
IsMadeIn line mode input made = IsMadeOfSource line mode input made

-- What a run over a line makes of its input.
abbrev pub IsMade : TecolLine → List ℕ → Made → Type 0
IsMade line input made = IsMadeIn line line.mode input made
