-- A check of commands, which are not run: what is told of them, and with which status. And a look at commands before they are run.
use Rattle.std.specs.Prelude.{◌≡◌, ◌⊎◌, ◌||◌, ℕ, List, Bool, codes, false, true, Result, Ok, Err, if◌then◌else◌}
use Rattle.std.specs.String.{string_bytes}
use Rattle.teco_check.specs.Checked.{held}
use Rattle.teco_check.specs.CleanRuns.{HoldsCode}
use Rattle.teco_lint.specs.Calls.{AreCalled, AreCalledOver}
use Rattle.teco_lint.specs.Right.{AreRight}
use Rattle.teco_lint.specs.Spelling.{is_misspelt, is_misspelt_text}
use Rattle.teco_lint.specs.Faults.{has_fault, is_faulty}
use Rattle.teco_lint.specs.Strings.{is_unclean, is_unclean_text}
use Rattle.teco_cli.specs.declared.line.Commands.{Commands}
use Rattle.teco_cli.specs.declared.line.Commands.TheVariants.{StandardInput, Sources, Pages, Bytes}
use Rattle.teco_cli.specs.declared.line.Line.{Line}
use Rattle.teco_driver.specs.Values.{hold_wrong, registers_of}
use Rattle.teco_serve.specs.Ending.{said}
use Rattle.teco_source.specs.Source.{commands_of}
use Rattle.teco_fs.specs.Refusing.{Tells}
use Rattle.teco_io.specs.Terminal.{Screen, Shows}
use Rattle.teco_core.specs.declared.profile.Profile.{Profile}

-- It says whether a text of commands is wrong in this way, where the registers hold code that the commands call.
abbrev pub SaysOf : Profile → (List Bool → List ℕ → Bool) → List ℕ → Bool → Type 0
SaysOf p wrong text says = (code : List Bool) × AreCalled p code text × (says ≡ wrong code text)

-- the same of what a source stands for; of one that can't be read it says nothing
abbrev pub SaysOfSource : Profile → (List Bool → List ℕ → Bool) → Result (List ℕ) ℕ → Bool → Type 0
SaysOfSource p wrong (Ok strings) says = SaysOf p wrong strings says
SaysOfSource p wrong (Err at) says = says ≡ false

-- Strings for every page are a text by themselves: nothing of the loop around them ends what they leave open.
abbrev pub SaysAlone : Profile → (List Bool → List ℕ → Bool) → Commands → Bool → Type 0
SaysAlone p wrong StandardInput says = says ≡ false
SaysAlone p wrong (Sources names word) says = says ≡ false
SaysAlone p wrong (Pages word) says = SaysOfSource p wrong (commands_of (string_bytes word)) says
SaysAlone p wrong (Bytes name) says = says ≡ false

-- It says whether a text of commands is wrong in this way, or one that a register of code has from the line is in that way.
abbrev pub SaysOfAll : (wrong wrong_text : List Bool → List ℕ → Bool) → Line → List ℕ → Bool → Type 0
SaysOfAll wrong wrong_text line bytes says = (code : List Bool) × AreCalledOver line.profile (registers_of line) code bytes
    × (says ≡ (wrong code bytes || hold_wrong (wrong_text code) code (registers_of line)))

-- It says whether these commands of a line are wrong so: all together with the line's texts, or strings for every page by themselves.
abbrev pub SaysOfLine : (wrong wrong_text : List Bool → List ℕ → Bool) → Line → List ℕ → Bool → Type 0
SaysOfLine wrong wrong_text line bytes says = (alone all : Bool) × SaysAlone line.profile wrong line.commands alone
    × SaysOfAll wrong wrong_text line bytes all × (says ≡ (alone || all))

-- whether they have a fault; whether they have one, or something that no check looks into; and whether the first that is told is a fault
abbrev pub SaysFaulty : Line → List ℕ → Bool → Type 0
SaysFaulty line bytes says = SaysOfLine (is_faulty line.profile) (has_fault line.profile) line bytes says

abbrev pub SaysUnclean : Line → List ℕ → Bool → Type 0
SaysUnclean line bytes says = SaysOfLine (is_unclean line.profile) (is_unclean_text line.profile) line bytes says

abbrev pub SaysMisspelt : Line → List ℕ → Bool → Type 0
SaysMisspelt line bytes says = SaysOfLine (is_misspelt line.profile) (is_misspelt_text line.profile) line bytes says

-- Each text that a run of the commands reads runs as one without a fault, where the registers hold code that the commands call. At first
-- these hold clean texts. By `checked_laws` none then ends by a code of a fault.
abbrev pub RunWithoutFault : Line → List ℕ → Type 0
RunWithoutFault line commands = (code : List Bool) × AreCalledOver line.profile (registers_of line) code commands
    × AreRight line.profile code commands × HoldsCode line.profile (held code) (registers_of line)

-- 2 if there is a fault, else 0
abbrev pub status_of_check : Bool → ℕ
status_of_check faulty = if faulty then 2 else 0

-- The lines of the check are put on the terminal, and nothing is told on standard error. The status says whether there is a
-- fault. Where all is clean, the commands run without one.
pub record ShowsVerdict {T E : Type 0} (screen : T → Screen) (line : Line) (bytes : List ℕ) (old new : T)
    (told telling : E) (status : ℕ) : Type 0 where
  pub faulty : Bool
  pub verdict : SaysFaulty line bytes faulty
  pub unclean : Bool
  pub whole : SaysUnclean line bytes unclean
  pub right : unclean ≡ false → RunWithoutFault line bytes
  pub status_is : status ≡ status_of_check faulty
  pub lines : List ℕ
  pub shown : Shows (screen old) (screen new) lines false
  pub silent : telling ≡ told

-- Memory is refused to the check, and nothing is put on the terminal.
abbrev pub LacksVerdict : {T E : Type 0} → (E → Screen) → T → T → E → E → ℕ → Type 0
LacksVerdict errors old new told telling status =
    (status ≡ 1) × (new ≡ old) × Tells (errors told) (errors telling) (said (codes "no memory"))

-- A beginning of the lines is put, and then the terminal fails.
pub record LosesVerdict {T E : Type 0} (screen : T → Screen) (errors : E → Screen) (old new : T) (told telling : E)
    (status : ℕ) : Type 0 where
  pub front : List ℕ
  pub shown : Shows (screen old) (screen new) front true
  pub status_is : status ≡ 1
  pub told_is : Tells (errors told) (errors telling) (said (codes "cannot show"))

-- What a check finds in these commands of the line is told.
abbrev pub TellsVerdict : {T E : Type 0} → (T → Screen) → (E → Screen) → Line → List ℕ → T → T → E → E → ℕ → Type 0
TellsVerdict screen errors line bytes old new told telling status =
    ShowsVerdict screen line bytes old new told telling status
    ⊎ (LacksVerdict errors old new told telling status
    ⊎ LosesVerdict screen errors old new told telling status)

-- These commands are bytes as they are, of standard input or a file. They may be a record, which has each slip that was made.
abbrev pub are_bytes : Commands → Bool
are_bytes StandardInput = true
are_bytes (Sources names word) = false
are_bytes (Pages word) = false
are_bytes (Bytes name) = true

-- Commands of sources are looked at before they run, with the texts that the line puts where code is. They may, if none is misspelt.
abbrev pub MayRun : Line → List ℕ → Type 0
MayRun line bytes = are_bytes line.commands ≡ false → SaysMisspelt line bytes false

-- A string of them is misspelt, or such a text: lines that say so are told on standard error, and the status is 3. Or memory is refused
-- to the look, and that is told.
abbrev pub AreRejected : Line → List ℕ → Screen → Screen → ℕ → Type 0
AreRejected line bytes old new status = (are_bytes line.commands ≡ false)
    × (((status ≡ 3) × SaysMisspelt line bytes true × ((lines : List ℕ) × Tells old new lines))
    ⊎ ((status ≡ 1) × Tells old new (said (codes "no memory"))))
