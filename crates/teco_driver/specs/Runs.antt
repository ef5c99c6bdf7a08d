-- The runs of the program: over one input by commands as they come, or over each input by commands that are had at once.
use Rattle.teco_io.specs.declared.source.Source.{Ghosts as SourceView}
use Rattle.std.specs.Prelude.{◌≡◌, ◌⊎◌, ℕ, List, [], ◌∷◌, codes, is_some, map, true, false}
use Rattle.std.specs.String.{string_bytes}
use Rattle.teco_io.specs.Terminal.{Screen}
use Rattle.teco_cli.specs.declared.line.Commands.{Commands}
use Rattle.teco_cli.specs.declared.line.Line.{Line}
use Rattle.teco_cli.specs.CommandLine.{IsLine, IsLineFault}
use Rattle.teco_cli.specs.Words.{IsLineIn, Words}
use Rattle.teco_driver.specs.Checks.{AreRejected, MayRun, TellsVerdict}
use Rattle.teco_driver.specs.Library.{FindsFiles}
use Rattle.teco_driver.specs.Lines.{worst}
use Rattle.teco_driver.specs.declared.giving.Feed.{Feed}
use Rattle.teco_driver.specs.declared.giving.Feed.TheVariants.{Stream}
use Rattle.teco_driver.specs.declared.host.Host.{Host}
use Rattle.teco_driver.specs.declared.keeping.SessionEnd.{SessionEnd}
use Rattle.teco_driver.specs.Run.{Concludes}
use Rattle.teco_driver.specs.Sessions.{EditsKeptByBytes, EditsKeptGiven, LinkKept}
use Rattle.teco_driver.specs.Given.{EditsByBytes, EditsGiven, HostView, IsIdle, is_streamed}
use Rattle.teco_fs.specs.Console.{console}
use Rattle.teco_fs.specs.Refusing.{Refuses, Tells}
use Rattle.teco_fs.specs.Seen.{DiskSeen, KeepsDisk}
use Rattle.teco_serve.specs.Ending.{said}
use Rattle.teco_serve.specs.declared.fate.Fate.{Fate}
use Rattle.teco_driver.specs.declared.sources.CommandsFault.{CommandsFault}
use Rattle.teco_driver.specs.Sources.{Declines, IsGivenBy, LacksCommands}

-- One of some runs: what it did, how it ended, and what was told of that. `W` is all that a run changes.
pub record Link {W : Type 0} (edits : List ℕ → W → W → Fate → Type 0)
    (concludes : List ℕ → Fate → W → W → ℕ → Type 0) (input : List ℕ) (old new : W) (status : ℕ) : Type 0 where
  pub fate : Fate
  pub run : edits input old new fate
  pub end : concludes input fate old new status

-- Runs in order, each over the world that the one before it left.
abbrev pub Chain : {W : Type 0} → (List ℕ → W → W → ℕ → Type 0) → List (List ℕ) → W → W → List ℕ → Type 0
Chain link [] old new statuses = (new ≡ old) × (statuses ≡ [])
Chain {W} link (input ∷ inputs) old new statuses = (mid : W) × (status : ℕ) × (rest : List ℕ)
    × (statuses ≡ status ∷ rest) × link input old mid status × Chain link inputs mid new rest

-- the names of the inputs of a line, in order
abbrev pub inputs_of : Line → List (List ℕ)
inputs_of line = map string_bytes (line.input ∷ line.more.items)

-- A run over an input, and what is told of it. If the line names a file for its session, the session is kept there.
abbrev pub LinkBy : {D S A T E : Type 0} → (List ℕ → Host S A T D → Host S A T D → Fate → Type 0)
    → (List ℕ → Host S A T D → Host S A T D → E → E → SessionEnd → Type 0) → (E → Screen) → Line → List ℕ
    → Host S A T D × E → Host S A T D × E → ℕ → Type 0
LinkBy {D} {S} {A} {T} {E} edits keeps errors line input old new status = elim (is_some line.session) [
  | false ↦ Link {W = Host S A T D × E} (λ input old new fate. edits input old.0 new.0 fate)
      (λ input fate old new status. Concludes line input fate (errors old.1) (errors new.1) status) input old new status
  | true ↦ LinkKept {W = Host S A T D × E} (λ input old new between end. keeps input old.0 new.0 old.1 between end) (λ w. w.1)
      errors line input old new status
]

-- An input is run over by these bytes as commands, and that is told.
abbrev pub LinkOver : {D I S A T E : Type 0} → HostView D I S T → (E → Screen) → Line → List ℕ → List ℕ
    → Host S A T D × E → Host S A T D × E → ℕ → Type 0
LinkOver view errors line bytes = LinkBy (λ input old new fate. EditsByBytes view line input bytes old new fate)
    (λ input old new told telling end. EditsKeptByBytes view errors line input bytes old new told telling end) errors line

-- A run over an input by the commands that come from there, and it is told.
abbrev pub LinkGiven : {D I S A T E : Type 0} → HostView D I S T → (E → Screen) → Line → Feed → List ℕ
    → Host S A T D × E → Host S A T D × E → ℕ → Type 0
LinkGiven view errors line feed = LinkBy (λ input old new fate. EditsGiven view line feed input old new fate)
    (λ input old new told telling end. EditsKeptGiven view errors line feed input old new told telling end) errors line

-- A line of one input, whose commands come on standard input as they are wanted: it is run over, and that is told.
pub record RunsOverOne {D I S A T E : Type 0} (view : HostView D I S T) (errors : E → Screen) (line : Line)
    (old new : Host S A T D) (told telling : E) (status : ℕ) : Type 0 where
  pub streamed : is_streamed line ≡ true
  pub run : LinkGiven view errors line Stream (string_bytes line.input) (old, told) (new, telling) status

-- Each of these inputs is run over in order, by these bytes as commands, and that is told. The status is the worst.
pub record RunsInOrder {D I S A T E : Type 0} (view : HostView D I S T) (errors : E → Screen) (line : Line)
    (bytes : List ℕ) (inputs : List (List ℕ)) (old new : Host S A T D × E) (status : ℕ) : Type 0 where
  pub statuses : List ℕ
  pub runs : Chain (LinkOver view errors line bytes) inputs old new statuses
  pub status_is : status ≡ worst 0 statuses

-- Commands that were had at once are looked at before any input is read. If a string is misspelt, that is told and no more is done;
-- else each input of the line is run over.
abbrev pub RunsIfSpelt : {D I S A T E : Type 0} → HostView D I S T → (E → Screen) → Line → List ℕ → Host S A T D × E
    → Host S A T D × E → ℕ → Type 0
RunsIfSpelt view errors line bytes old new status =
    ((new.0 ≡ old.0) × AreRejected line bytes (errors old.1) (errors new.1) status)
    ⊎ (MayRun line bytes × RunsInOrder view errors line bytes (inputs_of line) old new status)

-- Any other line: its commands are had once, before any input is read, and no file changes by that. If they can't be had,
-- no more is done, and that is told; else each of its inputs is run over, unless they are misspelt.
pub record RunsOverAll {D I S A T E : Type 0} (view : HostView D I S T) (errors : E → Screen) (line : Line)
    (old new : Host S A T D) (told telling : E) (status : ℕ) : Type 0 where
  pub whole : is_streamed line ≡ false
  pub mid : Host S A T D
  pub idle : IsIdle view old mid
  pub runs : ((fault : CommandsFault) × (new ≡ mid)
      × LacksCommands view.stream line.commands (view.disk old.disk) (view.disk mid.disk) old.commands mid.commands fault
      × Declines line.commands fault (errors told) (errors telling) status)
      ⊎ ((bytes : List ℕ) × IsGivenBy view.stream line.commands (view.disk old.disk).files old.commands mid.commands bytes
      × RunsIfSpelt view errors line bytes (mid, told) (new, telling) status)

-- A line that asks for a check: its commands are had as for a run, and what a check finds in them is told. No file changes by
-- that, and nothing is served or put on the terminal but what is told. If the commands can't be had, that is told.
pub record ChecksLine {D I S A T E : Type 0} (disk : D → DiskSeen I) (stream : SourceView S) (screen : T → Screen)
    (errors : E → Screen) (line : Line) (old new : Host S A T D) (told telling : E) (status : ℕ) : Type 0 where
  pub asked : line.check ≡ true
  pub kept : KeepsDisk (disk old.disk) (disk new.disk)
  pub tells : ((fault : CommandsFault) × (new.terminal ≡ old.terminal)
      × LacksCommands stream line.commands (disk old.disk) (disk new.disk) old.commands new.commands fault
      × Declines line.commands fault (errors told) (errors telling) status)
      ⊎ ((bytes : List ℕ) × IsGivenBy stream line.commands (disk old.disk).files old.commands new.commands bytes
      × TellsVerdict screen errors line bytes old.terminal new.terminal told telling status)

-- A line that asks for no check is run over, and one that asks for it is checked alone.
abbrev pub RunsOrChecks : {D I S A T E : Type 0} → HostView D I S T → (E → Screen) → Line → Host S A T D → Host S A T D → E
    → E → ℕ → Type 0
RunsOrChecks view errors line old new told telling status = ((line.check ≡ false)
    × (RunsOverOne view errors line old new told telling status ⊎ RunsOverAll view errors line old new told telling status))
    ⊎ ChecksLine view.disk view.stream view.screen errors line old new told telling status

-- the line with other commands
abbrev pub with_commands : Line → Commands → Line
with_commands line commands = record line { commands = commands }

-- the host with its disk at another moment
abbrev pub with_disk : {S A T D : Type 0} → Host S A T D → D → Host S A T D
with_disk host disk = record host { disk = disk }

-- The files of the commands are looked for in these folders, and nothing changes by that. The line with the names that are found is run
-- over or checked. Or memory is refused to look for them, and that is told.
pub record RunsFound {D I S A T E : Type 0} (view : HostView D I S T) (errors : E → Screen) (folders : List (List ℕ)) (line : Line)
    (old new : Host S A T D) (told telling : E) (status : ℕ) : Type 0 where
  pub disk : D
  pub kept : KeepsDisk (view.disk old.disk) (view.disk disk)
  pub runs : ((new ≡ with_disk old disk) × (status ≡ 1) × Tells (errors told) (errors telling) (said (codes "no memory")))
      ⊎ ((found : Commands) × FindsFiles view.disk folders line.commands old.disk disk found
      × RunsOrChecks view errors (with_commands line found) (with_disk old disk) new told telling status)

-- The words say a line, and it is run over or checked; or they say none, and nothing is done but that that is told.
pub record RunsOverLine {D I S A T E : Type 0} (view : HostView D I S T) (errors : E → Screen) (folders : List (List ℕ)) (words : Words)
    (old new : Host S A T D) (told telling : E) (status : ℕ) : Type 0 where
  pub line : Line
  pub line_is : IsLineIn IsLine words line
  pub runs : RunsFound view errors folders line old new told telling status

abbrev pub Runs : {D I S A T E : Type 0} → HostView D I S T → (E → Screen) → List (List ℕ) → Words → Host S A T D → Host S A T D → E → E → ℕ → Type 0
Runs view errors folders words old new told telling status =
    Refuses (console view.screen old.terminal new.terminal errors told telling) (said (codes "no memory")) IsLineFault words
    ((new.commands ≡ old.commands) × (new.disk ≡ old.disk)) status
    ⊎ RunsOverLine view errors folders words old new told telling status
