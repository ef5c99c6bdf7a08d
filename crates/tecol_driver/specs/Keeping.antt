-- A run over a line: what it reads, makes of that, writes and tells.
use Rattle.teco_io.specs.declared.source.Source.{Ghosts as SourceView}
use Rattle.std.specs.Prelude.{◌≡◌, ◌⊎◌, ℕ, List, Option, None, Bool, true, false, Result, Ok, Err, codes}
use Rattle.std.specs.String.{string_bytes}
use Rattle.std.specs.declared.alloc.Global.{Global}
use Rattle.std.specs.declared.io.Error.{Error}
use Rattle.std.specs.declared.vec.Vec.{Vec}
use Rattle.teco_core.specs.declared.limits.TheConstants.{FILE_LIMIT}
use Rattle.teco_fs.specs.declared.unkept.Unkept.{Unkept}
use Rattle.teco_fs.specs.Disk.{Changes, Files, Opens, Passes, SameBut}
use Rattle.teco_io.specs.Input.{IsFaultOf}
use Rattle.teco_io.specs.Source.{Gives}
use Rattle.teco_io.specs.declared.input.InputFault.{InputFault}
use Rattle.teco_cli.specs.StreamNames.{is_standard_input, is_standard_output}
use Rattle.teco_fs.specs.Reasons.{ComesTo}
use Rattle.teco_fs.specs.Refusing.{Tells}
use Rattle.teco_fs.specs.declared.reason.Reason.TheVariants.{WriteFailed}
use Rattle.teco_fs.specs.Reading.{IsInput, IsStreamed}
use Rattle.teco_fs.specs.Seen.{KeepsDisk, Host, KeepsStream, DiskSeen}
use Rattle.teco_fs.specs.Writing.{WritesOutput, AddsDrafts, IsWriteError, IsWriting}
use Rattle.teco_io.specs.Terminal.{IsFrontOf, Screen, Shows}
use Rattle.tecol_driver.specs.Ending.{fate_without_input, is_told, said, spot_in, status_of, text_of}
use Rattle.tecol_driver.specs.Made.{IsMade}
use Rattle.tecol_driver.specs.declared.fate.TecolFate.{TecolFate}
use Rattle.tecol_driver.specs.declared.fate.TecolFate.TheVariants.{Done, Unchecked, Faulty, Unreadable, NoInput, LargeInput, NoMemory, NoOutput}
use Rattle.tecol_driver.specs.declared.fate.Verdict.{Verdict}
use Rattle.tecol_driver.specs.declared.fate.Verdict.TheVariants as verdict
use Rattle.tecol_driver.specs.declared.line.TecolLine.{TecolLine}
use Rattle.tecol_driver.specs.declared.made.Made.{Made}
use Rattle.tecol_driver.specs.declared.made.Made.TheVariants as made

-- The source was read, and that ended by a fault.
pub record FailsToStream {S : Type 0} (source : SourceView S) (old new : S) (fate : TecolFate) : Type 0 where
  pub fault : InputFault
  pub fault_is : IsFaultOf FILE_LIMIT (Gives source.coming source.bound source.failures old new) fault
  pub fate_is : fate ≡ fate_without_input fault

-- The disk refused to open the file, by an error whose reason the fate has.
pub record FailsToOpen (gave : Error → Type 0) (fate : TecolFate) : Type 0 where
  pub error : Error
  pub given : gave error
  pub fate_is : ComesTo error NoMemory NoInput fate

-- What the disk opened under the name was read, and that ended by a fault.
pub record FailsToRead {I : Type 0} (input : SourceView I) (files : Option Files) (name : List ℕ)
    (fate : TecolFate) : Type 0 where
  pub first : I
  pub last : I
  pub opened : Opens files name (input.coming first)
  pub fails : FailsToStream input first last fate

-- Why a file is not the input.
abbrev pub LacksInput : {I : Type 0} → DiskSeen I → DiskSeen I → List ℕ → TecolFate → Type 0
LacksInput old new name fate = FailsToOpen new.gave fate ⊎ FailsToRead new.input old.files name fate

-- All that the stream has, or all that the file of this name has, is the input.
abbrev pub ReadsInput : {I S : Type 0} → Bool → SourceView S → List ℕ → DiskSeen I → DiskSeen I → S → S
    → Result (Vec ℕ Global) TecolFate → Type 0
ReadsInput true stream name before after old new (Ok input) = IsStreamed stream old new input.items
ReadsInput true stream name before after old new (Err fate) = FailsToStream stream old new fate
ReadsInput false stream name before after old new (Ok input) = IsInput before.files name input.items
ReadsInput false stream name before after old new (Err fate) = LacksInput before after name fate

-- The output file is as it was; and at each moment it was so, or had these bytes. The fate is that of the error,
-- and has its reason.
pub record FailsToWrite {I : Type 0} (old new : DiskSeen I) (name bytes : List ℕ) (fate : TecolFate) : Type 0 where
  pub files : Changes old.files new.files (AddsDrafts name)
  pub streams : SameBut name old.streams new.streams
  pub moments : Passes old.files old.left new.left (IsWriting name bytes)
  pub error : Error
  pub given : IsWriteError new.gave error
  pub fate_is : ComesTo error NoMemory NoOutput fate

-- A beginning of the bytes was put, and then the terminal failed, which doesn't tell why.
pub record FailsToPut (old new : Screen) (bytes : List ℕ) (fate : TecolFate) : Type 0 where
  pub front : List ℕ
  pub beginning : IsFrontOf front bytes
  pub shows : Shows old new front true
  pub fate_is : fate ≡ NoOutput WriteFailed

-- what is seen of where the output goes
pub record Output : Type 1 where
  -- nothing was written
  pub keeps : Type 0
  -- these bytes were written whole
  pub writes : List ℕ → Type 0
  -- these bytes could not be written: why, by how the run ends
  pub fails : List ℕ → TecolFate → Type 0
  -- this could not be kept of the file that was written over
  pub unkept : Option Unkept → Type 0

-- On standard output the bytes are shown, and no file changes; else the file of this name has them, and nothing
-- is shown.
abbrev pub output_to : {I T : Type 0} → Bool → (T → Screen) → List ℕ → DiskSeen I → DiskSeen I → T → T → Output
output_to true screen name before after old new = record {
  keeps = (new ≡ old) × KeepsDisk before after;
  writes = λ bytes. Shows (screen old) (screen new) bytes false × KeepsDisk before after;
  fails = λ bytes fate. FailsToPut (screen old) (screen new) bytes fate × KeepsDisk before after;
  unkept = λ what. what ≡ None;
}
output_to false screen name before after old new = record {
  keeps = (new ≡ old) × KeepsDisk before after;
  writes = λ bytes. (new ≡ old) × WritesOutput before after name bytes;
  fails = λ bytes fate. (new ≡ old) × FailsToWrite before after name bytes fate;
  unkept = after.unkept;
}

-- where the output of a line goes
abbrev pub output_of : {I T : Type 0} → (T → Screen) → TecolLine → DiskSeen I → DiskSeen I → T → T → Output
output_of screen line before after old new =
    output_to (is_standard_output (string_bytes line.output)) screen (string_bytes line.output) before after old new

-- The bytes were written, and this could not be kept of a file that was written over; or that failed.
abbrev pub PutsOut : Output → List ℕ → Result (Option Unkept) TecolFate → Type 0
PutsOut output bytes (Ok unkept) = output.writes bytes × output.unkept unkept
PutsOut output bytes (Err fate) = output.fails bytes fate

-- how a run ends whose output is written, by what was found
abbrev pub fate_put : Verdict → Option Unkept → TecolFate
fate_put verdict.Clean unkept = Done unkept
fate_put verdict.Unchecked unkept = Unchecked unkept
fate_put verdict.Faulty unkept = Faulty unkept

-- What was made was to be written, and that failed so.
abbrev pub FailsWith : (Made → Type 0) → Output → TecolFate → Type 0
FailsWith is_made output fate =
    (bytes : Vec ℕ Global) × (is_made (made.Fine bytes) ⊎ (is_made (made.Unchecked bytes) ⊎ is_made (made.Faulty bytes))) × output.fails bytes.items fate

-- How a run ends over an input that was read, and what it has done then.
abbrev pub MakesAndPuts : (Made → Type 0) → List ℕ → Output → TecolFate → Type 0
-- what was made is written whole, and this could not be kept of a file that was written over
MakesAndPuts is_made input output (Done unkept) =
    (bytes : Vec ℕ Global) × is_made (made.Fine bytes) × output.writes bytes.items × output.unkept unkept
MakesAndPuts is_made input output (Unchecked unkept) =
    (bytes : Vec ℕ Global) × is_made (made.Unchecked bytes) × output.writes bytes.items × output.unkept unkept
MakesAndPuts is_made input output (Faulty unkept) =
    (bytes : Vec ℕ Global) × is_made (made.Faulty bytes) × output.writes bytes.items × output.unkept unkept
-- of a source that can't be read nothing is written
MakesAndPuts is_made input output (Unreadable spot) =
    (at : ℕ) × is_made (made.Unreadable at) × (spot ≡ spot_in input at) × output.keeps
-- the input was read
MakesAndPuts is_made input output (NoInput reason) = ⊥
MakesAndPuts is_made input output LargeInput = ⊥
-- memory was refused to the making, or to the writing
MakesAndPuts is_made input output NoMemory = output.keeps ⊎ FailsWith is_made output NoMemory
MakesAndPuts is_made input output (NoOutput reason) = FailsWith is_made output (NoOutput reason)

-- The input was read, and the run ends by what was made of it; or it was not read, and nothing is written.
abbrev pub EndsAfter : TecolLine → Result (Vec ℕ Global) TecolFate → Output → TecolFate → Type 0
EndsAfter line (Ok input) output fate = MakesAndPuts (IsMade line input.items) input.items output fate
EndsAfter line (Err lack) output fate = (fate ≡ lack) × output.keeps

-- how what a run changes is seen
pub record View (D I S T : Type 0) : Type 1 where
  pub disk : D → DiskSeen I
  pub stream : SourceView S
  pub screen : T → Screen

abbrev pub view_of : {D I S T : Type 0} → (D → DiskSeen I) → SourceView S → (T → Screen) → View D I S T
view_of disk stream screen = record { disk = disk; stream = stream; screen = screen }

-- A run over a line: its input is read, by which no file changes, and what is made of it is written.
pub record RunsOver {D I S T : Type 0} (view : View D I S T) (line : TecolLine) (old new : Host D S T)
    (fate : TecolFate) : Type 0 where
  -- the disk once the input is read
  pub mid : D
  pub idle : KeepsDisk (view.disk old.disk) (view.disk mid)
  -- what comes on standard input stays as it is, unless the input comes from there
  pub still : KeepsStream (string_bytes line.input) old.stream new.stream
  pub input : Result (Vec ℕ Global) TecolFate
  pub reads : ReadsInput (is_standard_input (string_bytes line.input)) view.stream (string_bytes line.input)
      (view.disk old.disk) (view.disk mid) old.stream new.stream input
  pub ends : EndsAfter line input
      (output_of view.screen line (view.disk mid) (view.disk new.disk) old.term new.term) fate

-- The line of the fate is told on standard error, and the status is that of the fate. Or memory is refused for the
-- line, where there is one: that is told, and the status is 1.
abbrev pub Concludes : TecolLine → TecolFate → Screen → Screen → ℕ → Type 0
Concludes line fate old new status = ((status ≡ status_of fate) × Tells old new (text_of line fate))
    ⊎ ((is_told fate ≡ true) × (status ≡ 1) × Tells old new (said (codes "no memory")))

-- A run over a line, which is told.
pub record Keeps {D I S T E : Type 0} (view : View D I S T) (errors : E → Screen) (line : TecolLine)
    (old new : Host D S T) (told telling : E) (status : ℕ) : Type 0 where
  pub fate : TecolFate
  pub run : RunsOver view line old new fate
  pub end : Concludes line fate (errors told) (errors telling) status
