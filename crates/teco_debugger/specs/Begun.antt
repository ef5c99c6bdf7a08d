-- What a run begins with: its string, what was before that, and its input.
use Rattle.std.specs.Prelude.{◌≡◌, ℕ, List, [], Option, None, option_map}
use Rattle.std.specs.String.{string_bytes}
use Rattle.std.specs.declared.alloc.Global.{Global}
use Rattle.std.specs.declared.string.String.{String}
use Rattle.teco_fs.specs.Disk.{Files}
use Rattle.teco_fs.specs.Seen.{DiskSeen}
use Rattle.teco_core.specs.declared.profile.Profile.{Profile}
use Rattle.teco_debugger.specs.Kept.{IsOfSession, LacksSession}
use Rattle.teco_replay.specs.Begun.{begun_state}
use Rattle.teco_debugger.specs.Reading.{IsInputOf, IsOfBytes, IsOfSources, LacksFile, InputIsMissing, LacksSources}
use Rattle.teco_debugger.specs.declared.debugger.Debugger.{Debugger}
use Rattle.teco_debugger.specs.declared.ending.Ending.{Ending}
use Rattle.teco_debugger.specs.declared.ending.Ending.TheVariants.{NoInput, NoMemory}
use Rattle.teco_debugger.specs.declared.line.DebuggerLine.{DebuggerLine}
use Rattle.teco_debugger.specs.declared.line.Origin.{Origin}
use Rattle.teco_debugger.specs.declared.line.Origin.TheVariants.{Bytes, Session, Sources}
use Rattle.teco_debugger.specs.declared.reading.Given.{Given}
use Rattle.teco_debugger.specs.declared.running.Begun.{Begun}

-- The walk is over a string that was read and over an input, at the beginning of a session of this language.
pub record IsOver (p : Profile) (files : Option Files) (input : Option (String Global)) (given : Given) (begun : Begun) : Type 0 where
  pub text : begun.walk.text ≡ given.text.items
  pub sources : begun.sources ≡ given.sources
  pub bytes : List ℕ
  pub bytes_are : IsInputOf files input bytes
  pub first : begun.walk.first ≡ begun_state p 0 bytes
  pub before : begun.walk.before ≡ []
  pub steps : begun.walk.steps ≡ 0
  pub torn : begun.torn ≡ 0

-- A walk at the beginning of the string that comes from there: of sources or of bytes, in this language, over the input; or of a session,
-- in that of its file.
abbrev pub BeginsFrom : Profile → Option Files → Origin → Option (String Global) → Begun → Type 0
BeginsFrom p files (Sources names word) input begun =
    (given : Given) × IsOfSources files names.items (option_map string_bytes word) given × IsOver p files input given begun
BeginsFrom p files (Bytes name) input begun = (given : Given) × IsOfBytes files (string_bytes name) given × IsOver p files input given begun
BeginsFrom p files (Session name number) input begun =
    IsOfSession files (string_bytes name) number begun.walk begun.torn × (begun.sources.items ≡ [])

-- The debugger begins so, in the language and under the limit of the line. No move is done yet, no place to stop at is noted, and no command is to be done
-- again.
pub record BeginsOver (files : Option Files) (line : DebuggerLine) (torn : ℕ) (debugger : Debugger) : Type 0 where
  pub begun : Begun
  pub begins : BeginsFrom line.profile files line.origin line.input begun
  pub torn_is : torn ≡ begun.torn
  pub walk : debugger.walk ≡ begun.walk
  pub sources : debugger.sources ≡ begun.sources
  pub limit : debugger.limit ≡ line.limit
  pub moves : debugger.moves.items ≡ []
  pub stops : debugger.stops.items ≡ []
  pub again : debugger.again ≡ None

-- Why the string that comes from there is not had.
abbrev pub LacksString : {I : Type 0} → Option Files → DiskSeen I → Origin → Ending → Type 0
LacksString files new (Sources names word) ending = LacksSources files new names.items (option_map string_bytes word) ending
LacksString files new (Bytes name) ending = LacksFile files new 0 (string_bytes name) ending
LacksString files new (Session name number) ending = LacksSession files new (string_bytes name) number ending

-- Why there is no debugger: the string or the input is not had, or memory was refused.
abbrev pub CannotRead : {I : Type 0} → Option Files → DiskSeen I → DebuggerLine → Ending → Type 0
CannotRead files new line NoMemory = Unit {0}
CannotRead files new line (NoInput fault) = InputIsMissing files new line.input (NoInput fault)
CannotRead files new line ending = LacksString files new line.origin ending
