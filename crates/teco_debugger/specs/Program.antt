-- A run of the program, from its words to its status.
use Rattle.std.specs.Prelude.{◌≡◌, ◌⊎◌, ℕ, Bool, List, Option, codes}
use Rattle.teco_cli.specs.Words.{IsLineIn, Words}
use Rattle.teco_fs.specs.Console.{console}
use Rattle.teco_fs.specs.Refusing.{Refuses}
use Rattle.teco_fs.specs.Seen.{KeepsDisk, Host, DiskSeen}
use Rattle.teco_io.specs.Terminal.{Screen}
use Rattle.teco_debugger.specs.CommandLine.{WordsSay, WordsSayNone}
use Rattle.teco_debugger.specs.Begun.{BeginsOver, CannotRead}
use Rattle.teco_debugger.specs.Ending.{TellsEnding, TellsTorn, told_line}
use Rattle.teco_debugger.specs.Serving.{ServesLines, stage}
use Rattle.teco_debugger.specs.declared.debugger.Debugger.{Debugger}
use Rattle.teco_debugger.specs.declared.ending.Ending.{Ending}
use Rattle.teco_debugger.specs.declared.line.DebuggerLine.{DebuggerLine}

-- how what a run changes is seen: its disk, its commands and its terminal
pub record RetraceView (D I S T : Type 0) : Type 1 where
  pub disk : D → DiskSeen I
  pub coming : S → Option (List ℕ)
  pub screen : T → Screen

abbrev pub retrace_view : {D I S T : Type 0} → (D → DiskSeen I) → (S → Option (List ℕ)) → (T → Screen)
    → RetraceView D I S T
retrace_view disk coming screen = record { disk = disk; coming = coming; screen = screen }

-- The files are not read, which says how the run ends. No command is read, and nothing is shown.
pub record HasNoFiles {D I S T E : Type 0} (view : RetraceView D I S T) (errors : E → Screen) (line : DebuggerLine) (old new : Host D S T)
    (told telling : E) (ending : Ending) : Type 0 where
  pub lacks : CannotRead (view.disk old.disk).files (view.disk new.disk) line ending
  pub stream : new.stream ≡ old.stream
  pub term : new.term ≡ old.term
  pub still : telling ≡ told

-- The files are read. What a session's file has behind its lines is told, and the commands are served.
pub record ServesFiles {D I S T E : Type 0} (view : RetraceView D I S T) (errors : E → Screen) (line : DebuggerLine) (prompts : Bool)
    (old new : Host D S T) (told telling : E) (ending : Ending) : Type 0 where
  pub torn : ℕ
  pub first : Debugger
  pub last : Debugger
  pub begins : BeginsOver (view.disk old.disk).files line torn first
  pub tells : TellsTorn line torn (errors told) (errors telling)
  pub serves : ServesLines prompts (stage (view.coming old.stream) first (view.screen old.term))
      (stage (view.coming new.stream) last (view.screen new.term)) ending

-- A run over a line, by which no file changes.
pub record RetracesLine {D I S T E : Type 0} (view : RetraceView D I S T) (errors : E → Screen) (line : DebuggerLine) (prompts : Bool)
    (old new : Host D S T) (told telling : E) (ending : Ending) : Type 0 where
  pub keeps : KeepsDisk (view.disk old.disk) (view.disk new.disk)
  pub ends : HasNoFiles view errors line old new told telling ending ⊎ ServesFiles view errors line prompts old new told telling ending

-- The words say a line, and the run is that over it. How it ends is told on standard error.
pub record RetracesWords {D I S T E : Type 0} (view : RetraceView D I S T) (errors : E → Screen)
    (words : Words) (prompts : Bool) (old new : Host D S T) (told telling : E) (status : ℕ) : Type 0 where
  pub line : DebuggerLine
  pub line_is : IsLineIn WordsSay words line
  pub ending : Ending
  pub between : E
  pub run : RetracesLine view errors line prompts old new told between ending
  pub end : TellsEnding line ending (errors between) (errors telling) status

-- The words say no line, and nothing is read or shown but what is told of that; or they say one.
abbrev pub RetracesBy : {D I S T E : Type 0} → RetraceView D I S T → (E → Screen) → Words → Bool → Host D S T → Host D S T → E → E → ℕ
    → Type 0
RetracesBy view errors words prompts old new told telling status =
    Refuses (console view.screen old.term new.term errors told telling) (told_line (codes "no memory")) WordsSayNone words
    ((new.stream ≡ old.stream) × (new.disk ≡ old.disk)) status
    ⊎ RetracesWords view errors words prompts old new told telling status
