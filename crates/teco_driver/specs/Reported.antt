-- When the lines of a tool's manner are told.
use Rattle.std.specs.Prelude.{◌≡◌, ◌⊎◌, ℕ, List, codes, Result, Ok, Err}
use Rattle.std.specs.String.{string_bytes}
use Rattle.std.specs.declared.alloc.AllocError.{AllocError}
use Rattle.std.specs.declared.alloc.Global.{Global}
use Rattle.std.specs.declared.string.String.{String}
use Rattle.teco_cli.specs.declared.line.Line.{Line}
use Rattle.teco_fs.specs.Refusing.{Tells}
use Rattle.teco_io.specs.Terminal.{Screen}
use Rattle.teco_serve.specs.Ending.{said}
use Rattle.teco_serve.specs.Heard.{Heard}
use Rattle.teco_serve.specs.Heard.Heard.{Did}
use Rattle.teco_driver.specs.Reporting.{after_report, reported}
use Rattle.teco_driver.specs.declared.reporting.Reporting.{Reporting}
use Rattle.teco_driver.specs.declared.sources.ReadSource.{ReadSource}

-- what a reporter tells by, and what is seen of the notes that it tells it on
pub record ReporterSeen : Type 0 where
  pub line : Line
  pub parts : List ReadSource
  pub reporting : Reporting
  pub notes : Screen

abbrev pub reporter_seen : Line → List ReadSource → Reporting → Screen → ReporterSeen
reporter_seen line parts reporting notes = record { line = line; parts = parts; reporting = reporting; notes = notes }

-- the lines, or that memory was refused for them
abbrev pub lines_or_lack : Result (String Global) AllocError → List ℕ
lines_or_lack (Ok lines) = string_bytes lines
lines_or_lack (Err lacking) = said (codes "no memory")

-- The lines are told at once; or, if memory is refused for them, that.
abbrev pub TellsReport : Screen → Screen → List ℕ → Type 0
TellsReport old new lines = Tells old new lines ⊎ Tells old new (said (codes "no memory"))

-- What is told of what was heard: of what a request did nothing, since its answer is not shown yet.
abbrev pub TellsHeard : ReporterSeen → ReporterSeen → Heard → Type 0
TellsHeard old new (Did event) = new.notes ≡ old.notes
TellsHeard old new heard = TellsReport old.notes new.notes (reported old.line old.parts old.reporting heard)

-- A reporter has told its lines before the call ends in which it hears of something.
pub record HasReported (old new : ReporterSeen) (heard : Heard) : Type 0 where
  pub line : new.line ≡ old.line
  pub parts : new.parts ≡ old.parts
  pub reporting : new.reporting ≡ after_report old.reporting heard
  pub told_is : TellsHeard old new heard
