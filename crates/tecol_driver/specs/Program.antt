-- A run of the program: over the line of its words, or of words that say none.
use Rattle.std.specs.Prelude.{◌≡◌, ◌⊎◌, ℕ, codes}
use Rattle.teco_cli.specs.Words.{IsLineIn, Words}
use Rattle.teco_fs.specs.Console.{console}
use Rattle.teco_fs.specs.Refusing.{Refuses}
use Rattle.teco_fs.specs.Seen.{Host}
use Rattle.teco_io.specs.Terminal.{Screen}
use Rattle.tecol_driver.specs.CommandLine.{SayLine, SayNoLine}
use Rattle.tecol_driver.specs.Ending.{said}
use Rattle.tecol_driver.specs.Keeping.{Keeps, View}
use Rattle.tecol_driver.specs.declared.line.TecolLine.{TecolLine}

-- The words say a line, and the run is that over it.
pub record KeepsLine {D I S T E : Type 0} (view : View D I S T) (errors : E → Screen)
    (words : Words) (old new : Host D S T) (told telling : E) (status : ℕ) : Type 0 where
  pub line : TecolLine
  pub line_is : IsLineIn SayLine words line
  pub run : Keeps view errors line old new told telling status

-- The words say no line, and nothing is read or written but what is told of that; or they say one.
abbrev pub KeepsBy : {D I S T E : Type 0} → View D I S T → (E → Screen) → Words → Host D S T → Host D S T → E → E → ℕ → Type 0
KeepsBy view errors words old new told telling status =
    Refuses (console view.screen old.term new.term errors told telling) (said (codes "no memory")) SayNoLine words
    ((new.stream ≡ old.stream) × (new.disk ≡ old.disk)) status
    ⊎ KeepsLine view errors words old new told telling status
