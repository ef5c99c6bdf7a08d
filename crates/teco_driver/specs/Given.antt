-- A run over one input of the line: by commands as they come, or by bytes that are had already.
use Rattle.teco_io.specs.declared.source.Source.{Ghosts as SourceView}
use Rattle.teco_driver.specs.declared.word_source.WordSource.{WordSource}
use Rattle.teco_driver.specs.contracts.word_source.WordSourceSource.TheImpl as word
use Rattle.std.specs.Prelude.{◌≡◌, ◌≢◌, ◌&&◌, not, ℕ, List, Some, Bool, true, false}
use Rattle.std.specs.String.{string_bytes}
use Rattle.teco_io.specs.Terminal.{Screen}
use Rattle.teco_cli.specs.Conflict.{has_more}
use Rattle.teco_cli.specs.StreamNames.{is_standard_input}
use Rattle.teco_cli.specs.declared.line.Commands.{Commands}
use Rattle.teco_cli.specs.declared.line.Commands.TheVariants.{StandardInput, Sources, Pages, Bytes}
use Rattle.teco_cli.specs.declared.line.Line.{Line}
use Rattle.teco_driver.specs.Run.{Edits, depth_of, input_from, named_input, standard_input}
use Rattle.teco_fs.specs.Seen.{DiskSeen, KeepsDisk, KeepsStream}
use Rattle.teco_driver.specs.declared.giving.Feed.{Feed}
use Rattle.teco_driver.specs.declared.giving.Feed.TheVariants.{Stream}
use Rattle.teco_driver.specs.declared.giving.Feed.TheVariants as feed
use Rattle.teco_driver.specs.declared.host.Host.{Host}
use Rattle.teco_driver.specs.Seen.{CommandsSeen, commands_seen, run_seen}
use Rattle.teco_serve.specs.declared.fate.Fate.{Fate}
use Rattle.teco_serve.specs.declared.fate.Fate.TheVariants.{Ended}
use Rattle.teco_serve.specs.declared.served.Served.TheVariants as served

-- how a source over the bytes of a word is seen
abbrev pub word_seen : SourceView WordSource
word_seen = record {
  coming = (word.coming-value).it;
  bound = (word.bound-value).it;
  failures = (word.failures-value).it;
  ended = (word.ended-value).it;
}

-- how the parts of a host are seen
pub record HostView (D I S T : Type 0) : Type 1 where
  pub disk : D → DiskSeen I
  pub stream : SourceView S
  pub screen : T → Screen
  -- an alarm of so many seconds asked a command string to stop after so many steps
  pub asked : ℕ → ℕ → Type 0

abbrev pub host_view : {D I S T : Type 0} → (D → DiskSeen I) → SourceView S → (T → Screen) → (ℕ → ℕ → Type 0)
    → HostView D I S T
host_view disk stream screen asked = record { disk = disk; stream = stream; screen = screen; asked = asked }

-- A run over this input of the line, a file or standard input, by the commands that were given.
abbrev pub EditsInput : {D I S A T : Type 0} → HostView D I S T → Line → List ℕ → CommandsSeen → Host S A T D
    → Host S A T D → Fate → Type 0
EditsInput view line input given old new fate = Edits line input
    (run_seen
    (input_from (is_standard_input input) (standard_input view.stream old.commands new.commands)
    (named_input (view.disk old.disk) (view.disk new.disk) input))
    given (view.disk old.disk) (view.disk new.disk) view.screen old.terminal new.terminal) fate

-- Nothing was done.
abbrev pub IsIdle : {D I S A T : Type 0} → HostView D I S T → Host S A T D → Host S A T D → Type 0
IsIdle view old new = (new.terminal ≡ old.terminal) × KeepsDisk (view.disk old.disk) (view.disk new.disk)

-- By commands in memory: the run is over these bytes, of which no read fails.
pub record EditsByBytes {D I S A T : Type 0} (view : HostView D I S T) (line : Line) (input bytes : List ℕ)
    (old new : Host S A T D) (fate : Fate) : Type 0 where
  pub kept : KeepsStream input old.commands new.commands
  pub first : WordSource
  pub last : WordSource
  pub coming : word_seen.coming first ≡ Some bytes
  pub edits : EditsInput view line input (commands_seen word_seen first last view.asked (depth_of line bytes)) old new fate
  pub reads : fate ≢ Ended served.ReadFault

-- By the commands of standard input, which come as they are wanted.
abbrev pub EditsByStream : {D I S A T : Type 0} → HostView D I S T → Line → List ℕ → Host S A T D → Host S A T D → Fate
    → Type 0
EditsByStream view line input old new fate =
    EditsInput view line input (commands_seen view.stream old.commands new.commands view.asked line.undo) old new fate

-- These commands come on standard input as they are wanted: no option gives them, or a name of it does.
abbrev pub come_as_wanted : Commands → Bool
come_as_wanted StandardInput = true
come_as_wanted (Sources names word) = false
come_as_wanted (Pages word) = false
come_as_wanted (Bytes name) = is_standard_input (string_bytes name)

-- The commands of the line are served to one input as they come. Else they are had whole, before any input is read.
abbrev pub is_streamed : Line → Bool
is_streamed line = come_as_wanted line.commands && not (has_more line)

-- A run over this input by the commands that come from there.
abbrev pub EditsGiven : {D I S A T : Type 0} → HostView D I S T → Line → Feed → List ℕ → Host S A T D → Host S A T D → Fate
    → Type 0
EditsGiven view line Stream input old new fate = EditsByStream view line input old new fate
EditsGiven view line (feed.Bytes bytes) input old new fate = EditsByBytes view line input bytes.now old new fate
