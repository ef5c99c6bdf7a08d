-- What is seen of the commands, the input and the output of one run.
use Rattle.teco_io.specs.declared.source.Source.{Ghosts as SourceView}
use Rattle.std.specs.Prelude.{◌≡◌, ℕ, List, Bool, Option}
use Rattle.teco_io.specs.Source.{Gives, HasEnded}
use Rattle.teco_fs.specs.declared.unkept.Unkept.{Unkept}
use Rattle.teco_fs.specs.Seen.{DiskSeen}
use Rattle.teco_serve.specs.declared.fate.Fate.{Fate}
use Rattle.teco_io.specs.Terminal.{Screen}

-- what is seen of the commands of a run
pub record CommandsSeen : Type 1 where
  -- nothing was read of them
  pub still : Type 0
  -- which bytes their source gave, and whether a read failed
  pub gave : List ℕ → Bool → Type 0
  -- their source has ended
  pub ended : Type 0
  -- an alarm of so many seconds asked one of them to stop after so many steps
  pub asked : ℕ → ℕ → Type 0
  -- so many of their strings are kept, or all
  pub depth : Option ℕ

abbrev pub commands_seen : {S : Type 0} → SourceView S → S → S → (ℕ → ℕ → Type 0) → Option ℕ → CommandsSeen
commands_seen source old new asked depth = record {
  still = new ≡ old;
  gave = Gives source.coming source.bound source.failures old new;
  ended = HasEnded (source.coming new) (source.ended new);
  asked = asked;
  depth = depth;
}

-- what is seen of where the input comes from
pub record InputSeen : Type 1 where
  -- why there is no input: by how the run ends
  pub lacks : Fate → Type 0
  -- it is no regular file
  pub is_irregular : Type 0
  -- these bytes are the input
  pub is_input : List ℕ → Type 0

-- what is seen of where the output goes
pub record OutputSeen : Type 1 where
  -- nothing was written
  pub keeps : Type 0
  -- these bytes were written
  pub writes : List ℕ → Type 0
  -- these bytes could not be written, or the old ones not be kept before that: why, by how the run ends
  pub fails : List ℕ → Fate → Type 0
  -- these bytes are there already
  pub has : List ℕ → Type 0
  -- with these bytes whole in a draft, what is there was seen to be as it was read
  pub is_as_read : List ℕ → Type 0
  -- what is there has changed since it was read, and these bytes were not written
  pub changed : List ℕ → Type 0
  -- this could not be kept of what was written over
  pub unkept : Option Unkept → Type 0

-- What is seen of one run: where its input comes from, its commands, and its disk and terminal before and after it.
pub record RunSeen (I T : Type 0) : Type 1 where
  pub input : InputSeen
  pub commands : CommandsSeen
  pub before : DiskSeen I
  pub after : DiskSeen I
  pub screen : T → Screen
  pub old : T
  pub new : T

abbrev pub run_seen : {I T : Type 0} → InputSeen → CommandsSeen → DiskSeen I → DiskSeen I → (T → Screen) → T → T
    → RunSeen I T
run_seen input commands before after screen old new = record {
  input = input;
  commands = commands;
  before = before;
  after = after;
  screen = screen;
  old = old;
  new = new;
}
