-- What a command string does.
use Rattle.std.specs.Prelude.{ℕ, ◌-◌, List, [], Option, Some, None, false}
use Rattle.teco_core.specs.declared.code.Code.{Code}
use Rattle.teco_core.specs.declared.code.Code.TheVariants as code
use Rattle.teco_core.specs.Arguments.{no_arguments}
use Rattle.teco_scan.specs.Lists.{nodes}
use Rattle.teco_store.specs.State.{State}
use Rattle.teco_step.specs.Step.{End, go, stop}
use Rattle.teco_exec.specs.World.{World, WorldAndEnd}
use Rattle.teco_exec.specs.Meaning.{meaning}

-- what a string gives: its state, typed bytes, code, steps and load
pub record StringMeaning : Type 0 where
  pub state : State
  pub typed : List ℕ
  pub code : Option Code
  pub steps : ℕ
  pub load : ℕ

-- A jump out of the whole text is TAG.
abbrev pub code_of : End → Option Code
code_of (stop c) = Some c
code_of (go name) = Some code.Tag
code_of e = None

abbrev pub first_world : State → ℕ → World
first_world s limit = record { profile = s.profile; state = s; arguments = no_arguments; typed = []; load = 0; fuel = limit }

-- the run of a text in a state, under a limit of steps
unfoldable pub string_run : State → List ℕ → ℕ → WorldAndEnd
string_run s text limit = meaning.list (nodes s.profile text) (nodes s.profile text) (first_world s limit) 0 false

abbrev pub meaning_within : ℕ → WorldAndEnd → StringMeaning
meaning_within limit r = record {
  state = r.0.state;
  typed = r.0.typed;
  code = code_of r.1;
  steps = limit - r.0.fuel;
  load = r.0.load;
}

-- the meaning of a text in a state, under a limit of steps
abbrev pub string_meaning : State → List ℕ → ℕ → StringMeaning
string_meaning s text limit = meaning_within limit (string_run s text limit)
