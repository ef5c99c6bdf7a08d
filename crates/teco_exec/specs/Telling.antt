-- A place as it is told, and when it is.
use Rattle.std.specs.Prelude.{◌≡◌, ◌↔◌, ℕ, List, Option, None, Some, Result, Ok, IfOk, IfSome, MatchOption, map}
use Rattle.std.specs.declared.alloc.AllocError.{AllocError}
use Rattle.teco_core.specs.declared.profile.Profile.{Profile}
use Rattle.teco_scan.specs.Breaks.{first_break}
use Rattle.teco_store.specs.State.{State}
use Rattle.teco_exec.specs.Places.{CallToken, IsPlaceAfter, Told}
use Rattle.teco_exec.specs.declared.outcome.Outcome.{Outcome}
use Rattle.teco_exec.specs.declared.place.Call.{Call}
use Rattle.teco_exec.specs.declared.place.Place.{Place}

abbrev pub call_told : Call → CallToken
call_told x = record { register = x.register; at = x.at; turns = x.turns.items }

-- a place as it is told, in this profile and this innermost text
abbrev pub told_of : Profile → List ℕ → Place → Told
told_of profile text p = record {
  profile = profile;
  steps = p.steps;
  text = text;
  at = p.at;
  turns = p.turns.items;
  calls = map call_told p.calls.items;
}

-- It is the last place at which the run of a whole string has stood after this many steps, and its fault is the
-- first one of the innermost text.
pub record IsLastPlace (s : State) (text : List ℕ) (k : ℕ) (p : Place) : Type 0 where
  pub innermost : List ℕ
  pub stood : IsPlaceAfter s text k (told_of s.profile innermost p)
  pub fault : p.fault ≡ first_break s.profile innermost

-- Of a string that was run from a state and ended so, this is told: the last place at which its run stood,
-- exactly where it ended by a code; or else memory lacked for the place.
pub record TellsPlace (s : State) (text : List ℕ) (outcome : Outcome)
    (told : Result (Option Place) AllocError) : Type 0 where
  pub place : IfOk told (λ some. IfSome some (λ p. IsLastPlace s text outcome.steps p))
  pub exactly : (told ≡ Ok None) ↔ (outcome.code ≡ None)

-- Of a string that was run from a state and ended so, a watch that knew nothing before knows this: where its run
-- last stood, or still nothing where it ended with no code.
abbrev pub KnowsLast : (Option Told → Type 0) → State → List ℕ → Outcome → Type 0
KnowsLast knows s text outcome = MatchOption outcome.code (knows None)
    (λ _. (p : Told) × knows (Some p) × IsPlaceAfter s text outcome.steps p)
