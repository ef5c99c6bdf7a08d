-- How a run of the string ended, and where that leaves a walk.
use Rattle.std.proofs.Common.{◌≡◌, ℕ, ◌≤◌, List, [], length, take, Option, Some, None, Bool, false, sym, ◌∙◌, ap, subst, arith}
use Rattle.std.specs.Io.KnownBytes.{Appends}
use Rattle.std.proofs.lemmas.Bool.{true≢false}
use Rattle.teco_core.specs.declared.code.Code.{Code}
use Rattle.teco_core.specs.declared.code.Code.TheVariants.{Mem, Tty}
use Rattle.teco_store.specs.State.{State}
use Rattle.teco_io.specs.Terminal.{Screen, Shows}
use Rattle.teco_exec.specs.Laws.{EnoughIsEnough, StepsWithinLimit}
use Rattle.teco_exec.specs.Runs.{Runs, EndsWell}
use Rattle.teco_exec.specs.StringMeaning.{StringMeaning, string_meaning}
use Rattle.teco_exec.specs.declared.outcome.Outcome.{Outcome}
use Rattle.teco_session.specs.History.{History, NotedString, present, undone}
use Rattle.std.specs.Prelude.{IfSome}
use Rattle.teco_session.specs.Answers.{outcome_of}
use Rattle.teco_session.specs.Step.{RunStep}
use Rattle.teco_session.specs.declared.request.Answer.{Answer}
use Rattle.teco_session.specs.declared.request.Answer.TheVariants.{Ended}
use Rattle.teco_debugger.specs.Walk.{after_all, lacks_memory, meant, walked}
use Rattle.teco_debugger.proofs.Walked.{noted_first, noted_walked, present_noted, undone_base}

-- What did not end for want of memory ended as is meant.
pub ends_well : (s : State) (text : List ℕ) (limit : ℕ) (code : Option Code) (steps : ℕ) (typed : List ℕ) (new : State) → Runs s text limit (record { code = code; steps = steps }) typed new → lacks_memory code ≡ false
    → EndsWell s text limit (record { code = code; steps = steps }) typed new
ends_well s text limit None steps typed new r has = r
ends_well s text limit (Some Mem) steps typed new r has = absurd (true≢false has)
ends_well s text limit (Some Tty) steps typed new r has = absurd (true≢false has)
ends_well s text limit code steps typed new r has = r

-- However it ended, its state is the one of the steps that it took.
is_there : EnoughIsEnough → (s : State) (text : List ℕ) (limit : ℕ) (code : Option Code) (steps : ℕ) (typed : List ℕ) (new : State) → Runs s text limit (record { code = code; steps = steps }) typed new
    → new ≡ (string_meaning s text steps).state
is_there enough s text limit (Some Mem) steps typed new r = r.state
is_there enough s text limit (Some Tty) steps typed new r = r.state
is_there enough s text limit code steps typed new r =
    r.state ∙ ap (λ (m : StringMeaning). m.state) (sym (enough s text limit)) ∙ ap (λ k. (string_meaning s text k).state) (sym r.steps)

no_further : StepsWithinLimit → (s : State) (text : List ℕ) (limit : ℕ) (code : Option Code) (steps : ℕ) (typed : List ℕ) (new : State) → Runs s text limit (record { code = code; steps = steps }) typed new → steps ≤ limit
no_further within s text limit (Some Mem) steps typed new r = omega (arith, r.before, within s text limit)
no_further within s text limit (Some Tty) steps typed new r = omega (arith, r.before, within s text limit)
no_further within s text limit code steps typed new r = omega (arith, r.steps, within s text limit)

-- Under limit 0 it took no step.
no_step : (s : State) (text : List ℕ) (code : Option Code) (steps : ℕ) (typed : List ℕ) (new : State) → Runs s text 0 (record { code = code; steps = steps }) typed new → steps ≡ 0
no_step s text (Some Mem) steps typed new r = absurd (omega (arith, r.before))
no_step s text (Some Tty) steps typed new r = absurd (omega (arith, r.before))
no_step s text code steps typed new r = omega (arith, r.steps)

unmoved : (s : State) (text : List ℕ) (code : Option Code) (steps : ℕ) (typed : List ℕ) (new : State) → Runs s text 0 (record { code = code; steps = steps }) typed new → new ≡ (string_meaning s text 0).state
unmoved s text (Some Mem) steps typed new r = absurd (omega (arith, r.before))
unmoved s text (Some Tty) steps typed new r = absurd (omega (arith, r.before))
unmoved s text code steps typed new r = r.state

-- what was answered of a string under limit 0, after those that are done
module _ (old after : History) (text ran : List ℕ) (answer : Answer) (outcome : Outcome) (typed : List ℕ) (same : ran ≡ text) (is : answer ≡ Ended outcome) (run : RunStep 0 old ran answer typed after) where
  first : RunStep 0 old text (Ended outcome) typed after
  first =
      subst (λ t. RunStep 0 old t (Ended outcome) typed after) same
      (subst (λ a. RunStep 0 old ran a typed after) is run)

  pub began_steps : outcome.steps ≡ 0
  began_steps = no_step (present old) text outcome.code outcome.steps typed first.0 first.2

  pub began : old.depth ≡ None → old.cursor ≤ length old.notes → after ≡ walked old.first (take old.cursor old.notes) text outcome.steps
  began none within =
      first.3 ∙ noted_first old text outcome.steps first.0 none within
      (unmoved (present old) text outcome.code outcome.steps typed first.0 first.2 ∙ ap (λ k. (string_meaning (present old) text k).state) (sym began_steps))

-- what was answered of the string that ran again, from the state before it
module _ (limit : ℕ) (begin : State) (before : List NotedString) (text : List ℕ) (done : ℕ) (there after : History) (ran : List ℕ) (answer : Answer) (outcome : Outcome) (typed : List ℕ) (back : there ≡ undone (walked begin before text done)) (same : ran ≡ text) (is : answer ≡ Ended outcome) (run : RunStep limit there ran answer typed after) where
  step : RunStep limit (undone (walked begin before text done)) text (Ended outcome) typed after
  step =
      subst (λ h. RunStep limit h text (Ended outcome) typed after) back
      (subst (λ t. RunStep limit there t (Ended outcome) typed after) same
      (subst (λ a. RunStep limit there ran a typed after) is run))

  pub ran_on : EnoughIsEnough → after ≡ walked begin before text outcome.steps
  ran_on enough =
      step.3 ∙ noted_walked begin before text done outcome.steps step.0
      (is_there enough (present (undone (walked begin before text done))) text limit outcome.code outcome.steps typed step.0 step.2)

  pub ran_within : StepsWithinLimit → outcome.steps ≤ limit
  ran_within within = no_further within (present (undone (walked begin before text done))) text limit outcome.code outcome.steps typed step.0 step.2

  pub ran_steps : lacks_memory outcome.code ≡ false → outcome.steps ≡ (meant (after_all begin before) text limit).steps
  ran_steps has =
      (ends_well (present (undone (walked begin before text done))) text limit outcome.code outcome.steps typed step.0 step.2 has).steps
      ∙ ap (λ z. (meant z text limit).steps) (undone_base begin before text done)

  pub ran_state : EnoughIsEnough → lacks_memory outcome.code ≡ false → (meant (after_all begin before) text outcome.steps).state ≡ (meant (after_all begin before) text limit).state
  ran_state enough has = ap (λ k. (meant (after_all begin before) text k).state) (ran_steps has) ∙ ap (λ (m : StringMeaning). m.state) (enough (after_all begin before) text limit)

-- what was answered of a string after those that are done
module _ (limit : ℕ) (old after : History) (text ran : List ℕ) (answer : Answer) (outcome : Outcome) (typed : List ℕ) (same : ran ≡ text) (is : answer ≡ Ended outcome) (run : RunStep limit old ran answer typed after) where
  pub went : RunStep limit old text (Ended outcome) typed after
  went =
      subst (λ t. RunStep limit old t (Ended outcome) typed after) same
      (subst (λ a. RunStep limit old ran a typed after) is run)

  pub well_ended : lacks_memory outcome.code ≡ false → EndsWell (present old) text limit outcome typed went.0
  well_ended has = ends_well (present old) text limit outcome.code outcome.steps typed went.0 went.2 has

  pub ended_state : old.cursor ≤ length old.notes → lacks_memory outcome.code ≡ false → present after ≡ (meant (present old) text limit).state
  ended_state within has = ap present went.3 ∙ present_noted old _ within ∙ (well_ended has).state

-- what is known of how a string ended
pub known : (P : Outcome → Type 0) (answer : Answer) (outcome : Outcome) → answer ≡ Ended outcome → IfSome (outcome_of answer) P → P outcome
known P answer outcome is h = subst (λ a. IfSome (outcome_of a) P) is h

-- Of a terminal that had shown nothing, what is taken is what was typed.
pub all_typed : (old new : Screen) (typed taken : List ℕ) (failed : Bool) → Shows old new typed failed → old.shown ≡ Some [] → new.shown ≡ Some taken → taken ≡ typed
all_typed old new typed taken failed shows none all =
    subst (λ o. Appends o (Some taken) typed) none (subst (λ o. Appends old.shown o typed) all shows.more)
