-- What a run under a limit of the steps that its record tells has done.
use Rattle.std.proofs.Common.{◌≡◌, ℕ, Bool, true, false, List, Option, Some, None, refl, ap, ◌∙◌, eqb, eqb-true, eq-eqb}
use Rattle.teco_core.specs.declared.code.Code.{Code}
use Rattle.teco_core.specs.declared.code.Code.TheVariants.{Mem, Tty}
use Rattle.teco_store.specs.State.{State}
use Rattle.teco_exec.specs.Laws.{EnoughIsEnough, LimitsAreReached}
use Rattle.teco_exec.specs.Runs.{Runs}
use Rattle.teco_exec.specs.StringMeaning.{string_meaning}
use Rattle.teco_session.specs.History.{History, present}
use Rattle.teco_session.specs.Step.{RunStep}
use Rattle.teco_session.specs.declared.request.Answer.{Answer}
use Rattle.teco_session.specs.declared.request.Answer.TheVariants.{Ended, NotBegun, AfterExit}
use Rattle.teco_journal.specs.Events.{ran}
use Rattle.teco_replay.specs.Told.{Happens, after_event, after_events}
use Rattle.teco_replay.specs.Verdict.{fault_unless, fault_of_end, fault_of}
use Rattle.teco_replay.specs.declared.replaying.ReplayFault.TheVariants.{Wrong}
use Rattle.teco_replay.proofs.Journals.{run_tells}

end_same : (code : Option Code) (same : Bool) → fault_of_end code same ≡ None → same ≡ true
end_same (Some Mem) same e = absurd (cc)
end_same (Some Tty) same e = absurd (cc)
end_same code true e = refl
end_same code false e = absurd (cc)

-- A string that is run again without a fault is the one of its record, whatever its limit was.
pub ran_again : EnoughIsEnough → LimitsAreReached → (limit : ℕ) (old new : History) (text : List ℕ) (steps : ℕ) (answer : Answer) (typed : List ℕ)
    → RunStep limit old text answer typed new → fault_of steps answer ≡ None → new ≡ after_event old (ran steps text)
unfolding after_events
ran_again enough reached limit old new text steps (Ended outcome) typed r e =
    run_tells enough reached limit old new text (Ended outcome) typed r
    ∙ ap (λ (k : ℕ). after_event old (ran k text)) (eqb-true outcome.steps steps (end_same outcome.code (eqb outcome.steps steps) e))
ran_again enough reached limit old new text steps answer typed r e = absurd (cc)

ended_so : (s : State) (text : List ℕ) (limit : ℕ) (code : Option Code) (steps : ℕ) (typed : List ℕ) (new : State) → Runs s text limit (record { code = code; steps = steps }) typed new
    → (string_meaning s text limit).steps ≡ limit → fault_of_end code (eqb steps limit) ≡ Some Wrong → ⊥
ended_so s text limit (Some Mem) steps typed new r h e = cc
ended_so s text limit (Some Tty) steps typed new r h e = cc
ended_so s text limit code steps typed new r h e =
    (let none : fault_unless (eqb steps limit) ≡ None = ap fault_unless (eq-eqb steps limit (r.steps ∙ h)) in cc)

-- What can happen fails by no fault of its record.
pub never_wrong : (old new : History) (text : List ℕ) (steps : ℕ) (answer : Answer) (typed : List ℕ)
    → RunStep steps old text answer typed new → Happens old (ran steps text) → fault_of steps answer ≡ Some Wrong → ⊥
never_wrong old new text steps (Ended outcome) typed r h e = ended_so (present old) text steps outcome.code outcome.steps typed r.0 r.2 h.1 e
never_wrong old new text steps AfterExit typed r h e = (let done = r.0 in let going = h.0 in cc)
never_wrong old new text steps NotBegun typed r h e = cc
never_wrong old new text steps answer typed r h e = r
