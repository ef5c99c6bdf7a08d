-- The events of a session tell its history, and can happen again.
use Rattle.std.proofs.Common.{◌≡◌, ℕ, List, [], ◌∷◌, ◌++◌, Option, Some, refl, sym, ap, ◌∙◌, subst}
use Rattle.teco_core.specs.declared.code.Code.{Code}
use Rattle.teco_core.specs.declared.code.Code.TheVariants.{Mem, Tty}
use Rattle.teco_store.specs.State.{State}
use Rattle.teco_exec.specs.Laws.{EnoughIsEnough, LimitsAreReached}
use Rattle.teco_exec.specs.Runs.{Runs}
use Rattle.teco_exec.specs.StringMeaning.{StringMeaning, string_meaning}
use Rattle.teco_session.specs.History.{History, NotedString, present, noted}
use Rattle.teco_session.specs.Step.{Step, Reply, RunStep, UndoStep, RedoStep, RewindStep}
use Rattle.teco_session.specs.declared.request.Request.{Request}
use Rattle.teco_session.specs.declared.request.Request.TheVariants.{Run, Undo, Redo, Rewind}
use Rattle.teco_session.specs.declared.request.Answer.{Answer}
use Rattle.teco_session.specs.declared.request.Answer.TheVariants.{Ended, NotBegun, AfterExit, Undone, NothingToUndo, Redone, NothingToRedo, Rewound}
use Rattle.teco_journal.specs.Events.{Event}
use Rattle.teco_replay.specs.Told.{after_event, after_events, AllHappen, event_of_run, event_of_undo, event_of_redo, event_of_rewind, event_of_request, event_of_deed, Deed, asked, dropped, DeedStep, Lived, journal_of}
use Rattle.teco_replay.specs.Laws.{JournalsTell, JournalsHappen}

after_both : (h : History) (xs ys : List Event) → after_events h (xs ++ ys) ≡ after_events (after_events h xs) ys
unfolding after_events
after_both h [] ys = refl
after_both h (x ∷ xs) ys = after_both (after_event h x) xs ys

both_happen : (h : History) (xs ys : List Event) → AllHappen h xs → AllHappen (after_events h xs) ys → AllHappen h (xs ++ ys)
unfolding after_events AllHappen
both_happen h [] ys p q = q
both_happen h (x ∷ xs) ys p q = (p.0, both_happen (after_event h x) xs ys p.1 q)

-- However a string ended, its state is the one of the steps that it took, and it takes just these under them.
is_there : EnoughIsEnough → (s : State) (text : List ℕ) (limit : ℕ) (code : Option Code) (steps : ℕ) (typed : List ℕ) (new : State) → Runs s text limit (record { code = code; steps = steps }) typed new
    → new ≡ (string_meaning s text steps).state
is_there enough s text limit (Some Mem) steps typed new r = r.state
is_there enough s text limit (Some Tty) steps typed new r = r.state
is_there enough s text limit code steps typed new r =
    r.state ∙ ap (λ (m : StringMeaning). m.state) (sym (enough s text limit)) ∙ ap (λ k. (string_meaning s text k).state) (sym r.steps)

took : EnoughIsEnough → LimitsAreReached → (s : State) (text : List ℕ) (limit : ℕ) (code : Option Code) (steps : ℕ) (typed : List ℕ) (new : State) → Runs s text limit (record { code = code; steps = steps }) typed new
    → (string_meaning s text steps).steps ≡ steps
took enough reached s text limit (Some Mem) steps typed new r = reached s text limit steps r.before
took enough reached s text limit (Some Tty) steps typed new r = reached s text limit steps r.before
took enough reached s text limit code steps typed new r =
    ap (λ k. (string_meaning s text k).steps) r.steps ∙ ap (λ (m : StringMeaning). m.steps) (enough s text limit) ∙ sym r.steps

undo_tells : (old new : History) (answer : Answer) (typed : List ℕ) → UndoStep old answer typed new → new ≡ after_events old (event_of_undo answer)
unfolding after_events
undo_tells old new Undone typed r = r.2
undo_tells old new NothingToUndo typed r = r.2
undo_tells old new answer typed r = absurd r

undo_happens : (old new : History) (answer : Answer) (typed : List ℕ) → UndoStep old answer typed new → AllHappen old (event_of_undo answer)
unfolding AllHappen
undo_happens old new Undone typed r = (r.0, tt)
undo_happens old new answer typed r = tt

redo_tells : (old new : History) (answer : Answer) (typed : List ℕ) → RedoStep old answer typed new → new ≡ after_events old (event_of_redo answer)
unfolding after_events
redo_tells old new Redone typed r = r.2
redo_tells old new NothingToRedo typed r = r.2
redo_tells old new answer typed r = absurd r

redo_happens : (old new : History) (answer : Answer) (typed : List ℕ) → RedoStep old answer typed new → AllHappen old (event_of_redo answer)
unfolding AllHappen
redo_happens old new Redone typed r = (r.0, tt)
redo_happens old new answer typed r = tt

rewind_tells : (n : ℕ) (old new : History) (answer : Answer) (typed : List ℕ) → RewindStep n old answer typed new → new ≡ after_events old (event_of_rewind n answer)
unfolding after_events
rewind_tells n old new Rewound typed r = r.2
rewind_tells n old new NothingToUndo typed r = r.2
rewind_tells n old new answer typed r = absurd r

rewind_happens : (n : ℕ) (old new : History) (answer : Answer) (typed : List ℕ) → RewindStep n old answer typed new → AllHappen old (event_of_rewind n answer)
unfolding AllHappen
rewind_happens n old new Rewound typed r = (r.0, tt)
rewind_happens n old new answer typed r = tt

module _ (enough : EnoughIsEnough) (reached : LimitsAreReached) where
  pub run_tells : (limit : ℕ) (old new : History) (text : List ℕ) (answer : Answer) (typed : List ℕ) → RunStep limit old text answer typed new → new ≡ after_events old (event_of_run text answer)
  unfolding after_events
  run_tells limit old new text (Ended outcome) typed r =
      r.3 ∙ ap (λ s. let note : NotedString = record { text = text; steps = outcome.steps; state = s } in noted old note) (is_there enough (present old) text limit outcome.code outcome.steps typed r.0 r.2)
  run_tells limit old new text NotBegun typed r = r.2
  run_tells limit old new text AfterExit typed r = r.2
  run_tells limit old new text answer typed r = absurd r

  run_happens : (limit : ℕ) (old new : History) (text : List ℕ) (answer : Answer) (typed : List ℕ) → RunStep limit old text answer typed new → AllHappen old (event_of_run text answer)
  unfolding AllHappen
  run_happens limit old new text (Ended outcome) typed r =
      ((r.1, took enough reached (present old) text limit outcome.code outcome.steps typed r.0 r.2), tt)
  run_happens limit old new text answer typed r = tt

  step_tells : (limit : ℕ) (old new : History) (q : Request) (r : Reply) → Step limit old q r new → new ≡ after_events old (event_of_request q r.answer)
  step_tells limit old new (Run text) r p = run_tells limit old new text.items r.answer r.typed p
  step_tells limit old new Undo r p = undo_tells old new r.answer r.typed p
  step_tells limit old new Redo r p = redo_tells old new r.answer r.typed p
  step_tells limit old new (Rewind n) r p = rewind_tells n old new r.answer r.typed p

  step_happens : (limit : ℕ) (old new : History) (q : Request) (r : Reply) → Step limit old q r new → AllHappen old (event_of_request q r.answer)
  step_happens limit old new (Run text) r p = run_happens limit old new text.items r.answer r.typed p
  step_happens limit old new Undo r p = undo_happens old new r.answer r.typed p
  step_happens limit old new Redo r p = redo_happens old new r.answer r.typed p
  step_happens limit old new (Rewind n) r p = rewind_happens n old new r.answer r.typed p

  deed_tells : (old new : History) (deed : Deed) → DeedStep old deed new → new ≡ after_events old (event_of_deed deed)
  unfolding after_events
  deed_tells old new (asked q r) p = step_tells p.0 old new q r p.1
  deed_tells old new dropped p = p

  deed_happens : (old new : History) (deed : Deed) → DeedStep old deed new → AllHappen old (event_of_deed deed)
  unfolding AllHappen
  deed_happens old new (asked q r) p = step_happens p.0 old new q r p.1
  deed_happens old new dropped p = (tt, tt)

  pub journals_tell : JournalsTell
  unfolding after_events Lived journal_of
  journals_tell old new [] p = p
  journals_tell old new (x ∷ xs) p =
      journals_tell p.0 new xs p.2
      ∙ ap (λ h. after_events h (journal_of xs)) (deed_tells old p.0 x p.1)
      ∙ sym (after_both old (event_of_deed x) (journal_of xs))

  pub journals_happen : JournalsHappen
  unfolding AllHappen Lived journal_of
  journals_happen old new [] p = tt
  journals_happen old new (x ∷ xs) p =
      both_happen old (event_of_deed x) (journal_of xs) (deed_happens old p.0 x p.1)
      (subst (λ h. AllHappen h (journal_of xs)) (deed_tells old p.0 x p.1) (journals_happen p.0 new xs p.2))
