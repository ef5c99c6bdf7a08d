-- Lemmas on what a listener has heard, and what happened by it.
use Rattle.std.proofs.Common.{◌≡◌, ℕ, List, [], ◌∷◌, ◌++◌, map, Result, Ok, Err, refl, sym, ap, ◌∙◌, subst, append-nil, inl, inr}
use Rattle.std.specs.Prelude.{OnErr, OnOk, Option, Some}
use Rattle.teco_core.specs.declared.code.Code.{Code}
use Rattle.teco_core.specs.declared.code.Code.TheVariants.{Mem, Tty}
use Rattle.teco_store.specs.State.{State}
use Rattle.teco_exec.specs.Laws.{EnoughIsEnough, LimitsAreReached}
use Rattle.teco_exec.specs.Runs.{Runs}
use Rattle.teco_exec.specs.StringMeaning.{StringMeaning, string_meaning}
use Rattle.teco_journal.specs.Events.{Event}
use Rattle.teco_replay.specs.Laws.{JournalsHappen, JournalsTell}
use Rattle.teco_replay.specs.Told.{AllHappen, Deed, Lived, after_event, after_events, asked, event_of_request, event_of_run, journal_of}
use Rattle.teco_session.specs.Answers.{string_outcome}
use Rattle.teco_session.specs.History.{History, NotedString, noted, present}
use Rattle.teco_session.specs.Step.{Reply, RunStep, Step}
use Rattle.teco_session.specs.declared.request.Answer.{Answer}
use Rattle.teco_session.specs.declared.request.Answer.TheVariants.{AfterExit, Ended, NotBegun}
use Rattle.teco_session.specs.declared.request.Request.{Request}
use Rattle.teco_serve.specs.Exchange.{Allowance, RunsAllowed}
use Rattle.teco_serve.specs.Heard.{Heard}
use Rattle.teco_serve.specs.Heard.Heard.{Did, Finished, Left, Moved, Ran}
use Rattle.teco_serve.specs.Hearing.{HearsAll, HearsAllDone, events_in, told_alone}

after_both : (h : History) (xs ys : List Event) → after_events h (xs ++ ys) ≡ after_events (after_events h xs) ys
unfolding after_events
after_both h [] ys = refl
after_both h (x ∷ xs) ys = after_both (after_event h x) xs ys

both_happen : (h : History) (xs ys : List Event) → AllHappen h xs → AllHappen (after_events h xs) ys → AllHappen h (xs ++ ys)
unfolding after_events AllHappen
both_happen h [] ys p q = q
both_happen h (x ∷ xs) ys p q = (p.0, both_happen (after_event h x) xs ys p.1 q)

events_in-append : (xs ys : List Heard) → events_in (xs ++ ys) ≡ events_in xs ++ events_in ys
events_in-append [] ys = refl
events_in-append (Did event ∷ xs) ys = ap (λ l. event ∷ l) (events_in-append xs ys)
events_in-append (Ran text begins answered bounds session ∷ xs) ys = events_in-append xs ys
events_in-append (Moved begins code session ∷ xs) ys = events_in-append xs ys
events_in-append (Left bytes broken_off ∷ xs) ys = events_in-append xs ys
events_in-append (Finished line input fate ∷ xs) ys = events_in-append xs ys

events_in-told : (events : List Event) → events_in (told_alone events) ≡ events
events_in-told [] = refl
events_in-told (event ∷ events) = ap (λ l. event ∷ l) (events_in-told events)

-- A string is cited here by its bytes, where a deed has them in a vector. However it ended, its state is the one of its steps.
state_is : EnoughIsEnough → (s : State) (text : List ℕ) (limit : ℕ) (code : Option Code) (steps : ℕ) (typed : List ℕ) (new : State) → Runs s text limit (record { code = code; steps = steps }) typed new
    → new ≡ (string_meaning s text steps).state
state_is enough s text limit (Some Mem) steps typed new r = r.state
state_is enough s text limit (Some Tty) steps typed new r = r.state
state_is enough s text limit code steps typed new r =
    r.state ∙ ap (λ (m : StringMeaning). m.state) (sym (enough s text limit)) ∙ ap (λ k. (string_meaning s text k).state) (sym r.steps)

-- and under a limit of just these it takes them
steps_are : EnoughIsEnough → LimitsAreReached → (s : State) (text : List ℕ) (limit : ℕ) (code : Option Code) (steps : ℕ) (typed : List ℕ) (new : State) → Runs s text limit (record { code = code; steps = steps }) typed new
    → (string_meaning s text steps).steps ≡ steps
steps_are enough reached s text limit (Some Mem) steps typed new r = reached s text limit steps r.before
steps_are enough reached s text limit (Some Tty) steps typed new r = reached s text limit steps r.before
steps_are enough reached s text limit code steps typed new r =
    ap (λ k. (string_meaning s text k).steps) r.steps ∙ ap (λ (m : StringMeaning). m.steps) (enough s text limit) ∙ sym r.steps

run_tells : EnoughIsEnough → (limit : ℕ) (old new : History) (text : List ℕ) (answer : Answer) (typed : List ℕ) → RunStep limit old text answer typed new → new ≡ after_events old (event_of_run text answer)
unfolding after_events
run_tells enough limit old new text (Ended outcome) typed r =
    r.3 ∙ ap (λ s. let note : NotedString = record { text = text; steps = outcome.steps; state = s } in noted old note) (state_is enough (present old) text limit outcome.code outcome.steps typed r.0 r.2)
run_tells enough limit old new text NotBegun typed r = r.2
run_tells enough limit old new text AfterExit typed r = r.2
run_tells enough limit old new text answer typed r = absurd r

run_happens : EnoughIsEnough → LimitsAreReached → (limit : ℕ) (old new : History) (text : List ℕ) (answer : Answer) (typed : List ℕ) → RunStep limit old text answer typed new → AllHappen old (event_of_run text answer)
unfolding AllHappen
run_happens enough reached limit old new text (Ended outcome) typed r =
    ((r.1, steps_are enough reached (present old) text limit outcome.code outcome.steps typed r.0 r.2), tt)
run_happens enough reached limit old new text answer typed r = tt

module _ {L : Type 0} (hears : L → L → Heard → Type 0) where
  HearsAll-append : (a b c : L) (xs ys : List Heard) → HearsAll hears a xs b → HearsAll hears b ys c → HearsAll hears a (xs ++ ys) c
  HearsAll-append a b c [] ys p q = subst (λ l. HearsAll hears l ys c) p q
  HearsAll-append a b c (x ∷ xs) ys p q = (p.0, p.1, HearsAll-append p.0 b c xs ys p.2 q)

  -- what was heard of a session, and then more of it
  pub HearsAllDone-trans : (a b c : L) (old mid new : History) → HearsAllDone hears a b old mid → HearsAllDone hears b c mid new → HearsAllDone hears a c old new
  HearsAllDone-trans a b c old mid new p q =
      let both = events_in-append p.heard q.heard in
      record {
        heard = p.heard ++ q.heard;
        by_calls = HearsAll-append a b c p.heard q.heard p.by_calls q.by_calls;
        leads = q.leads ∙ ap (λ h. after_events h (events_in q.heard)) p.leads ∙ sym (after_both old (events_in p.heard) (events_in q.heard)) ∙ ap (after_events old) (sym both);
        happens = subst (AllHappen old) (sym both) (both_happen old (events_in p.heard) (events_in q.heard) p.happens (subst (λ h. AllHappen h (events_in q.heard)) p.leads q.happens));
      }

  -- nothing was heard, and nothing done
  pub HearsAllDone-none : (a b : L) (old new : History) → b ≡ a → new ≡ old → HearsAllDone hears a b old new
  unfolding after_events AllHappen
  HearsAllDone-none a b old new still same = record { heard = []; by_calls = still; leads = same; happens = tt }

  -- something else was heard, and nothing done
  pub HearsAllDone-besides : (a b : L) (h : History) (besides : Heard) → events_in (besides ∷ []) ≡ [] → hears a b besides → HearsAllDone hears a b h h
  unfolding after_events AllHappen
  HearsAllDone-besides a b h besides none p = record {
    heard = besides ∷ [];
    by_calls = (b, p, refl);
    leads = ap (after_events h) (sym none);
    happens = subst (AllHappen h) (sym none) tt;
  }

  -- the message of an answer is shown, and that is heard; or it is not, and nothing more is heard
  pub HearsAllDone-shown : {A E : Type 0} (result : Result A E) (a b : L) (h : History) (besides : Heard) → events_in (besides ∷ []) ≡ [] → OnOk result (hears a b besides) → OnErr result (b ≡ a)
      → HearsAllDone hears a b h h
  HearsAllDone-shown (Ok done) a b h besides none heard still = HearsAllDone-besides a b h besides none heard
  HearsAllDone-shown (Err fault) a b h besides none heard still = HearsAllDone-none a b h h still refl

  -- just these events were told, which lead from the old history to the new one
  HearsAllDone-told : (a b : L) (old new : History) (events : List Event) → HearsAll hears a (told_alone events) b → new ≡ after_events old events → AllHappen old events
      → HearsAllDone hears a b old new
  HearsAllDone-told a b old new events p leads happens = record {
    heard = told_alone events;
    by_calls = p;
    leads = leads ∙ ap (after_events old) (sym (events_in-told events));
    happens = subst (AllHappen old) (sym (events_in-told events)) happens;
  }

  -- what a request did was told
  pub HearsAllDone-request : JournalsTell → JournalsHappen → (a b : L) (limit : ℕ) (old new : History) (request : Request) (reply : Reply) → Step limit old request reply new
      → HearsAll hears a (told_alone (event_of_request request reply.answer)) b → HearsAllDone hears a b old new
  unfolding Lived journal_of
  HearsAllDone-request tell happen a b limit old new request reply step p =
      let deeds : List Deed = asked request reply ∷ [] in
      let lived : Lived old deeds new = (new, (limit, step), refl) in
      let events = event_of_request request reply.answer in
      let alone = append-nil events in
      HearsAllDone-told a b old new events p (tell old new deeds lived ∙ ap (after_events old) alone) (subst (AllHappen old) alone (happen old new deeds lived))

  -- a string that ran as it was allowed was told
  pub HearsAllDone-run : EnoughIsEnough → LimitsAreReached → (a b : L) (allowed : Allowance) (old new : History) (text : List ℕ) (answer : Answer) (typed : List ℕ)
      → RunsAllowed allowed (string_outcome answer) (λ limit. RunStep limit old text answer typed new)
      → HearsAll hears a (told_alone (event_of_run text answer)) b → HearsAllDone hears a b old new
  HearsAllDone-run enough reached a b allowed old new text answer typed (inl ran) p =
      HearsAllDone-told a b old new (event_of_run text answer) p (run_tells enough allowed.steps old new text answer typed ran) (run_happens enough reached allowed.steps old new text answer typed ran)
  HearsAllDone-run enough reached a b allowed old new text answer typed (inr broken) p =
      let limit = (string_outcome answer).steps in
      HearsAllDone-told a b old new (event_of_run text answer) p (run_tells enough limit old new text answer typed broken.ran) (run_happens enough reached limit old new text answer typed broken.ran)
