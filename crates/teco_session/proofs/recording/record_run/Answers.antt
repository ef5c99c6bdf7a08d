use Rattle.std.proofs.Common.{◌≡◌, ℕ, List, refl, sym, ◌∙◌, ap, subst}
use Rattle.teco_store.specs.State.{State, Full, state_of}
use Rattle.teco_exec.specs.Runs.{Runs}
use Rattle.teco_exec.specs.StringMeaning.{string_meaning}
use Rattle.teco_exec.specs.declared.outcome.Outcome.{Outcome}
use Rattle.teco_session.proofs.Records.{run_left}
use Rattle.teco_session.proofs.recording.record_run.Goals as goal

-- A run from another editor in the same state, to one that is the same.
runs_between : (from old to new : Full) (text : List ℕ) (limit : ℕ) (outcome : Outcome) (typed : List ℕ) → state_of from ≡ state_of old → new ≡ to
    → Runs (state_of from) text limit outcome typed (state_of to) → Runs (state_of old) text limit outcome typed (state_of new)
runs_between from old to new text limit outcome typed e f runs =
    subst (λ (s : State). Runs s text limit outcome typed (state_of new)) e (subst (λ (s : State). Runs (state_of from) text limit outcome typed s) (ap state_of (sym f)) runs)

meant_between : (from old to new : Full) (text : List ℕ) (steps : ℕ) → state_of from ≡ state_of old → new ≡ to
    → state_of to ≡ (string_meaning (state_of from) text steps).state → state_of new ≡ (string_meaning (state_of old) text steps).state
meant_between from old to new text steps e f meant = ap state_of f ∙ meant ∙ ap (λ (s : State). (string_meaning s text steps).state) e

pub returns-clause-run : goal.returns-clause-run
returns-clause-run g c =
    let under = c.run_with-ran.ensures.run in
    let run = under.so.run in
    record {
      under = under.under;
      within = under.within;
      stays = under.stays;
      heard = under.heard;
      so = (
        run.0,
        runs_between c.begin.new.self.full c.args.recorder.now.full c.run_with-ran.new.desk.full c.take-changes.new.self.full c.args.text.now under.under c.run_with-ran.result.outcome run.0
            c.begin.ensures.state c.take-changes.ensures.full run.1,
        run.2,
      );
    }

pub returns-clause-again : goal.returns-clause-again
returns-clause-again g c =
    meant_between c.begin.new.self.full c.args.recorder.now.full c.run_with-ran.new.desk.full c.take-changes.new.self.full c.args.text.now c.run_with-ran.result.outcome.steps
    c.begin.ensures.state c.take-changes.ensures.full c.run_with-ran.ensures.run.so.again

pub returns-clause-exit : goal.returns-clause-exit
returns-clause-exit g c = λ going over.
    let done = λ (s : State). s.is_done in
    c.run_with-ran.ensures.run.so.exit (ap done c.begin.ensures.state ∙ going)
    (sym (ap done (ap state_of c.take-changes.ensures.full)) ∙ over)

pub returns-clause-leads : goal.returns-clause-leads
returns-clause-leads g c =
    (run_left c.record_laws.ensures.leads c.meaning_laws.ensures.limit_zero c.args.recorder.now.full c.args.recorder.now.full c.take-changes.new.self.full c.begin.new.self c.run_with-ran.new.desk c.args.text.now
    c.run_with-ran.result.outcome.steps c.take-changes.result.items c.requires refl c.begin.ensures.state c.begin.ensures.follows c.run_with-ran.ensures.run.so.follows
    c.take-changes.ensures.full c.take-changes.ensures.entry).leads

pub returns-clause-ran : goal.returns-clause-ran
returns-clause-ran g c =
    (run_left c.record_laws.ensures.leads c.meaning_laws.ensures.limit_zero c.args.recorder.now.full c.args.recorder.now.full c.take-changes.new.self.full c.begin.new.self c.run_with-ran.new.desk c.args.text.now
    c.run_with-ran.result.outcome.steps c.take-changes.result.items c.requires refl c.begin.ensures.state c.begin.ensures.follows c.run_with-ran.ensures.run.so.follows
    c.take-changes.ensures.full c.take-changes.ensures.entry).run

pub returns-clause-told : goal.returns-clause-told
returns-clause-told g c knows = rw (sym c.begin.ensures.state) (c.run_with-ran.ensures.told knows)

pub returns-clause-visits : goal.returns-clause-visits
returns-clause-visits g c wanted from follows =
    rw (sym c.begin.ensures.state) (c.run_with-ran.ensures.visits wanted from (rw c.begin.ensures.state follows))
