use Rattle.std.proofs.Common.{◌≡◌, [], ◌∷◌, ◌++◌, Some, true, false, inl, refl, rules, sym, ◌∙◌, subst, append-nil}
use Rattle.teco_session.specs.Answers.{string_outcome}
use Rattle.teco_session.specs.Kept.{history_of}
use Rattle.teco_session.specs.Step.{Reply, RunStep, is_terminal_failure}
use Rattle.std.proofs.lemmas.Result.{on_err_weaker}
use Rattle.teco_exec.proofs.Continuations.{unbroken}
use Rattle.teco_io.proofs.Shown.{Puts-after}
use Rattle.teco_io.specs.Terminal.{Shows, Puts}
use Rattle.teco_serve.specs.Exchange.{HasRung, allowance}
use Rattle.teco_exec.specs.Laws.{EnoughIsEnough, LimitsAreReached}
use Rattle.teco_replay.specs.Told.{event_of_run}
use Rattle.teco_serve.specs.Hearing.{HearsAll, HearsAllDone, told_alone}
use Rattle.teco_serve.specs.Message.{message}
use Rattle.teco_serve.proofs.Exchanges.{HasRun, failure-some, message-no_exit, message-some, runs_allowed}
use Rattle.teco_serve.proofs.Hearings.{HearsAllDone-run, HearsAllDone-shown, HearsAllDone-trans}
use Rattle.teco_serve.proofs.exchange.run_text.Given as given
use Rattle.teco_serve.proofs.exchange.run_text.Goals as goal
use Rattle.teco_serve.proofs.exchange.run_text.Goals.{Joined-bounds, in-Some, in_default+then-wants_place, in_default+else-wants_place}

ran : (g : given.Over) (c : Joined-bounds g)
    → HasRun (allowance c.args.settings.bounds (HasRung g.A.Stop.answered)) c.args.text.now (history_of c.args.session.now) (history_of c.match-bounds.session)
    (g.T.Terminal.screen c.args.term.now) (g.T.Terminal.screen c.match-bounds.term) c.match-bounds.answered.answer
ran g c = elim c.match-bounds.branch [
  | in-Some w ↦
      let run = w.run_placed-answered.ensures.run in
      let step = run.so.step in
      let some : c.args.settings.bounds.seconds ≡ Some w.in-Some.seconds = search rules in
      let answer = w.run_placed-answered.result.answer in
      rw (w.session-is, w.term-is, w.answered-is) (record {
        typed = step.0;
        ran = runs_allowed g.A.Stop.answered _ w.run_placed-answered.new.stop c.args.settings.bounds w.in-Some.seconds (string_outcome answer)
            (λ limit. RunStep limit (history_of c.args.session.now) c.args.text.now answer step.0 (history_of w.run_placed-answered.new.session))
            run.under some w.run_placed-answered.ensures.still (record { span = search rules; fresh = search rules }) run.within run.stays step.1;
        shows = step.2;
        exit = run.so.exit;
      })
  | in_default+then-wants_place w ↦
      let run = unbroken c.args.settings.bounds.steps _ _ w.run_placed.ensures.run in
      rw (w.session-is, w.term-is, w.answered-is) (record { typed = run.step.0; ran = inl run.step.1; shows = run.step.2; exit = run.exit })
  | in_default+else-wants_place w ↦
      let run = w.run.ensures in
      rw (w.session-is, w.term-is, w.answered-is) (record { typed = run.step.0; ran = inl run.step.1; shows = run.step.2; exit = run.exit })
]

-- the string was told as it ran
told : (g : given.Over) (c : Joined-bounds g) (after : g.row.L.Denot) → EnoughIsEnough → LimitsAreReached → HearsAll g.L.Listens.hears c.args.listener.now (told_alone (event_of_run c.args.text.now c.match-bounds.answered.answer)) after
    → HearsAllDone g.L.Listens.hears c.args.listener.now after (history_of c.args.session.now) (history_of c.match-bounds.session)
told g c after enough reached p =
    let run = ran g c in
    HearsAllDone-run g.L.Listens.hears enough reached _ after _ _ _ c.args.text.now c.match-bounds.answered.answer run.typed run.ran p

pub returns-then-is_terminal_failure : goal.returns-then-is_terminal_failure
returns-then-is_terminal_failure g c =
    let run = ran g (goal.at.returns-then-is_terminal_failure g c).Joined-bounds in
    let reply : Reply = record { answer = c.match-bounds.answered.answer; typed = run.typed } in
    let failed : is_terminal_failure reply.answer ≡ true = sym c.is_terminal_failure.ensures ∙ c.if-is_terminal_failure.true in
    record {
      done = (
        reply ∷ [],
        (reply, refl, run.ran),
        (run.typed, (message c.args.settings.manner reply.answer, append-nil (run.typed ++ message c.args.settings.manner reply.answer)), subst (λ b. Shows (g.T.Terminal.screen c.args.term.now) (g.T.Terminal.screen c.match-bounds.term) run.typed b) failed run.shows),
        message-some c.args.settings.manner reply (failure-some c.args.settings.manner reply.answer failed),
      );
      err = message-no_exit c.args.settings.manner c.args.text.now (history_of c.args.session.now) (history_of c.match-bounds.session) reply.answer (failure-some c.args.settings.manner reply.answer failed) run.exit;
      heard = told g (goal.at.returns-then-is_terminal_failure g c).Joined-bounds _ c.meaning_laws.ensures.enough c.meaning_laws.ensures.reached c.tell_run.ensures;
    }

pub returns : goal.returns
returns g c =
    let run = ran g (goal.at.returns g c).Joined-bounds in
    let reply : Reply = record { answer = c.match-bounds.answered.answer; typed = run.typed } in
    let well : is_terminal_failure reply.answer ≡ false = sym c.is_terminal_failure.ensures ∙ c.if-is_terminal_failure.false in
    record {
      done = (
        reply ∷ [],
        (reply, refl, run.ran),
        subst (λ l. Puts (g.T.Terminal.screen c.args.term.now) (g.T.Terminal.screen c.show_ending.new.term) l c.show_ending.result) (sym (append-nil (run.typed ++ message c.args.settings.manner reply.answer)))
            (Puts-after (g.T.Terminal.screen c.show_ending.new.term) (message c.args.settings.manner reply.answer) c.show_ending.result
            (subst (λ b. Shows (g.T.Terminal.screen c.args.term.now) (g.T.Terminal.screen c.match-bounds.term) run.typed b) well run.shows) c.show_ending.ensures.puts),
        on_err_weaker c.show_ending.result (message-some c.args.settings.manner reply) c.show_ending.ensures.some,
      );
      err = on_err_weaker c.show_ending.result (λ some. message-no_exit c.args.settings.manner c.args.text.now (history_of c.args.session.now) (history_of c.match-bounds.session) reply.answer some run.exit) c.show_ending.ensures.some;
      heard = HearsAllDone-trans g.L.Listens.hears _ _ _ _ _ _ (told g (goal.at.returns g c).Joined-bounds _ c.meaning_laws.ensures.enough c.meaning_laws.ensures.reached c.tell_run.ensures)
          (HearsAllDone-shown g.L.Listens.hears c.show_ending.result _ _ (history_of c.match-bounds.session) _ refl c.show_ending.ensures.heard c.show_ending.ensures.unheard);
    }
