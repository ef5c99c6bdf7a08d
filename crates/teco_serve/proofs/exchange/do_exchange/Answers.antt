use Rattle.std.proofs.Common.{◌≡◌, ℕ, List, [], ◌++◌, true, false, refl, sym, ap, ◌∙◌, subst, Result, if◌then◌else◌}
use Rattle.teco_session.specs.Kept.{history_of}
use Rattle.teco_io.specs.Terminal.{Shows}
use Rattle.teco_io.specs.declared.terminal.TerminalFault.{TerminalFault}
use Rattle.teco_session.specs.History.{History, present}
use Rattle.teco_session.specs.Step.{Reply}
use Rattle.teco_session.specs.declared.request.Request.TheVariants as request
use Rattle.teco_io.proofs.Shown.{Shows-trans, front-after, front-longer, nonempty_before, nonempty_after}
use Rattle.teco_fs.proofs.Writings.{on_err_by}
use Rattle.teco_serve.specs.Cut.{value_of}
use Rattle.teco_serve.specs.Hearing.{HearsAllDone}
use Rattle.teco_serve.specs.Message.{replies_shown, star}
use Rattle.teco_serve.specs.Exchange.{BreaksOff, Exchange, HasRung, Repeats, allowance, exits}
use Rattle.teco_serve.proofs.Exchanges.{IsDone, exits_from, shown_exit, shown_on}
use Rattle.teco_serve.proofs.exchange.do_exchange.Given as given
use Rattle.teco_serve.proofs.exchange.do_exchange.Goals as goal
use Rattle.teco_serve.proofs.exchange.do_exchange.Goals.{Joined-asked, in-Run, in-Undo, in-Redo, in-Rewind+in-Run-1, in-Rewind+in-Undo-1}

-- rewinds to the same step
rewound : {m n : ℕ} (limit : ℕ) (old : History) (replies : List Reply) (new : History) → m ≡ n
    → Repeats limit (request.Rewind m) 1 old replies new → Repeats limit (request.Rewind n) 1 old replies new
rewound limit old replies new same = subst (λ (k : ℕ). Repeats limit (request.Rewind k) 1 old replies new) same

-- what was done, whichever way it was asked
done : (g : given.Over) (c : Joined-asked g) {shown : Result (Unit {0}) TerminalFault} → c.match-asked.shown ≡ shown
    → IsDone (allowance c.args.settings.bounds (HasRung g.A.Stop.answered)) c.args.settings.manner (value_of c.args.asked.now) (history_of c.args.session.now) (history_of c.match-asked.session)
    (g.T.Terminal.screen c.args.term.now) (g.T.Terminal.screen c.match-asked.term) shown
done g c is = rw (← is) (elim c.match-asked.branch [
  | in-Run w ↦
      let ran = w.run_text-shown.ensures in
      rw (w.in-Run.is, w.session-is, w.term-is, w.shown-is, ← w.as_slice.ensures.value) (record { replies = ran.done.0; does = ran.done.1; puts = ran.done.2; some = ran.done.3; no_exit = ran.err })
  | in-Undo w ↦
      let moved = w.repeat-shown.ensures.done in
      rw (w.in-Undo.is, w.session-is, w.term-is, w.shown-is) (record { replies = moved.0; does = moved.1; puts = moved.2; some = moved.3; no_exit = on_err_by w.repeat-shown.result (refl {a = false}) })
  | in-Redo w ↦
      let moved = w.repeat-shown-in-Redo.ensures.done in
      rw (w.in-Redo.is, w.session-is, w.term-is, w.shown-is) (record { replies = moved.0; does = moved.1; puts = moved.2; some = moved.3; no_exit = on_err_by w.repeat-shown-in-Redo.result (refl {a = false}) })
  | in-Rewind+in-Run-1 w ↦
      let moved = w.repeat-shown-in-Rewind.ensures.done in
      rw (w.in-Rewind.is, w.session-is, w.term-is, w.shown-is) (record { replies = moved.0; does = rewound c.args.settings.bounds.steps (history_of c.args.session.now) moved.0 (history_of w.repeat-shown-in-Rewind.new.session) w.from.ensures moved.1; puts = moved.2; some = moved.3; no_exit = on_err_by w.repeat-shown-in-Rewind.result (refl {a = false}) })
  | in-Rewind+in-Undo-1 w ↦
      let moved = w.repeat-shown-in-Rewind.ensures.done in
      rw (w.in-Rewind.is, w.session-is, w.term-is, w.shown-is) (record { replies = moved.0; does = rewound c.args.settings.bounds.steps (history_of c.args.session.now) moved.0 (history_of w.repeat-shown-in-Rewind.new.session) w.from.ensures moved.1; puts = moved.2; some = moved.3; no_exit = on_err_by w.repeat-shown-in-Rewind.result (refl {a = false}) })
])

-- what the listener heard, whichever way it was asked
heard : (g : given.Over) (c : Joined-asked g)
    → HearsAllDone g.L.Listens.hears c.args.listener.now c.match-asked.listener (history_of c.args.session.now) (history_of c.match-asked.session)
heard g c = elim c.match-asked.branch [
  | in-Run w ↦ rw (w.session-is, w.listener-is) w.run_text-shown.ensures.heard
  | in-Undo w ↦ rw (w.session-is, w.listener-is) w.repeat-shown.ensures.heard
  | in-Redo w ↦ rw (w.session-is, w.listener-is) w.repeat-shown-in-Redo.ensures.heard
  | in-Rewind+in-Run-1 w ↦ rw (w.session-is, w.listener-is) w.repeat-shown-in-Rewind.ensures.heard
  | in-Rewind+in-Undo-1 w ↦ rw (w.session-is, w.listener-is) w.repeat-shown-in-Rewind.ensures.heard
]

pub returns-in-Err : goal.returns-in-Err
returns-in-Err g c =
    let d = done g (goal.at.returns-in-Err g c).Joined-asked c.in-Err.is in
    let x : Exchange = record { asked = value_of c.args.asked.now; before = history_of c.args.session.now; replies = d.replies; after = history_of c.match-asked.session } in
    let rest = if exits x then [] else star c.args.settings.manner.prompt in
    record {
      does = (
        x,
        record { asked_is = refl; before_is = refl; after_is = refl; does = d.does },
        (
          d.no_exit,
          record { some = nonempty_before (replies_shown c.args.settings.manner d.replies) rest d.some; front = d.puts.0; beginning = front-longer d.puts.0 (replies_shown c.args.settings.manner d.replies) rest d.puts.1; shows = d.puts.2 },
        ),
      );
      heard = heard g (goal.at.returns-in-Err g c).Joined-asked;
    }

pub returns-then-exits : goal.returns-then-exits
returns-then-exits g c =
    let d = done g (goal.at.returns-then-exits g c).Joined-asked c.in_default.is in
    let x : Exchange = record { asked = value_of c.args.asked.now; before = history_of c.args.session.now; replies = d.replies; after = history_of c.match-asked.session } in
    let was : c.done-was_done.result ≡ (present x.before).is_done = c.done-was_done.ensures ∙ ap (λ s. s.is_done) c.editor.ensures.present in
    let now : c.done.result ≡ (present x.after).is_done = c.done.ensures ∙ ap (λ s. s.is_done) c.editor-2.ensures.present in
    let same : c.exits.result ≡ exits x = exits_from x c.exits.result c.done-was_done.result c.done.result c.exits.ensures was now in
    let ends : exits x ≡ true = sym same ∙ c.if-exits.true in
    record {
      does = (
        x,
        record { asked_is = refl; before_is = refl; after_is = refl; does = d.does },
        (
          ends,
          subst (λ l. Shows (g.T.Terminal.screen c.args.term.now) (g.T.Terminal.screen c.match-asked.term) l false) (sym (shown_exit c.args.settings.manner x ends)) d.puts,
        ),
      );
      heard = heard g (goal.at.returns-then-exits g c).Joined-asked;
    }

pub returns-in-Err-show_prompt : goal.returns-in-Err-show_prompt
returns-in-Err-show_prompt g c =
    let d = done g (goal.at.returns-in-Err-show_prompt g c).Joined-asked c.in_default.is in
    let p = c.in-Err-show_prompt.ensures.puts in
    let x : Exchange = record { asked = value_of c.args.asked.now; before = history_of c.args.session.now; replies = d.replies; after = history_of c.match-asked.session } in
    let was : c.done-was_done.result ≡ (present x.before).is_done = c.done-was_done.ensures ∙ ap (λ s. s.is_done) c.editor.ensures.present in
    let now : c.done.result ≡ (present x.after).is_done = c.done.ensures ∙ ap (λ s. s.is_done) c.editor-2.ensures.present in
    let same : c.exits.result ≡ exits x = exits_from x c.exits.result c.done-was_done.result c.done.result c.exits.ensures was now in
    let on : exits x ≡ false = sym same ∙ c.if-exits.false in
    let shown = shown_on c.args.settings.manner x on in
    record {
      does = (
        x,
        record { asked_is = refl; before_is = refl; after_is = refl; does = d.does },
        (
          on,
          subst (λ l. BreaksOff (Shows (g.T.Terminal.screen c.args.term.now) (g.T.Terminal.screen c.show_prompt.new.term)) [] l) (sym shown) (record {
            some = nonempty_after (replies_shown c.args.settings.manner d.replies) (star c.args.settings.manner.prompt) c.in-Err-show_prompt.ensures.some;
            front = replies_shown c.args.settings.manner d.replies ++ p.0;
            beginning = front-after (replies_shown c.args.settings.manner d.replies) p.0 (star c.args.settings.manner.prompt) p.1;
            shows = Shows-trans d.puts p.2;
          }),
        ),
      );
      heard = heard g (goal.at.returns-in-Err-show_prompt g c).Joined-asked;
    }

pub returns : goal.returns
returns g c =
    let d = done g (goal.at.returns g c).Joined-asked c.in_default.is in
    let p = c.in_default-show_prompt.ensures.puts in
    let x : Exchange = record { asked = value_of c.args.asked.now; before = history_of c.args.session.now; replies = d.replies; after = history_of c.match-asked.session } in
    let was : c.done-was_done.result ≡ (present x.before).is_done = c.done-was_done.ensures ∙ ap (λ s. s.is_done) c.editor.ensures.present in
    let now : c.done.result ≡ (present x.after).is_done = c.done.ensures ∙ ap (λ s. s.is_done) c.editor-2.ensures.present in
    let same : c.exits.result ≡ exits x = exits_from x c.exits.result c.done-was_done.result c.done.result c.exits.ensures was now in
    let on : exits x ≡ false = sym same ∙ c.if-exits.false in
    record {
      does = (
        x,
        record { asked_is = refl; before_is = refl; after_is = refl; does = d.does },
        (
          on,
          subst (λ l. Shows (g.T.Terminal.screen c.args.term.now) (g.T.Terminal.screen c.show_prompt.new.term) l false) (sym (shown_on c.args.settings.manner x on)) (Shows-trans d.puts p),
        ),
      );
      heard = heard g (goal.at.returns g c).Joined-asked;
    }
