use Rattle.std.proofs.Common.{◌≡◌, ◌+◌, ◌-◌, [], ◌∷◌, ◌++◌, true, false, refl, sym, ◌∙◌, subst, append-nil, append_assoc, arith}
use Rattle.std.specs.Prelude.{◌≢◌, OnErr}
use Rattle.teco_session.specs.Kept.{history_of}
use Rattle.teco_io.specs.Terminal.{Shows, Puts}
use Rattle.teco_session.specs.Answers.{is_refused}
use Rattle.teco_session.specs.Step.{Reply}
use Rattle.teco_serve.specs.Exchange.{Repeats}
use Rattle.teco_serve.specs.Message.{message}
use Rattle.teco_serve.proofs.Exchanges.{Repeats-on, Repeats-refused, less_one, replies_shown-one, request_quiet}
use Rattle.teco_serve.proofs.Hearings.{HearsAllDone-besides, HearsAllDone-none, HearsAllDone-request, HearsAllDone-shown, HearsAllDone-trans}
use Rattle.teco_io.proofs.Shown.{Puts-after, Shows-nil, Shows-trans}
use Rattle.teco_serve.proofs.exchange.repeat.Goals as goal

pub moves-init : goal.moves-init
moves-init g c =
    let all : c.args.n - 0 ≡ c.args.n = omega arith in
    record { shown = Shows-nil _; moved = ([], refl, λ rest new p. subst (λ k. Repeats c.args.settings.bounds.steps c.args.request.now k (history_of c.args.session.now) rest new) all p); heard = HearsAllDone-none _ _ _ _ _ refl refl }

pub returns-then-is_refused : goal.returns-then-is_refused
returns-then-is_refused g c =
    let m = c.moves.invariant.moved in
    let s = c.answer-answer.ensures in
    let reply : Reply = record { answer = c.answer-answer.result; typed = s.0 } in
    let new = history_of c.answer-answer.new.self in
    let quiet = request_quiet c.args.settings.manner c.args.settings.bounds.steps (history_of c.moves.session) new c.args.request.now reply c.requires s.1 in
    let refused : is_refused reply.answer ≡ true = sym c.is_refused.ensures ∙ c.if-is_refused.true in
    let last = Repeats-refused c.args.settings.bounds.steps c.args.request.now (c.args.n - (c.moves._i + 1)) (history_of c.moves.session) new reply s.1 refused in
    let one = replies_shown-one c.args.settings.manner m.0 reply m.1 quiet.typed_none in
    let before = subst (λ b. Shows (g.T.Terminal.screen c.moves.term) (g.T.Terminal.screen c.answer-answer.new.term) s.0 b) quiet.well s.2 in
    let silent = subst (λ l. Shows (g.T.Terminal.screen c.moves.term) (g.T.Terminal.screen c.answer-answer.new.term) l false) quiet.typed_none before in
    let told = HearsAllDone-request g.L.Listens.hears c.replay_laws.ensures.tell c.replay_laws.ensures.happen _ _ c.args.settings.bounds.steps _ new c.args.request.now reply s.1 c.tell_request.ensures in
    let shown = HearsAllDone-shown g.L.Listens.hears c.show_refusal.result _ _ new _ refl c.show_refusal.ensures.heard c.show_refusal.ensures.unheard in
    record {
      done = (
        m.0 ++ reply ∷ [],
        m.2 (reply ∷ []) new (subst (λ k. Repeats c.args.settings.bounds.steps c.args.request.now k (history_of c.moves.session) (reply ∷ []) new) (sym (less_one c.args.n c.moves._i (omega arith))) last),
        subst (λ l. Puts (g.T.Terminal.screen c.args.term.now) (g.T.Terminal.screen c.show_refusal.new.term) l c.show_refusal.result) (sym one)
            (Puts-after (g.T.Terminal.screen c.show_refusal.new.term) (message c.args.settings.manner reply.answer) c.show_refusal.result (Shows-trans c.moves.invariant.shown silent) c.show_refusal.ensures.puts),
        subst (λ l. OnErr c.show_refusal.result (l ≢ [])) (sym one) c.show_refusal.ensures.some,
      );
      heard = HearsAllDone-trans g.L.Listens.hears _ _ _ _ _ _ c.moves.invariant.heard (HearsAllDone-trans g.L.Listens.hears _ _ _ _ _ _ told shown);
    }

pub moves-preserved : goal.moves-preserved
moves-preserved g c =
    let m = c.moves.invariant.moved in
    let s = c.answer-answer.ensures in
    let reply : Reply = record { answer = c.answer-answer.result; typed = s.0 } in
    let mid = history_of c.answer-answer.new.self in
    let quiet = request_quiet c.args.settings.manner c.args.settings.bounds.steps (history_of c.moves.session) mid c.args.request.now reply c.requires s.1 in
    let on : is_refused reply.answer ≡ false = sym c.is_refused.ensures ∙ c.if-is_refused.false in
    let before = subst (λ b. Shows (g.T.Terminal.screen c.moves.term) (g.T.Terminal.screen c.answer-answer.new.term) s.0 b) quiet.well s.2 in
    let silent = subst (λ l. Shows (g.T.Terminal.screen c.moves.term) (g.T.Terminal.screen c.answer-answer.new.term) l false) quiet.typed_none before in
    let told = HearsAllDone-request g.L.Listens.hears c.replay_laws.ensures.tell c.replay_laws.ensures.happen _ _ c.args.settings.bounds.steps _ mid c.args.request.now reply s.1 c.tell_request.ensures in
    record {
      heard = HearsAllDone-trans g.L.Listens.hears _ _ _ _ _ _ c.moves.invariant.heard told;
      shown = Shows-trans c.moves.invariant.shown silent;
      moved = (
        m.0 ++ reply ∷ [],
        replies_shown-one c.args.settings.manner m.0 reply m.1 quiet.typed_none ∙ quiet.silent on,
        λ rest new p.
            subst (λ l. Repeats c.args.settings.bounds.steps c.args.request.now c.args.n (history_of c.args.session.now) l new) (sym (append_assoc m.0 (reply ∷ []) rest))
            (m.2 (reply ∷ rest) new (subst (λ k. Repeats c.args.settings.bounds.steps c.args.request.now k (history_of c.moves.session) (reply ∷ rest) new) (sym (less_one c.args.n c.moves._i (omega arith)))
            (Repeats-on c.args.settings.bounds.steps c.args.request.now (c.args.n - (c.moves._i + 1)) (history_of c.moves.session) mid new reply rest s.1 on p))),
      );
    }

pub returns : goal.returns
returns g c =
    let m = c.moves.invariant.moved in
    let none : 0 ≡ c.args.n - c.moves._i = omega arith in
    record {
      done = (
        m.0,
        subst (λ l. Repeats c.args.settings.bounds.steps c.args.request.now c.args.n (history_of c.args.session.now) l (history_of c.moves.session)) (append-nil m.0)
            (m.2 [] (history_of c.moves.session) (subst (λ k. Repeats c.args.settings.bounds.steps c.args.request.now k (history_of c.moves.session) [] (history_of c.moves.session)) none (refl, refl))),
        subst (λ l. Shows (g.T.Terminal.screen c.args.term.now) (g.T.Terminal.screen c.moves.term) l false) (sym m.1) c.moves.invariant.shown,
        tt,
      );
      heard = HearsAllDone-trans g.L.Listens.hears _ _ _ _ _ _ c.moves.invariant.heard (HearsAllDone-besides g.L.Listens.hears _ _ (history_of c.moves.session) _ refl c.moved.ensures.told);
    }
