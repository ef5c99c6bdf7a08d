use Rattle.std.proofs.Common.{◌≡◌, ◌+◌, [], ◌++◌, ◌∷◌, take, refl, sym, ap, ◌∙◌, subst, arith, rules}
use Rattle.std.proofs.lemmas.List.{take_all, take_more}
use Rattle.teco_session.specs.Kept.{history_of}
use Rattle.teco_session.specs.Step.{Reply}
use Rattle.teco_session.specs.Play.{Play}
use Rattle.teco_session.proofs.Histories.{Play-more, answers_of-more, ShowsAll-nil, ShowsAll-more}
use Rattle.teco_session.proofs.session.Session.play.Goals as goal

pub loop-request-preserved : goal.loop-request-preserved
loop-request-preserved g c =
    let p = c.loop-request.invariant.played in
    let s = c.answer-answer.ensures in
    let i = c.loop-request.request-index in
    let xs = c.args.requests.now in
    let reply : Reply = record { answer = c.answer-answer.result; typed = s.0 } in
    let front : take (i + 1) xs ≡ take i xs ++ c.request-item.result ∷ [] =
    take_more xs i c.request-item.result c.loop-request-test.true ∙ ap (λ r. take i xs ++ r ∷ []) (sym c.request-item.is) in
    record {
      room = c.push_reserved.ensures.capacity ∙ c.loop-request.invariant.room;
      filled = c.push_reserved.ensures.len ∙ ap (λ k. k + 1) c.loop-request.invariant.filled;
      played = (
        p.0 ++ reply ∷ [],
        c.push_reserved.ensures.items ∙ ap (λ l. l ++ reply.answer ∷ []) p.1 ∙ sym (answers_of-more p.0 reply),
        subst (λ l. Play c.args.limit (history_of c.args.self.now) l (p.0 ++ reply ∷ []) (history_of c.answer-answer.new.self)) (sym front) (Play-more _ _ _ _ _ _ _ _ p.2 s.1),
        ShowsAll-more p.0 reply p.3 s.2,
      );
    }

pub loop-request-init : goal.loop-request-init
loop-request-init g c = record {
  room = search rules;
  filled = c.in_ok-answers.ensures.len;
  played = ([], c.in_ok-answers.ensures.items, refl, ShowsAll-nil _);
}

pub push_reserved-requires : goal.push_reserved-requires
push_reserved-requires g c = omega (arith, c.loop-request.invariant.room, c.loop-request.invariant.filled, c.loop-request-test.true)

pub returns-clause-play : goal.returns-clause-play
returns-clause-play g c =
    let p = c.loop-request.invariant.played in
    let all = take_all c.loop-request.request-index c.args.requests.now c.loop-request-test.false in
    (p.0, p.1, subst (λ l. Play c.args.limit (history_of c.args.self.now) l p.0 (history_of c.loop-request.self)) all p.2, p.3)
