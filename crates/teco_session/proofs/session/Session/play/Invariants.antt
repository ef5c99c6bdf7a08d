use Rattle.std.proofs.Common.{◌≡◌, List, take, length, vec_len}
use Rattle.std.specs.Vec.{vec_capacity}
use Rattle.teco_session.specs.Kept.{history_of}
use Rattle.teco_session.specs.Step.{Reply}
use Rattle.teco_session.specs.Play.{Play, ShowsAll, answers_of}
use Rattle.teco_session.proofs.session.Session.play.Given as goal

abbrev pub invariant-loop-request : goal.invariant-loop-request
invariant-loop-request g l = record {
  room : vec_capacity l.answers ≡ length l.requests;
  filled : vec_len l.answers ≡ l.request-index;
  played : (replies : List Reply) × (l.answers.items ≡ answers_of replies)
      × Play l.limit (history_of l.initial.self) (take l.request-index l.requests) replies (history_of l.self)
      × ShowsAll (g.T.Terminal.screen l.initial.term) (g.T.Terminal.screen l.term) replies;
}
