use Rattle.std.proofs.Common.{◌≡◌, ◌-◌, List, [], ◌++◌, false}
use Rattle.teco_session.specs.Kept.{history_of}
use Rattle.teco_session.specs.History.{History}
use Rattle.teco_session.specs.Step.{Reply}
use Rattle.teco_io.specs.Terminal.{Shows}
use Rattle.teco_serve.specs.Exchange.{Repeats}
use Rattle.teco_serve.specs.Hearing.{HearsAllDone}
use Rattle.teco_serve.specs.Message.{replies_shown}
use Rattle.teco_serve.proofs.exchange.repeat.Given as goal

abbrev pub invariant-moves : goal.invariant-moves
invariant-moves g l = record {
  shown : Shows (g.T.Terminal.screen l.initial.term) (g.T.Terminal.screen l.term) [] false;
  moved : (replies : List Reply) × (replies_shown l.settings.manner replies ≡ [])
      × ((rest : List Reply) (new : History) → Repeats l.settings.bounds.steps l.request (l.n - l._i) (history_of l.session) rest new → Repeats l.settings.bounds.steps l.request l.n (history_of l.initial.session) (replies ++ rest) new);
  heard : HearsAllDone g.L.Listens.hears l.initial.listener l.listener (history_of l.initial.session) (history_of l.session);
}
