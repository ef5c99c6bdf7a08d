use Rattle.std.proofs.Common.{List, length, false}
use Rattle.teco_session.specs.Kept.{history_of}
use Rattle.teco_io.specs.Terminal.{Shows}
use Rattle.teco_serve.specs.Exchange.{Exchange, HasRung, allowance}
use Rattle.teco_serve.specs.Hearing.{HearsAllDone}
use Rattle.teco_serve.specs.Serving.{Exchanges, GoOn, exchanges_shown}
use Rattle.teco_serve.specs.Held.{CutsOff}
use Rattle.teco_serve.proofs.serving.serve_held.Given as goal

abbrev pub invariant-held : goal.invariant-held
invariant-held g l =
    (exchanges : List Exchange) × Exchanges (allowance l.settings.bounds (HasRung g.A.Stop.answered)) (history_of l.initial.session) exchanges (history_of l.session) × CutsOff l.initial.splitter exchanges l.splitter × GoOn exchanges
    × Shows (g.T.Terminal.screen l.initial.term) (g.T.Terminal.screen l.term) (exchanges_shown l.settings.manner exchanges) false
    × HearsAllDone g.L.Listens.hears l.initial.listener l.listener (history_of l.initial.session) (history_of l.session)

abbrev pub decreases-held : goal.decreases-held
decreases-held g l = length l.splitter
