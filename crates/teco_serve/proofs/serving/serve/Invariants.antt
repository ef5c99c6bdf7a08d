use Rattle.std.proofs.Common.{◌≡◌, ℕ, List, [], false}
use Rattle.teco_session.specs.Kept.{history_of}
use Rattle.teco_io.specs.Terminal.{Shows}
use Rattle.teco_io.specs.Source.{Gives}
use Rattle.teco_scan.specs.Stream.{texts_of}
use Rattle.teco_serve.specs.Exchange.{Exchange, HasRung, allowance}
use Rattle.teco_serve.specs.Hearing.{HearsAllDone}
use Rattle.teco_serve.specs.Serving.{Exchanges, GoOn, all_shown}
use Rattle.teco_serve.specs.Held.{CutsOff}
use Rattle.teco_serve.proofs.serving.serve.Given as goal

abbrev pub invariant-pieces : goal.invariant-pieces
invariant-pieces g l =
    (bytes : List ℕ) × (exchanges : List Exchange) × Gives g.S.Source.coming g.S.Source.bound g.S.Source.failures l.fn.source l.source bytes false
    × Exchanges (allowance l.settings.bounds (HasRung g.A.Stop.answered)) (history_of l.fn.session) exchanges (history_of l.session) × CutsOff bytes exchanges l.splitter × (texts_of l.splitter ≡ []) × GoOn exchanges
    × Shows (g.T.Terminal.screen l.fn.term) (g.T.Terminal.screen l.term) (all_shown l.settings.manner exchanges) false
    × HearsAllDone g.L.Listens.hears l.fn.listener l.listener (history_of l.fn.session) (history_of l.session)

abbrev pub decreases-pieces : goal.decreases-pieces
decreases-pieces g l = g.S.Source.bound l.source
