use Rattle.std.proofs.Common.{[], ◌∷◌, ◌++◌, Some, refl}
use Rattle.teco_session.specs.Kept.{history_of}
use Rattle.teco_serve.specs.Cut.{AsksFirst, Cuts}
use Rattle.teco_serve.specs.Exchange.{HasRung, allowance}
use Rattle.teco_serve.proofs.Showing.{Shows-joins}
use Rattle.teco_serve.proofs.Servings.{GoOn-append, HeldEnds-one, exchange_more, exchange_shows}
use Rattle.teco_io.proofs.Shown.{Shows-nil}
use Rattle.teco_serve.proofs.Hearings.{HearsAllDone-none, HearsAllDone-trans}
use Rattle.teco_scan.proofs.Streams.{shorter}
use Rattle.teco_serve.proofs.serving.serve_held.Goals as goal

pub held-init : goal.held-init
held-init g c = ([], refl, record { asks = λ more. refl }, tt, Shows-nil _, HearsAllDone-none _ _ _ _ _ refl refl)

pub returns-in-Some-ended : goal.returns-in-Some-ended
returns-in-Some-ended g c =
    let inv = c.held.invariant in
    let d = c.in-Some-ended.ensures.does in
    let first : AsksFirst c.held.splitter (Some c.in-Some.asked) c.next.new.self = rw c.in-Some.is at c.in-Ok.ensures.first in
    let more = exchange_more (allowance c.args.settings.bounds (HasRung g.A.Stop.answered)) _ _ (history_of c.do_exchange-ended.new.session) _ _ _ inv.0 d.0 c.in-Some.asked inv.1 inv.2 first d.1 in
    let joins = Shows-joins (g.T.Terminal.screen c.args.term.now) (g.T.Terminal.screen c.held.term) (g.T.Terminal.screen c.do_exchange-ended.new.term) in
    record { does = (inv.0 ++ d.0 ∷ [], more.0, more.1, tt, HeldEnds-one _ _ _ joins c.args.settings.manner inv.0 inv.3 d.0 c.in-Some-ended.served inv.4 d.2); heard = HearsAllDone-trans g.L.Listens.hears _ _ _ _ _ _ inv.5 c.in-Some-ended.ensures.heard }

pub held-preserved-in_default-ended : goal.held-preserved-in_default-ended
held-preserved-in_default-ended g c =
    let inv = c.held.invariant in
    let d = c.in_default-ended.ensures.does in
    let first : AsksFirst c.held.splitter (Some c.in-Some.asked) c.next.new.self = rw c.in-Some.is at c.in-Ok.ensures.first in
    let more = exchange_more (allowance c.args.settings.bounds (HasRung g.A.Stop.answered)) _ _ (history_of c.do_exchange-ended.new.session) _ _ _ inv.0 d.0 c.in-Some.asked inv.1 inv.2 first d.1 in
    let joins = Shows-joins (g.T.Terminal.screen c.args.term.now) (g.T.Terminal.screen c.held.term) (g.T.Terminal.screen c.do_exchange-ended.new.term) in
    (inv.0 ++ d.0 ∷ [], more.0, more.1, GoOn-append inv.0 (d.0 ∷ []) inv.3 (d.2.0, tt), exchange_shows _ _ _ joins c.args.settings.manner inv.0 inv.3 d.0 inv.4 d.2.1, HearsAllDone-trans g.L.Listens.hears _ _ _ _ _ _ inv.5 c.in_default-ended.ensures.heard)

pub held-preserved : goal.held-preserved
held-preserved g c =
    let inv = c.held.invariant in
    let d = c.in_default-ended.ensures.does in
    let first : AsksFirst c.held.splitter (Some c.in-Some.asked) c.next.new.self = rw c.in-Some.is at c.in-Ok.ensures.first in
    let more = exchange_more (allowance c.args.settings.bounds (HasRung g.A.Stop.answered)) _ _ (history_of c.do_exchange-ended.new.session) _ _ _ inv.0 d.0 c.in-Some.asked inv.1 inv.2 first d.1 in
    let joins = Shows-joins (g.T.Terminal.screen c.args.term.now) (g.T.Terminal.screen c.held.term) (g.T.Terminal.screen c.do_exchange-ended.new.term) in
    (inv.0 ++ d.0 ∷ [], more.0, more.1, GoOn-append inv.0 (d.0 ∷ []) inv.3 (d.2.0, tt), exchange_shows _ _ _ joins c.args.settings.manner inv.0 inv.3 d.0 inv.4 d.2.1, HearsAllDone-trans g.L.Listens.hears _ _ _ _ _ _ inv.5 c.in_default-ended.ensures.heard)

pub held-smaller-in_default-ended : goal.held-smaller-in_default-ended
held-smaller-in_default-ended g c =
    let cut : Cuts c.held.splitter (Some c.in-Some.asked) c.next.new.self = rw c.in-Some.is at c.in-Ok.ensures.cut in
    shorter cut.0 c.next.new.self cut.2

pub held-smaller : goal.held-smaller
held-smaller g c =
    let cut : Cuts c.held.splitter (Some c.in-Some.asked) c.next.new.self = rw c.in-Some.is at c.in-Ok.ensures.cut in
    shorter cut.0 c.next.new.self cut.2
