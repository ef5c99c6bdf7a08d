use Rattle.std.proofs.Common.{◌≡◌, arith}
use Rattle.teco_store.specs.State.{State}
use Rattle.teco_session.specs.Kept.{history_of}
use Rattle.teco_debugger.specs.Walk.{before_last, walk_first, walked}
use Rattle.teco_debugger.proofs.Returning.{cut_back}
use Rattle.teco_debugger.proofs.Walked.{is_walked}
use Rattle.teco_debugger.proofs.walk.Walk.go.Goals as goal

-- a rewind to a step that was done comes to it
pub invariant_of-self : goal.invariant_of-self
invariant_of-self c =
    let walk = c.self.inside in
    let first : State = walk_first walk in
    let before = before_last (history_of walk.session) in
    let came : history_of c.rewind.new.self ≡ walked first before walk.text.items c.args.n =
    cut_back c.rewind.result c.args.n first before walk.text.items walk.steps _ _ c.self.invariant.came (omega arith) c.rewind.ensures.offers.1 c.rewind.ensures.history in
    record { small = c.self.invariant.small; came = is_walked _ first before walk.text.items c.args.n came }
