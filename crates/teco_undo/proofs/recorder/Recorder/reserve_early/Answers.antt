use Rattle.std.proofs.Common.{ap, arith, ◌≡◌}
use Rattle.teco_undo.specs.Follows.{Recording}
use Rattle.teco_undo.specs.Listing.{spare_after}
use Rattle.teco_undo.proofs.Rooms.{has_places, room_found}
use Rattle.teco_undo.proofs.recorder.Recorder.reserve_early.Goals as goal

pub returns-clause-spare : goal.returns-clause-spare
returns-clause-spare c =
    let d : c.self.inside.done ≡ c.args.self.now.done = ap (λ (r : Recording). r.done) c.self.view_is in
    room_found c.reserve.result c.self.inside.done c.args.changes c.args.apart c.reserve.new.self (λ late. absurd (omega arith)) c.reserve.ensures.spare
    c.reserve.ensures.apart

pub returns-clause-with_room : goal.returns-clause-with_room
returns-clause-with_room c = λ spare apart.
    let s : spare_after c.self.inside.done c.self.inside.entry ≡ c.args.self.now.spare = ap (λ (r : Recording). r.spare) c.self.view_is in
    let a : c.self.inside.entry.apart ≡ c.args.self.now.apart = ap (λ (r : Recording). r.apart) c.self.view_is in
    let places = has_places c.self.inside.done c.args.changes c.self.inside.entry (omega arith) in
    c.reserve.ensures.succeeds places.0 (omega arith)
