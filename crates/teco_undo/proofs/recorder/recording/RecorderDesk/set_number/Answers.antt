use Rattle.std.proofs.Common.{ap, arith, ◌≡◌, ◌≤◌, ◌^◌}
use Rattle.teco_undo.specs.Follows.{Recording}
use Rattle.teco_undo.proofs.Rooms.{first_apart}
use Rattle.teco_undo.proofs.recorder.recording.RecorderDesk.set_number.Goals as goal

pub returns-then-self-ge4294967296-clause-with_room : goal.returns-then-self-ge4294967296-clause-with_room
returns-then-self-ge4294967296-clause-with_room c = λ some.
    let late : 2 ^ 32 ≤ c.self.inside.done = let h = c.if-self-ge4294967296.true in omega arith in
    let a : c.self.inside.entry.apart ≡ c.args.self.now.apart = ap (λ (r : Recording). r.apart) c.self.view_is in
    let there = first_apart c.self.inside.done c.args.self.now.spare c.self.inside.entry (ap (λ (r : Recording). r.spare) c.self.view_is) some.0 late in
    c.change_apart.ensures.with_room some.0 (omega arith)
