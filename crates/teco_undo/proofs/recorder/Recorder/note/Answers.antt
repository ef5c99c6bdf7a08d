use Rattle.std.proofs.Common.{ap, arith, ◌≡◌, ◌≤◌, ◌^◌}
use Rattle.teco_undo.specs.Follows.{Recording}
use Rattle.teco_undo.specs.Listing.{spare_after}
use Rattle.teco_undo.proofs.Rooms.{first_apart, has_places}
use Rattle.teco_undo.proofs.recorder.Recorder.note.Goals as goal

pub note_apart-requires-clause-apart : goal.note_apart-requires-clause-apart
note_apart-requires-clause-apart c =
    let late : 2 ^ 32 ≤ c.self.inside.done = let h = c.if-self-ge4294967296.true in omega arith in
    let a : c.self.inside.entry.apart ≡ c.args.self.now.apart = ap (λ (r : Recording). r.apart) c.self.view_is in
    let some = first_apart c.self.inside.done c.args.self.now.spare c.self.inside.entry (ap (λ (r : Recording). r.spare) c.self.view_is) c.requires.spare late in
    omega arith

pub returns-then-self-ge4294967296-clause-apart : goal.returns-then-self-ge4294967296-clause-apart
returns-then-self-ge4294967296-clause-apart c = λ k room le.
    let late : 2 ^ 32 ≤ c.self.inside.done = let h = c.if-self-ge4294967296.true in omega arith in
    let s : spare_after c.self.inside.done c.self.inside.entry ≡ c.args.self.now.spare = ap (λ (r : Recording). r.spare) c.self.view_is in
    let a : c.self.inside.entry.apart ≡ c.args.self.now.apart = ap (λ (r : Recording). r.apart) c.self.view_is in
    let places = (has_places c.self.inside.done c.args.self.now.spare c.self.inside.entry (omega arith)).1 late in
    let spare = c.note_apart.ensures.spare in
    let apart = c.note_apart.ensures.apart in
    omega arith
