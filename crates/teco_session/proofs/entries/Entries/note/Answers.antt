use Rattle.std.proofs.Common.{ap}
use Rattle.circular_buffer.specs.Buffer.{Buffer}
use Rattle.teco_session.specs.Entries.{strings_of, depth_of}
use Rattle.teco_session.specs.declared.entry.Entry.{Entry}
use Rattle.teco_session.proofs.Places.{strings_grown, strings_kept}
use Rattle.teco_session.proofs.entries.Entries.note.Goals as goal

pub returns-in-Last-clause-strings : goal.returns-in-Last-clause-strings
returns-in-Last-clause-strings c =
    strings_kept c.in-Last.ring.capacity _ _ c.in-Last.ring.items _ c.args.entry (ap depth_of c.in-Last.is) (ap strings_of c.in-Last.is) (ap (λ (b : Buffer Entry). b.items) c.push_back.ensures.items)

pub returns-in-All-clause-strings : goal.returns-in-All-clause-strings
returns-in-All-clause-strings c = strings_grown _ _ c.in-All.all.items _ c.args.entry (ap depth_of c.in-All.is) (ap strings_of c.in-All.is) c.push_reserved.ensures.items
