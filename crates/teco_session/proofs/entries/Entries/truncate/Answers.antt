use Rattle.std.proofs.Common.{ap}
use Rattle.circular_buffer.specs.Buffer.{Buffer}
use Rattle.teco_session.specs.Entries.{strings_of}
use Rattle.teco_session.specs.declared.entry.Entry.{Entry}
use Rattle.teco_session.proofs.Places.{strings_taken}
use Rattle.teco_session.proofs.entries.Entries.truncate.Goals as goal

pub returns-in-All-clause-strings : goal.returns-in-All-clause-strings
returns-in-All-clause-strings c = strings_taken c.args.n _ c.in-All.all.items _ (ap strings_of c.in-All.is) c.truncate.ensures.items

pub returns-in-Last-clause-strings : goal.returns-in-Last-clause-strings
returns-in-Last-clause-strings c = strings_taken c.args.n _ c.in-Last.ring.items _ (ap strings_of c.in-Last.is) (ap (λ (b : Buffer Entry). b.items) c.truncate_back.ensures)
