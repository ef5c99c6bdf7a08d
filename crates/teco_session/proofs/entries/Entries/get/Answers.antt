use Rattle.std.proofs.Common.{sym, ap, arith}
use Rattle.std.proofs.lemmas.Grind.{common_steps}
use Rattle.std.proofs.lemmas.Option.{get_or_from_slice_get}
use Rattle.teco_session.specs.Entries.{strings_of}
use Rattle.teco_session.proofs.Places.{string_read}
use Rattle.teco_session.proofs.entries.Entries.get.Goals as goal

pub index-requires : goal.index-requires
index-requires c = grind (arith, common_steps)

pub unreachable-unreachable : goal.unreachable-unreachable
unreachable-unreachable c = grind (arith, common_steps)

pub returns-in-All : goal.returns-in-All
returns-in-All c = grind (arith, common_steps)

pub returns-in-Some : goal.returns-in-Some
returns-in-Some c =
    let entry = c.in-Some.entry.now in
    let read = get_or_from_slice_get c.in-Last.ring.items c.args.i entry entry (sym c.in-Some.ensures) in
    sym (string_read _ c.in-Last.ring.items entry c.args.i (ap strings_of c.in-Last.is) c.requires (sym read))
