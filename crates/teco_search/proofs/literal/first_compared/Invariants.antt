use Rattle.memchr.specs.Find.{Nowhere, OccursAt}
use Rattle.teco_search.proofs.literal.first_compared.Given as goal

abbrev pub invariant-starts : goal.invariant-starts
invariant-starts l = Nowhere (OccursAt l.text l.bytes) l.from l.start
