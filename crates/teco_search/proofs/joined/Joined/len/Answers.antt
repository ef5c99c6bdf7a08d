use Rattle.std.proofs.Common.{subst}
use Rattle.teco_search.specs.ByteSet.{AreBytes}
use Rattle.teco_search.proofs.joined.Joined.len.Goals as goal

pub returns-clause-bytes : goal.returns-clause-bytes
returns-clause-bytes c = subst AreBytes c.self.view_is c.self.invariant
