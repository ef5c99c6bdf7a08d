use Rattle.teco_search.proofs.Tables.{AreBytes-append}
use Rattle.teco_search.proofs.joined.Joined.new.Goals as goal

pub invariant_of-result : goal.invariant_of-result
invariant_of-result c = AreBytes-append c.args.before.now c.args.after.now c.type_inv.before c.type_inv.after
