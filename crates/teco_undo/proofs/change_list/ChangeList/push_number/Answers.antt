use Rattle.std.proofs.Common.{length}
use Rattle.teco_undo.proofs.Listing.{in_place-push_here}
use Rattle.teco_undo.proofs.change_list.ChangeList.push_number.Goals as goal

pub invariant_of-self : goal.invariant_of-self
invariant_of-self c = rw c.push_reserved.ensures.items (in_place-push_here 0 c.self.inside.slots.items (length c.self.inside.apart.items) _ c.self.invariant tt)
