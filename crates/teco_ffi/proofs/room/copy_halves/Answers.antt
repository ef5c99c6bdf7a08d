use Rattle.teco_ffi.proofs.Filling.{filled_halves}
use Rattle.teco_ffi.proofs.room.copy_halves.Goals as goal

pub returns : goal.returns
returns c = cc (c.copy_front.ensures, c.copy_front-2.ensures, c.split_at_mut-first.ensures.front, c.split_at_mut-first.ensures.back, c.min-split.ensures, filled_halves c.args.room.now c.args.before.now c.args.after.now)
