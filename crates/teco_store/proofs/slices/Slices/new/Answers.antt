use Rattle.std.proofs.Common.{refl}
use Rattle.teco_store.specs.Slices.{bytes_in}
use Rattle.teco_store.proofs.slices.Slices.new.Goals as goal

pub returns : goal.returns
unfolding bytes_in
returns c = refl
