use Rattle.teco_ffi.proofs.stopper.Stopper.TheSendSync.{the_send}
use Rattle.teco_ffi.proofs.laws.stopper_laws.Goals as goal

pub returns : goal.returns
returns c = record { crosses = the_send }
