use Rattle.teco_undo.proofs.Bounds.{held_back, held_turned}
use Rattle.teco_undo.proofs.Cuts.{comes_so_far}
use Rattle.teco_undo.proofs.Entries.{comes_forth_again, comes_back_again}
use Rattle.teco_undo.proofs.Leading.{leads}
use Rattle.teco_undo.proofs.Recordings.{FitsBack-more, come_extended}
use Rattle.teco_undo.proofs.laws.record_laws.Goals as goal

pub returns : goal.returns
returns c = record {
  back = comes_forth_again;
  forth = comes_back_again;
  more = FitsBack-more;
  held = λ cs b. record { now = held_back cs b; turned = held_turned cs b };
  leads = leads;
  extended = come_extended;
  cut = comes_so_far;
}
