use Rattle.teco_journal.proofs.Fronts.{written_is_read, bytes_tell_once, fronts_tell_fronts, crashes_lose_one, changed_lines_stop}
use Rattle.teco_journal.proofs.laws.journal_laws.Goals as goal

pub returns : goal.returns
returns c = record {
  written = written_is_read;
  once = bytes_tell_once;
  fronts = fronts_tell_fronts;
  crashes = crashes_lose_one;
  changed = changed_lines_stop;
}
