use Rattle.teco_journal.proofs.WholeHeads.{whole_heads_same}
use Rattle.teco_journal.proofs.Files.{cut_heads_are_torn, files_are_read, files_hold_once, fronts_hold_fronts, files_begin, files_grow, cut_files_lose_one}
use Rattle.teco_journal.proofs.laws.file_laws.Goals as goal

pub returns : goal.returns
returns c = record {
  heads = whole_heads_same;
  torn = cut_heads_are_torn;
  written = files_are_read;
  once = files_hold_once;
  fronts = fronts_hold_fronts;
  begin = files_begin;
  grow = files_grow;
  crashes = cut_files_lose_one;
}
