use Rattle.teco_search.proofs.Plain.{reads_as_itself, matches_where_it_is}
use Rattle.teco_search.proofs.law.literal_texts.Goals as goal

pub returns : goal.returns
returns c = record {
  read = λ bytes. reads_as_itself bytes;
  matches = λ bytes text p q some. matches_where_it_is bytes text p q some;
}
