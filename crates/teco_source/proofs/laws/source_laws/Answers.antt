use Rattle.teco_source.proofs.LayoutLaws.{comments_are_nothing, comment_lines_are_nothing, blanks_are_nothing, margins_are_nothing, breaks_are_nothing}
use Rattle.teco_source.proofs.PlaceLaws.{places_grow}
use Rattle.teco_source.proofs.Places.{places_are_first}
use Rattle.teco_source.proofs.Written.{all_is_read}
use Rattle.teco_source.proofs.laws.source_laws.Goals as goal

pub returns : goal.returns
returns c = record {
  comments = comments_are_nothing;
  comment_lines = comment_lines_are_nothing;
  blanks = blanks_are_nothing;
  margins = margins_are_nothing;
  breaks = breaks_are_nothing;
  places = places_are_first;
  grow = places_grow;
  lines = all_is_read;
}
