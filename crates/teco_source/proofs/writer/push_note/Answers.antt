use Rattle.std.proofs.Common.{◌∷◌, map, arith}
use Rattle.std.proofs.lemmas.Grind.{common_steps}
use Rattle.teco_source.specs.Listing.{in_comment}
use Rattle.teco_source.proofs.Writing.{space_before}
use Rattle.teco_source.proofs.writer.push_note.Goals as goal

pub returns : goal.returns
returns c = grind (arith, common_steps, space_before c.in-Some.note.spaces (33 ∷ 33 ∷ map in_comment c.in-Some.note.text.now))
